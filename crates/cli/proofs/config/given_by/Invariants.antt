use Rattle.std.proofs.Common.{◌≡◌, map, take}
use Rattle.cli.specs.Config.{AreMisfits, given_by}
use Rattle.kdl.specs.Words.{node_says, node_tree}
use Rattle.cli.proofs.config.given_by.Given as goal

abbrev pub invariant-loop-node : goal.invariant-loop-node
invariant-loop-node l = record {
  given : l.given ≡ given_by (map node_says (take l.node-index l.nodes));
  misfits : AreMisfits (map node_tree (take l.node-index l.nodes)) l.misfits.items;
}
