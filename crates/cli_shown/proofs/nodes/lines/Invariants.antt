use Rattle.std.proofs.Common.{◌≡◌, map, string_bytes, take}
use Rattle.std.specs.List.{flat_map}
use Rattle.cli_shown.specs.Nodes.{part_shown}
use Rattle.cli_shown.proofs.nodes.lines.Given as goal

-- what is shown of each node so far
abbrev pub invariant-loop-node : goal.invariant-loop-node
invariant-loop-node l = record { text : string_bytes l.out ≡ flat_map (part_shown l.view) (map (λ n. n.now) (take l.node-index l.nodes)) }
