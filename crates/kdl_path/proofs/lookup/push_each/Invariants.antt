use Rattle.std.proofs.Common.{◌≡◌, ◌++◌, map, take}
use Rattle.std.specs.List.{filter}
use Rattle.kdl.specs.Words.{is_node_named}
use Rattle.kdl_path.proofs.lookup.push_each.Given as goal

-- the nodes so far that have the name are appended
abbrev pub invariant-loop-node : goal.invariant-loop-node
invariant-loop-node l = map (λ n. n.now) l.out.items ≡ map (λ n. n.now) l.fn.out.items ++ filter (is_node_named l.name) (take l.node-index l.nodes)
