use Rattle.std.proofs.Common.{◌≡◌, map, take}
use Rattle.std.specs.List.{filter_map}
use Rattle.kdl.specs.Words.{node_says, value_tree}
use Rattle.kdl_path.specs.Paths.{value_in}
use Rattle.kdl_path.proofs.lookup.get_all.Given as goal

-- the values of the nodes so far
abbrev pub invariant-loop-node : goal.invariant-loop-node
invariant-loop-node l = map (λ v. value_tree v.now) l.values.items ≡ filter_map (value_in l.path.target) (map (λ n. node_says n.now) (take l.node-index l.node-items))
