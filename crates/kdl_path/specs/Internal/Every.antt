-- Every node in memory to which the steps of a PATH lead.
use Rattle.std.specs.List.{flat_map}
use Rattle.std.specs.Prelude.{List, [], ◌∷◌}
use Rattle.kdl.specs.declared.node.KdlNode.{KdlNode}
use Rattle.kdl_path.specs.Internal.Located.{named_in, reached}
use Rattle.kdl_path.specs.declared.path.Step.{Step}

-- the nodes to which steps lead from the nodes of a document
abbrev pub reached_at : List Step → List KdlNode → List KdlNode
reached_at [] ns = []
reached_at (s ∷ ss) ns = flat_map (reached ss) (named_in s ns)
