-- The nodes in memory at a path.
use Rattle.std.specs.Prelude.{◌≡◌, List, [], ◌∷◌, Option, Some, None, map, option_and_then, slice_get}
use Rattle.kdl.specs.DocumentLookups.{nodes_of}
use Rattle.kdl.specs.Iterators.{child_nodes}
use Rattle.kdl.specs.Tree.{document_says}
use Rattle.kdl.specs.declared.document.KdlDocument.{KdlDocument}
use Rattle.kdl.specs.declared.node.KdlNode.{KdlNode}
use Rattle.kdl_query.specs.Data.{Query}
use Rattle.kdl_query.specs.Selects.{IsSelection, Path}

-- the node at a path that begins at a node
abbrev pub held_below : Path → KdlNode → Option KdlNode
held_below [] n = Some n
held_below (i ∷ p) n = option_and_then (held_below p) (slice_get (child_nodes n) i)

-- the node of the document at a path, if there is one
abbrev pub held_at : Path → KdlDocument → Option KdlNode
held_at [] d = None
held_at (i ∷ p) d = option_and_then (held_below p) (slice_get (nodes_of d) i)

-- these are the nodes in memory at the paths that the query selects
pub record AreHeld (d : KdlDocument) (q : Query) (ns : List KdlNode) : Type 0 where
  pub paths : List Path
  pub selection : IsSelection (document_says d) q paths
  pub nodes : map (λ p. held_at p d) paths ≡ map Some ns
