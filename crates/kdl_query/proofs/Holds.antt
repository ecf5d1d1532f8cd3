-- The nodes in memory at a path say what is at that path in the data.
use Rattle.std.proofs.Common.{Bor, ◌≡◌, [], ◌∷◌, Option, None, Some, ap, refl, sym, ◌∙◌, option_map, slice_get, option_and_then}
use Rattle.std.proofs.lemmas.Option.{slice_get-map}
use Rattle.kdl.specs.DocumentLookups.{nodes_of}
use Rattle.kdl.specs.Iterators.{child_nodes}
use Rattle.kdl.specs.Tree.{document_says, node_says}
use Rattle.kdl.specs.declared.document.KdlDocument.{KdlDocument}
use Rattle.kdl.specs.declared.node.KdlNode.{KdlNode}
use Rattle.kdl.proofs.Finding.SaidLookups.{child_nodes_said, nodes_said}
use Rattle.kdl_query.specs.Held.{held_at, held_below}
use Rattle.kdl_query.specs.Selects.{Path, node_at, node_below}

step : (p : Path) (o : Option KdlNode) → ((n : KdlNode) → option_map node_says (held_below p n) ≡ node_below p (node_says n))
    → option_map node_says (option_and_then (held_below p) o) ≡ option_and_then (node_below p) (option_map node_says o)
step p None f = refl
step p (Some n) f = f n

below_says : (p : Path) (n : KdlNode) → option_map node_says (held_below p n) ≡ node_below p (node_says n)
below_says [] n = refl
below_says (i ∷ p) n =
    step p (slice_get (child_nodes n) i) (λ m. below_says p m)
    ∙ ap (option_and_then (node_below p)) (sym (slice_get-map node_says (child_nodes n) i) ∙ ap (λ ns. slice_get ns i) (child_nodes_said n))

pub held_says : (p : Path) (d : KdlDocument) → option_map node_says (held_at p d) ≡ node_at p (document_says d)
held_says [] d = refl
held_says (i ∷ p) d =
    step p (slice_get (nodes_of d) i) (λ m. below_says p m)
    ∙ ap (option_and_then (node_below p)) (sym (slice_get-map node_says (nodes_of d) i) ∙ ap (λ ns. slice_get ns i) (nodes_said d))

value_mapped : (r : Option (Bor KdlNode)) → option_map (λ n. node_says n.now) r ≡ option_map node_says (option_map (λ n. n.now) r)
value_mapped None = refl
value_mapped (Some n) = refl

pub found_says : (p : Path) (d : KdlDocument) (r : Option (Bor KdlNode)) → option_map (λ n. n.now) r ≡ held_at p d → option_map (λ n. node_says n.now) r ≡ node_at p (document_says d)
found_says p d r h = value_mapped r ∙ ap (option_map node_says) h ∙ held_says p d
