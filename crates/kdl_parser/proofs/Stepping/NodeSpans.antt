-- The span of nodes, from the first to the last, and the document that they make.
use Rattle.std.proofs.Common.{◌≡◌, ℕ, ◌+◌, ◌-◌, ◌^◌, List, [], ◌∷◌, Some, None, refl, ap, subst, ◌∙◌, arith}
use Rattle.std.specs.Prelude.{min, length}
use Rattle.std.specs.List.{slice_get}
use Rattle.kdl_text.specs.Chars.{Text}
use Rattle.kdl_text.specs.declared.span.SourceSpan.{SourceSpan}
use Rattle.kdl_entry.specs.Places.{span_of as text_span}
use Rattle.kdl_grammar.specs.Internal.Machine.{content_at}
use Rattle.kdl_grammar.specs.Laid.{node_span, content_span, last_end}
use Rattle.kdl_grammar.specs.Tree.{Node, document}
use Rattle.kdl_parser.specs.Internal.Parts.{nodes_tree}

abbrev end_of : SourceSpan → ℕ
end_of s = min (s.offset + s.len) (2 ^ 64 - 1)

last_at : {N : Type 0} (tree : N → Node) (n : N) (ns : List N) (b : N) → slice_get (n ∷ ns) (length ns) ≡ Some b → last_end (tree n) (nodes_tree tree ns) ≡ end_of (node_span (tree b))
last_at tree n [] b e = let f : n ≡ b = cc in ap (λ (x : _). end_of (node_span (tree x))) f
last_at tree n (m ∷ ns) b e = last_at tree m ns b e

index : {N : Type 0} (n : N) (ns : List N) → length (n ∷ ns) - 1 ≡ length ns
index n ns = omega arith

pub spans : {N : Type 0} (tree : N → Node) (ns : List N) (a b : N) (place : SourceSpan) → slice_get ns 0 ≡ Some a → slice_get ns (length ns - 1) ≡ Some b
    → content_span place (nodes_tree tree ns) ≡ record { offset = (node_span (tree a)).offset; len = min ((node_span (tree b)).offset + (node_span (tree b)).len) (2 ^ 64 - 1) - (node_span (tree a)).offset }
spans tree [] a b place e f = absurd cc
spans tree (n ∷ ns) a b place e f =
    let g : n ≡ a = cc in
    let front : (node_span (tree n)).offset ≡ (node_span (tree a)).offset = ap (λ (x : _). (node_span (tree x)).offset) g in
    let last : last_end (tree n) (nodes_tree tree ns) ≡ end_of (node_span (tree b)) = last_at tree n ns b (subst (λ (k : ℕ). slice_get (n ∷ ns) k ≡ Some b) (index n ns) f) in
    ap (λ (k : ℕ). record { offset = k; len = last_end (tree n) (nodes_tree tree ns) - k }) front ∙ ap (λ (k : ℕ). record { offset = (node_span (tree a)).offset; len = k - (node_span (tree a)).offset }) last

pub nothing : {N : Type 0} (tree : N → Node) (ns : List N) (place : SourceSpan) → slice_get ns 0 ≡ None → content_span place (nodes_tree tree ns) ≡ place
nothing tree [] place e = refl
nothing tree (n ∷ ns) place e = cc

-- without nodes the place comes before them, and else after them
pub without : {N : Type 0} (tree : N → Node) (whole s place : Text) (ns : List N) → length ns ≡ 0 → content_at whole (nodes_tree tree ns) place s ≡ document (Some (record { leading = place; trailing = [] })) (content_span (text_span whole s s) (nodes_tree tree ns)) (nodes_tree tree ns)
without tree whole s place [] e = refl
without tree whole s place (n ∷ ns) e = absurd (omega arith)

pub within : {N : Type 0} (tree : N → Node) (whole s place : Text) (ns : List N) → (length ns ≡ 0 → ⊥) → content_at whole (nodes_tree tree ns) place s ≡ document (Some (record { leading = []; trailing = place })) (content_span (text_span whole s s) (nodes_tree tree ns)) (nodes_tree tree ns)
within tree whole s place [] e = absurd (e refl)
within tree whole s place (n ∷ ns) e = refl

pub no_last : {N : Type 0} (tree : N → Node) (ns : List N) (a : N) (place : SourceSpan) → slice_get ns 0 ≡ Some a → slice_get ns (length ns - 1) ≡ None → content_span place (nodes_tree tree ns) ≡ place
no_last tree [] a place e f = absurd cc
no_last {N = N} tree (n ∷ ns) a place e f = absurd (go n ns (subst (λ (k : ℕ). slice_get (n ∷ ns) k ≡ None) (index n ns) f))
  where
    go : (n : N) (ns : List N) → slice_get (n ∷ ns) (length ns) ≡ None → ⊥
    go n [] e = cc
    go n (m ∷ ns) e = go m ns e
