-- Nodes on one line: whether they are, and their formats.
use Rattle.kdl.proofs.Common.{◌≡◌, ℕ, zero, suc, ◌+◌, ◌-◌, ◌<◌, ◌≤◌, ◌==◌, Bool, true, false, List, [], ◌∷◌, length, map, drop, set, get_or, Option, None, Some, option_map, refl, sym, ap, ◌∙◌, subst, arith, add-one, eqb-true, drop_more, list_all, ◌&&◌, is_some, entry_tree, identifier_tree, DocumentFormat, NodeFormat, Head, Node, node, children, children_of, document, listed_nodes, node_format_tree, node_texts, KdlNodeFormat, or_empty, is_on_one_line, nodes_on_line, Layout, with_format, IsAround, IsAroundIf, braces_of, filled_block, lined, with_formats, with_texts, nodes_in, document_tree, head_tree, node_tree, nodes_tree, KdlDocument, out-KdlDocument, out-KdlNode, Around, KdlNode}
use Rattle.std.proofs.Common.{length-drop}
use Rattle.std.proofs.lemmas.List.Folds.{list_all-map}
use Rattle.kdl_layout.specs.OneLine.{entry_on_line, head_on_line, is_end, line_on_line, maybe_on_line, name_on_line, node_on_line}
use Rattle.kdl.specs.Change.{with_document_format}
use Rattle.kdl.specs.Internal.Spacing.{put_format}
use Rattle.kdl.proofs.Trees.{document_tree_roll, node_tree_out, node_tree_roll}

-- the formats that are left, set from a place on
abbrev pub formats_from : ℕ → List NodeFormat → List Node → List Node
formats_from zero fs ns = with_formats fs ns
formats_from (suc i) fs [] = []
formats_from (suc i) fs (n ∷ ns) = n ∷ formats_from i fs ns

pub no_formats : (ns : List Node) → with_formats [] ns ≡ ns
no_formats [] = refl
no_formats (n ∷ ns) = refl

pub none_from : (i : ℕ) (ns : List Node) → formats_from i [] ns ≡ ns
none_from zero ns = no_formats ns
none_from (suc i) [] = refl
none_from (suc i) (n ∷ ns) = ap (λ (x : List Node). n ∷ x) (none_from i ns)

next_from : (ns : List KdlNode) (i : ℕ) (f : NodeFormat) (fs : List NodeFormat) (m d : KdlNode) → i < length ns → node_tree m ≡ put_format f (node_tree (get_or ns i d))
    → formats_from (suc i) fs (map node_tree (set ns i m)) ≡ formats_from i (f ∷ fs) (map node_tree ns)
next_from [] i f fs m d h e = absurd (omega arith)
next_from (n ∷ ns) zero f fs m d h e = ap (λ (x : Node). x ∷ with_formats fs (map node_tree ns)) e
next_from (n ∷ ns) (suc i) f fs m d h e = ap (λ (x : List Node). node_tree n ∷ x) (next_from ns i f fs m d (omega arith) e)

pub one_more : (ns : List KdlNode) (i : ℕ) (f : NodeFormat) (fs rest : List NodeFormat) (m d : KdlNode) (all : List Node) → i < length ns → node_tree m ≡ put_format f (node_tree (get_or ns i d)) → rest ≡ f ∷ fs
    → formats_from i rest (map node_tree ns) ≡ all → formats_from (i + 1) fs (map node_tree (set ns i m)) ≡ all
one_more ns i f fs rest m d all h e g k = rw (add-one i) (next_from ns i f fs m d h e ∙ ap (λ (x : List NodeFormat). formats_from i x (map node_tree ns)) (sym g) ∙ k)

pub set_here : {A : Type 0} (xs : List A) (i : ℕ) (d : A) → set xs i (get_or xs i d) ≡ xs
set_here [] i d = refl
set_here (x ∷ xs) zero d = refl
set_here (x ∷ xs) (suc i) d = ap (λ t. x ∷ t) (set_here xs i d)

pub nothing_left : {A : Type 0} (xs : List A) → length xs ≡ 0 → xs ≡ []
nothing_left [] h = refl
nothing_left (x ∷ xs) h = absurd (omega arith)

pub all_from : (i : ℕ) (fs : List NodeFormat) (ns : List KdlNode) → length ns ≤ i → formats_from i fs (map node_tree ns) ≡ map node_tree ns
all_from zero fs [] h = refl
all_from zero fs (n ∷ ns) h = absurd (omega arith)
all_from (suc i) fs [] h = refl
all_from (suc i) fs (n ∷ ns) h = ap (λ (x : List Node). node_tree n ∷ x) (all_from i fs ns (omega arith))

-- a node with another format
pub format_put : (n : KdlNode) (f : KdlNodeFormat) → node_tree (with_format n (Some f)) ≡ put_format (node_format_tree f) (node_tree n)
format_put n f = node_tree_roll (record (out-KdlNode n) { format = Some f }) ∙ sym (ap (put_format (node_format_tree f)) (node_tree_out n))

-- whether the nodes are on the line
is_end_none : (ns : List KdlNode) → is_end (nodes_tree ns) ≡ (length ns == 0)
is_end_none [] = refl
is_end_none (n ∷ ns) = go (suc (length ns) == 0) refl
  where
    go : (b : Bool) → (suc (length ns) == 0) ≡ b → false ≡ b
    go false e = refl
    go true e = let z : suc (length ns) ≡ 0 = eqb-true (suc (length ns)) 0 e in absurd cc

pub line_next : (ns : List KdlNode) (i : ℕ) (n : KdlNode) (last here : Bool) → i < length ns → get_or ns i n ≡ n → last ≡ (length ns - i - 1 == 0) → here ≡ node_on_line last (node_tree n)
    → nodes_on_line (nodes_tree (drop i ns)) ≡ (here && nodes_on_line (nodes_tree (drop (i + 1) ns)))
line_next ns i n last here h g e k =
    let first : drop i ns ≡ n ∷ drop (i + 1) ns = drop_more ns i n h ∙ ap (λ x. x ∷ drop (i + 1) ns) g in
    let left : length (drop (i + 1) ns) ≡ length ns - i - 1 = omega (arith, length-drop (i + 1) ns) in
    let end : is_end (nodes_tree (drop (i + 1) ns)) ≡ last = is_end_none (drop (i + 1) ns) ∙ ap (λ k. k == 0) left ∙ sym e in
    ap (λ x. nodes_on_line (nodes_tree x)) first
    ∙ ap (λ b. node_on_line b (node_tree n) && nodes_on_line (nodes_tree (drop (i + 1) ns))) end
    ∙ ap (λ b. b && nodes_on_line (nodes_tree (drop (i + 1) ns))) (sym k)

-- whether a node is
block_line : (last : Bool) (h : Head) (r : Bool) (o : Option KdlDocument) → is_some o ≡ false → r ≡ head_on_line last h → r ≡ node_on_line last (node h (children_of (option_map document_tree o)))
block_line last h r None e k = k
block_line last h r (Some x) e k = absurd cc

some_line : (last : Bool) (h : Head) (o : Option KdlDocument) → is_some o ≡ true → false ≡ node_on_line last (node h (children_of (option_map document_tree o)))
some_line last h None e = absurd cc
some_line last h (Some x) e = refl

pub node_block : (n : KdlNode) (last : Bool) → is_some (out-KdlNode n).children ≡ true → false ≡ node_on_line last (node_tree n)
node_block n last e = some_line last (head_tree (out-KdlNode n)) (out-KdlNode n).children e ∙ sym (ap (node_on_line last) (node_tree_out n))

pub node_line : (n : KdlNode) (last r : Bool) → is_some (out-KdlNode n).children ≡ false
    → r ≡ (maybe_on_line (option_map identifier_tree (out-KdlNode n).ty) && name_on_line (identifier_tree (out-KdlNode n).name) && list_all (λ x. entry_on_line (entry_tree x)) (out-KdlNode n).entries.items
    && line_on_line last (or_empty (node_texts (out-KdlNode n).format)))
    → r ≡ node_on_line last (node_tree n)
node_line n last r e k =
    let N = out-KdlNode n in
    let B = maybe_on_line (option_map identifier_tree N.ty) && name_on_line (identifier_tree N.name) in
    let E = line_on_line last (or_empty (node_texts N.format)) in
    block_line last (head_tree N) r N.children e (k ∙ ap (λ (x : Bool). B && x && E) (sym (list_all-map entry_on_line entry_tree N.entries.items))) ∙ sym (ap (node_on_line last) (node_tree_out n))

-- the texts around the nodes of a block, which are not set
pub none_set : (o : Option KdlDocument) (d y : KdlDocument) → o ≡ Some d → y ≡ with_document_format d None → children (document_tree y) ≡ with_texts (braces_of None) (filled_block o (lined None (map node_tree (nodes_in o))))
none_set o d y e f =
    let D = out-KdlDocument d in
    ap (λ (z : KdlDocument). children (document_tree z)) f
    ∙ ap children (document_tree_roll (record D { format = None }))
    ∙ ap (λ (z : List Node). children (document None D.span (listed_nodes z))) (sym (no_formats (map node_tree D.nodes.items)))
    ∙ sym (ap (λ (z : Option KdlDocument). with_texts None (filled_block z (lined None (map node_tree (nodes_in z))))) e)

-- whether they are those on one line
pub around_if : (l : Layout) (d : KdlDocument) (g : DocumentFormat) (a : Around) (keep here : Bool) → l.keep_one_line ≡ keep → here ≡ is_on_one_line (document_tree d) → IsAroundIf (keep && here) (length (out-KdlDocument d).nodes.items) g a → IsAround l d g a
around_if l d g a keep here e f x =
    let n = length (out-KdlDocument d).nodes.items in
    subst (λ (y : Bool). IsAroundIf (l.keep_one_line && y) n g a) f (subst (λ (y : Bool). IsAroundIf (y && here) n g a) (sym e) x)
