-- What is printed where entries or nodes are exchanged, and what edits leave.
use Rattle.kdl.proofs.Common.{◌≡◌, ℕ, ◌+◌, List, ◌∷◌, ◌++◌, map, ap, ◌∙◌, sym, refl, append_assoc, take, drop, set, slice_get, Option, None, Some, IfSome, IsSome, Result, Ok, Err, OnOk, OnErr, option_map, Vec, Global, map-append, take-map, drop-map, slice_get_within, get_or_from_slice_get, with_item, Text, Entry, entry_tree, KdlEntry, with_entries, head_of, tail_of, document_before, document_after, under, put_for, replaced_place, IsInserted, sought, place_of, print_head, print_tail, before_block, after_brace, before_brace, end_text, format_of, print_piece, print_pieces, print_node, print_nodes, print_document, leading_text, trailing_text, Head, NodeFormat, Node, node, Children, no_children, children, children_of, node_tree, nodes_tree, document_tree, head_tree, document_format_tree, node_format_tree, KdlDocument, out-KdlDocument, out-KdlNode, KdlNode, NodeKey, Key, Index, print_pieces-append}
use Rattle.std.proofs.lemmas.List.{set-get_or}
use Rattle.kdl_entry.specs.Print.{print_entry}
use Rattle.kdl.specs.Change.{with_entry}
use Rattle.kdl.specs.EditLaw.{tree_entries, PrintsInstead, PrintsAtPlace, EntriesExchanged, EntryExchanged, FormedPiece, NodesExchanged, NodeExchanged}
use Rattle.kdl.proofs.Printing.PrintedParts.{print_nodes-join}
use Rattle.kdl_parts.proofs.EntryEdits.{set_around}
use Rattle.kdl.proofs.Trees.{NodeFields, node_of, document_tree_out, document_tree_roll, node_tree_out, node_tree_roll, nodes_tree-append}

-- the tail does not look at the entries where there is a format
before_same : (o : Option NodeFormat) (es fs : List Entry) → IsSome o → before_block o es ≡ before_block o fs
before_same None es fs s = absurd (cc)
before_same (Some f) es fs s = refl

tail_same : (h : Head) (es : List Entry) (k : Children) (depth : ℕ) → IsSome h.format → print_tail (record h { entries = es }) k depth ≡ print_tail h k depth
tail_same h es no_children depth s = refl
tail_same h es (children d) depth s =
    ap (λ z. z ++ (123 ∷ after_brace (format_of d)) ++ print_document d (depth + 1) ++ before_brace (format_of d) depth ++ (125 ∷ end_text h.format)) (before_same h.format es h.entries s)

formed : {A B : Type 0} (v : A → B) (o : Option A) → IsSome o → IsSome (option_map v o)
formed v None s = absurd (cc)
formed v (Some a) s = refl

fields_exchanged : (x : NodeFields) (v : Vec KdlEntry Global) → IsSome x.format → PrintsInstead (node_of x) (map entry_tree v.items) (node_of (record x { entries = v }))
fields_exchanged x v s depth =
    let h = head_tree x in
    let es = map entry_tree v.items in
    let k = children_of (option_map document_tree x.children) in
    ap (λ z. print_head h depth ++ print_pieces es ++ z) (tail_same h es k depth (formed node_format_tree x.format s))

pub entries_exchanged : EntriesExchanged
entries_exchanged n v s depth =
    ap (λ z. print_node z depth) (node_tree_roll (record (out-KdlNode n) { entries = v }))
    ∙ fields_exchanged (out-KdlNode n) v s depth
    ∙ ap (λ z. head_of z depth ++ print_pieces (map entry_tree v.items) ++ tail_of z depth) (sym (node_tree_out n))

-- a piece between pieces
pieces_at : (es : List Entry) (i : ℕ) (e : Entry) → print_pieces (take i es ++ (e ∷ drop (i + 1) es)) ≡ print_pieces (take i es) ++ (print_piece e ++ print_pieces (drop (i + 1) es))
pieces_at es i e = print_pieces-append (take i es) (e ∷ drop (i + 1) es)

seam : (h a p b t : Text) → h ++ (a ++ (p ++ b)) ++ t ≡ (h ++ a) ++ p ++ (b ++ t)
seam h a p b t = simp append_assoc

at_place : (n m : Node) (i : ℕ) (e : Entry) (es : List Entry) → es ≡ take i (tree_entries n) ++ (e ∷ drop (i + 1) (tree_entries n)) → PrintsInstead n es m → PrintsAtPlace n i e m
at_place n m i e es k p depth =
    p depth
    ∙ ap (λ z. head_of n depth ++ print_pieces z ++ tail_of n depth) k
    ∙ ap (λ z. head_of n depth ++ z ++ tail_of n depth) (pieces_at (tree_entries n) i e)
    ∙ seam (head_of n depth) (print_pieces (take i (tree_entries n))) (print_piece e) (print_pieces (drop (i + 1) (tree_entries n))) (tail_of n depth)

itself : (n : Node) → PrintsInstead n (tree_entries n) n
itself (node h k) depth = refl

around : {A : Type 0} (xs : List A) (i : ℕ) (x y : A) → slice_get xs i ≡ Some x → set xs i y ≡ take i xs ++ (y ∷ drop (i + 1) xs)
around xs i x y h = set_around xs i y (slice_get_within xs i x h)

around_itself : {A : Type 0} (xs : List A) (i : ℕ) (x : A) → slice_get xs i ≡ Some x → xs ≡ take i xs ++ (x ∷ drop (i + 1) xs)
around_itself xs i x h =
    let g = get_or_from_slice_get xs i x x h in
    sym (set-get_or xs i x) ∙ ap (set xs i) g ∙ around xs i x x h

-- the same of what the elements are mapped to
mapped_around : {A B : Type 0} (f : A → B) (xs : List A) (i : ℕ) (y : A) → map f (take i xs ++ (y ∷ drop (i + 1) xs)) ≡ take i (map f xs) ++ (f y ∷ drop (i + 1) (map f xs))
mapped_around f xs i y =
    map-append f (take i xs) (y ∷ drop (i + 1) xs)
    ∙ ap (λ z. z ++ (f y ∷ map f (drop (i + 1) xs))) (sym (take-map f i xs))
    ∙ ap (λ z. take i (map f xs) ++ (f y ∷ z)) (sym (drop-map f (i + 1) xs))

entries_are : (n : KdlNode) → tree_entries (node_tree n) ≡ map entry_tree (out-KdlNode n).entries.items
entries_are n = ap tree_entries (node_tree_out n)

tree_around : (n : KdlNode) (i : ℕ) (e : KdlEntry) → map entry_tree (take i (out-KdlNode n).entries.items ++ (e ∷ drop (i + 1) (out-KdlNode n).entries.items))
    ≡ take i (tree_entries (node_tree n)) ++ (entry_tree e ∷ drop (i + 1) (tree_entries (node_tree n)))
tree_around n i e = mapped_around entry_tree (out-KdlNode n).entries.items i e ∙ ap (λ z. take i z ++ (entry_tree e ∷ drop (i + 1) z)) (sym (entries_are n))

pub entry_exchanged : EntryExchanged
entry_exchanged n i old new s h =
    let x = node_tree n in
    let es = (out-KdlNode n).entries.items in (
      at_place x x i (entry_tree old) (tree_entries x) (entries_are n ∙ ap (map entry_tree) (around_itself es i old h) ∙ tree_around n i old) (itself x),
      at_place x (node_tree (with_entry n i new)) i (entry_tree new) (map entry_tree (set es i new)) (ap (map entry_tree) (around es i old new h) ∙ tree_around n i new) (entries_exchanged n (with_item (out-KdlNode n).entries i new) s),
    )

pub formed_piece : FormedPiece
formed_piece e s = elim e.format as (λ o. IsSome o → print_piece (record e { format = o }) ≡ print_entry (record e { format = o })) [ None ↦ λ k. absurd (cc) | Some f ↦ λ k. refl ] s

pub nodes_exchanged : NodesExchanged
nodes_exchanged d v depth = ap (λ z. print_document z depth) (document_tree_roll (record (out-KdlDocument d) { nodes = v }))

nodes_at : (ns : List KdlNode) (i : ℕ) (n : KdlNode) (depth : ℕ) → print_nodes (nodes_tree (take i ns ++ (n ∷ drop (i + 1) ns))) depth
    ≡ print_nodes (nodes_tree (take i ns)) depth ++ (print_node (node_tree n) depth ++ print_nodes (nodes_tree (drop (i + 1) ns)) depth)
nodes_at ns i n depth =
    ap (λ z. print_nodes z depth) (nodes_tree-append (take i ns) (n ∷ drop (i + 1) ns)) ∙ print_nodes-join (nodes_tree (take i ns)) (nodes_tree (n ∷ drop (i + 1) ns)) depth

node_at : (d : KdlDocument) (ns : List KdlNode) (i : ℕ) (n : KdlNode) (depth : ℕ) → ns ≡ take i (out-KdlDocument d).nodes.items ++ (n ∷ drop (i + 1) (out-KdlDocument d).nodes.items)
    → leading_text (option_map document_format_tree (out-KdlDocument d).format) ++ print_nodes (nodes_tree ns) depth ++ trailing_text (option_map document_format_tree (out-KdlDocument d).format)
    ≡ document_before d i depth ++ print_node (node_tree n) depth ++ document_after d i depth
node_at d ns i n depth k =
    let l = leading_text (option_map document_format_tree (out-KdlDocument d).format) in
    let t = trailing_text (option_map document_format_tree (out-KdlDocument d).format) in
    let ms = (out-KdlDocument d).nodes.items in
    ap (λ z. l ++ print_nodes (nodes_tree z) depth ++ t) k
    ∙ ap (λ z. l ++ z ++ t) (nodes_at ms i n depth)
    ∙ seam l (print_nodes (nodes_tree (take i ms)) depth) (print_node (node_tree n) depth) (print_nodes (nodes_tree (drop (i + 1) ms)) depth) t

pub node_exchanged : NodeExchanged
node_exchanged d i old new depth h =
    let ns = (out-KdlDocument d).nodes.items in (
      ap (λ z. print_document z depth) (document_tree_out d) ∙ node_at d ns i old depth (around_itself ns i old h),
      nodes_exchanged d (with_item (out-KdlDocument d).nodes i new) depth ∙ node_at d (set ns i new) i new depth (around ns i old new h),
    )

-- what is printed with one entry in place of another
put_prints : (o : Option ℕ) (e : KdlEntry) (t : Entry) (n : KdlNode) (v : Vec KdlEntry Global) → entry_tree e ≡ t → v.items ≡ put_for o e (out-KdlNode n).entries.items → IsSome (out-KdlNode n).format
    → IfSome o (λ i. PrintsAtPlace (node_tree n) i t (node_tree (with_entries n v)))
put_prints None e t n v k h s = tt
put_prints (Some i) e t n v k h s =
    at_place (node_tree n) (node_tree (with_entries n v)) i t (map entry_tree v.items) (ap (map entry_tree) h ∙ tree_around n i e ∙ ap (λ z. take i (tree_entries (node_tree n)) ++ (z ∷ drop (i + 1) (tree_entries (node_tree n)))) k) (entries_exchanged n v s)

inserted_prints : (key : NodeKey) (e : KdlEntry) (n : KdlNode) (v : Vec KdlEntry Global) → IsInserted key e (out-KdlNode n).entries.items v.items → IsSome (out-KdlNode n).format
    → IfSome (replaced_place key (out-KdlNode n).entries.items) (λ i. PrintsAtPlace (node_tree n) i (under (sought key) (entry_tree e)) (node_tree (with_entries n v)))
inserted_prints (Key k) e n v d s = put_prints (place_of (Key k) (out-KdlNode n).entries.items) d.entry _ n v d.tree d.items s
inserted_prints (Index i) e n v d s = tt

-- a node with the entries that it had
pub entries_same : (n m : KdlNode) → m ≡ with_entries n (out-KdlNode m).entries → (out-KdlNode m).entries.items ≡ (out-KdlNode n).entries.items → node_tree m ≡ node_tree n
entries_same n m r h =
    ap node_tree r
    ∙ node_tree_roll (record (out-KdlNode n) { entries = (out-KdlNode m).entries })
    ∙ ap (λ z. node (record (head_tree (out-KdlNode n)) { entries = map entry_tree z }) (children_of (option_map document_tree (out-KdlNode n).children))) h
    ∙ sym (node_tree_out n)

-- the same where a call that failed left the entries as they were
pub refused_same : {T E : Type 0} (r : Result T E) (n m : KdlNode) → OnErr r ((out-KdlNode m).entries.items ≡ (out-KdlNode n).entries.items) → m ≡ with_entries n (out-KdlNode m).entries → OnErr r (node_tree m ≡ node_tree n)
refused_same (Ok a) n m h s = tt
refused_same (Err e) n m h s = entries_same n m s h

-- what a successful insertion prints
pub insert_prints : {T E : Type 0} (r : Result T E) (key : NodeKey) (e : KdlEntry) (n : KdlNode) (v : Vec KdlEntry Global) → OnOk r (IsInserted key e (out-KdlNode n).entries.items v.items)
    → OnOk r (IsSome (out-KdlNode n).format → IfSome (replaced_place key (out-KdlNode n).entries.items) (λ i. PrintsAtPlace (node_tree n) i (under (sought key) (entry_tree e)) (node_tree (with_entries n v))))
insert_prints (Ok a) key e n v d = λ f. inserted_prints key e n v d f
insert_prints (Err a) key e n v d = tt
