-- A document that is open along a path: what is changed in the innermost block is changed in the whole.
use Rattle.std.proofs.Common.{◌≡◌, ◌<◌, ◌≤◌, ◌+◌, ◌-◌, ℕ, zero, suc, List, [], ◌∷◌, ◌++◌, Option, None, Some, length, map, option_and_then, option_map, slice_get, unwrap_or, refl, ap, ◌∙◌, sym, subst, arith, append_assoc, append-nil, drop, reverse, take, Vec, Global}
use Rattle.std.proofs.lemmas.List.{map-append, reverse-append}
use Rattle.std.proofs.lemmas.Option.{slice_get-map}
use Rattle.std.specs.List.{remove}
use Rattle.std.specs.Option.{option_to_list}
use Rattle.kdl_entry.specs.Tree.{entry_data}
use Rattle.kdl_grammar.specs.Data as data'
use Rattle.kdl_grammar.specs.Print.{trailing_text}
use Rattle.kdl_grammar.specs.ReadsBack.{BlockReads, ContentReads, DocumentReads, NodeReads, NodesRead, Rests, block, last_node, next_node}
use Rattle.kdl_grammar.specs.Tree.{Children, Document, DocumentFormat, Node, Nodes, children, document, document_data, first, join, listed_nodes, no_children, node, node_data, nodes_data, none}
use Rattle.kdl_grammar.proofs.ReadingBack.Composing.{block_reads, node_before, nodes_append, nodes_drop, nodes_take, with_block as with_own}
use Rattle.kdl_parts.specs.Formats.{document_format_tree}
use Rattle.kdl_text.specs.Chars.{Text}
use Rattle.kdl_text.specs.declared.span.SourceSpan.{SourceSpan}
use Rattle.kdl.specs.Nodes.{said_without}
use Rattle.kdl.specs.Said.{said_nodes}
use Rattle.kdl.specs.Words.{block_of, document_format_of, document_says, document_span_of, document_tree, held_nodes, node_says, node_tree, nodes_of, nodes_tree, with_nodes}
use Rattle.kdl.specs.declared.document.KdlDocument.{KdlDocument}
use Rattle.kdl.specs.declared.document.KdlDocument.TheViews.{out-KdlDocument, out-roll-KdlDocument}
use Rattle.kdl.specs.declared.node.KdlNode.{KdlNode}
use Rattle.kdl.proofs.Finding.SaidLookups.{children_said}
use Rattle.kdl.proofs.Putting.Puts.{remove_trees}
use Rattle.kdl.proofs.ReadingBack.{whole_as}
use Rattle.kdl.proofs.Trees.{document_tree_out, nodes_tree-append}
use Rattle.c_calls.specs.Changes.{changed_at, changed_below, changed_nth}
use Rattle.c_calls.specs.Internal.Opened.{block_in, with_kids, with_kids_at}
use Rattle.c_calls.proofs.OpenSteps.{block_back}
use Rattle.c_calls.proofs.TreeSteps.{at_twice}
use Rattle.kdl_query.proofs.Levels.{front_kept}
use Rattle.kdl_query.specs.Selects.{Path, node_at, node_below}
use Rattle.kdl_path.specs.Edits.{with_block, with_nth}
use Rattle.kdl_path.specs.Internal.Cursor.{Becomes, IsMoved, indices, path_of, plugged, rejoined, whole, with_after}
use Rattle.kdl_path.specs.Internal.Laid.{IsLaid}
use Rattle.kdl_path.specs.Internal.OnEach.{Edit, edited}
use Rattle.kdl_path.specs.declared.cursor.Cursor.{Cursor}
use Rattle.kdl_path.specs.declared.cursor.above.Above.{Above}
use Rattle.kdl_path.specs.declared.cursor.block.Block.{Block}
use Rattle.kdl_path.proofs.Trees.{IsAt, IsIn, at_tree, content_as}

-- the path has an index
abbrev pub HasIndex : Path → Type 0
HasIndex [] = ⊥
HasIndex (i ∷ p) = Unit {0}

joined_index : (p q : Path) → HasIndex q → HasIndex (p ++ q)
joined_index [] q h = h
joined_index (i ∷ p) q h = tt

-- a node is at i
abbrev pub IsWithin : ℕ → Nodes → Type 0
IsWithin i none = ⊥
IsWithin zero (first n ns) = Unit {0}
IsWithin (suc i) (first n ns) = IsWithin i ns

abbrev pub IsInside : ℕ → Document → Type 0
IsInside i (document o s ns) = IsWithin i ns

listed_within : (i : ℕ) (ns : List Node) → i < length ns → IsWithin i (listed_nodes ns)
listed_within i [] h = absurd (omega arith)
listed_within zero (n ∷ ns) h = tt
listed_within (suc i) (n ∷ ns) h = listed_within i ns (omega (arith, h))

trees_length : (ns : List KdlNode) → length (map node_tree ns) ≡ length ns
trees_length [] = refl
trees_length (n ∷ ns) = ap suc (trees_length ns)

pub inside : (i : ℕ) (d : KdlDocument) → i < length (nodes_of d) → IsInside i (document_tree d)
inside i d h = subst (IsInside i) (sym (document_tree_out d)) (listed_within i (map node_tree (nodes_of d)) (subst (λ (k : ℕ). i < k) (sym (trees_length (nodes_of d))) h))

join_within : (i : ℕ) (ns ms : Nodes) → IsWithin i ns → IsWithin i (join ns ms)
join_within i none ms h = absurd h
join_within zero (first n ns) ms h = tt
join_within (suc i) (first n ns) ms h = join_within i ns ms h

pub inside_after : (i : ℕ) (ms : Nodes) (d : Document) → IsInside i d → IsInside i (with_after ms d)
inside_after i ms (document o s ns) h = join_within i ns ms h

-- a change of one of the first nodes
nth_joined : (i : ℕ) (f : Node → Node) (ns ms : Nodes) → IsWithin i ns → join (changed_nth i f ns) ms ≡ changed_nth i f (join ns ms)
nth_joined i f none ms h = absurd h
nth_joined zero f (first n ns) ms h = refl
nth_joined (suc i) f (first n ns) ms h = ap (first n) (nth_joined i f ns ms h)

pub changed_after : (i : ℕ) (f : Node → Node) (ms : Nodes) (d : Document) → IsInside i d → with_after ms (changed_at (i ∷ []) f d) ≡ changed_at (i ∷ []) f (with_after ms d)
changed_after i f ms (document o s ns) h = ap (document o s) (nth_joined i (changed_below [] f) ns ms h)

pub kids_after : (i : ℕ) (k : Children) (ms : Nodes) (d : Document) → IsInside i d → with_after ms (with_kids_at i k d) ≡ with_kids_at i k (with_after ms d)
kids_after i k ms (document o s ns) h = ap (document o s) (nth_joined i (with_kids k) ns ms h)

kids_within : (i j : ℕ) (k : Children) (ns : Nodes) → IsWithin i ns → IsWithin i (changed_nth j (with_kids k) ns)
kids_within i j k none h = absurd h
kids_within zero zero k (first n ns) h = tt
kids_within zero (suc j) k (first n ns) h = tt
kids_within (suc i) zero k (first n ns) h = h
kids_within (suc i) (suc j) k (first n ns) h = kids_within i j k ns h

-- the node whose block is exchanged: a change in the block, what is at a path in it, its data, and where it reads back
kids_changed : (q : Path) → HasIndex q → (f : Node → Node) (i : ℕ) (c : Document) (ns : Nodes) → changed_nth i (changed_below q f) (changed_nth i (with_kids (children c)) ns) ≡ changed_nth i (with_kids (children (changed_at q f c))) ns
kids_changed [] h f i c ns = absurd h
kids_changed (j ∷ p) h f i c none = refl
kids_changed (j ∷ p) h f zero (document o s ms) (first (node e k) ns) = refl
kids_changed (j ∷ p) h f (suc i) c (first n ns) = ap (first n) (kids_changed (j ∷ p) h f i c ns)

kids_in : (q : Path) → HasIndex q → (i : ℕ) (c : Document) (m : Node) (ns : Nodes) → IsWithin i ns → IsAt q c m → IsIn i q (changed_nth i (with_kids (children c)) ns) m
kids_in [] h i c m ns w a = absurd h
kids_in (j ∷ p) h i c m none w a = absurd w
kids_in (j ∷ p) h zero (document o s ms) m (first (node e k) ns) w a = a
kids_in (j ∷ p) h (suc i) c m (first n ns) w a = kids_in (j ∷ p) h i c m ns w a

kids_found : (q : Path) → HasIndex q → (i : ℕ) (c : Document) (ns : Nodes) → IsWithin i ns → option_and_then (node_below q) (slice_get (said_nodes (nodes_data (changed_nth i (with_kids (children c)) ns))) i) ≡ node_at q (document_data c)
kids_found [] h i c ns w = absurd h
kids_found (j ∷ p) h i c none w = absurd w
kids_found (j ∷ p) h zero c (first (node e k) ns) w = refl
kids_found (j ∷ p) h (suc i) c (first n ns) w = kids_found (j ∷ p) h i c ns w

kids_edited : (g : Edit) (q : Path) → HasIndex q → (i : ℕ) (c e : Document) (ns : Nodes) → document_data e ≡ edited g q (document_data c)
    → nodes_data (changed_nth i (with_kids (children e)) ns) ≡ with_nth i (with_block (edited g q)) (nodes_data (changed_nth i (with_kids (children c)) ns))
kids_edited g [] h i c e ns k = absurd h
kids_edited g (j ∷ p) h i c e none k = refl
kids_edited g (j ∷ p) h zero c e (first (node y z) ns) k = ap (λ x. data'.first (data'.node (option_map (λ i. i.value) y.ty) y.name.value (map entry_data y.entries) (data'.children x)) (nodes_data ns)) k
kids_edited g (j ∷ p) h (suc i) c e (first n ns) k = ap (data'.first (node_data n)) (kids_edited g (j ∷ p) h i c e ns k)

kids_read : {P : Rests} (i : ℕ) (c e : Document) (ns : Nodes) → (BlockReads c → BlockReads e) → NodesRead P (changed_nth i (with_kids (children c)) ns) → NodesRead P (changed_nth i (with_kids (children e)) ns)
kids_read i c e none f x = x
kids_read zero c e (first (node h k) none) f (last_node x) = last_node (with_own e x (f (block_reads x)))
kids_read zero c e (first (node h k) (first m ns)) f (next_node x xs) = next_node (with_own e x (f (block_reads x))) xs
kids_read (suc i) c e (first n none) f x = x
kids_read (suc zero) c e (first n (first m ns)) f (next_node x xs) = node_before x (kids_read zero c e (first m ns) f xs)
kids_read (suc (suc i)) c e (first n (first m ns)) f (next_node x xs) = node_before x (kids_read (suc i) c e (first m ns) f xs)

kids_content : {P : Rests} {l t : Text} (i : ℕ) (c e : Document) (ns : Nodes) → (BlockReads c → BlockReads e) → ContentReads P l t (changed_nth i (with_kids (children c)) ns) → ContentReads P l t (changed_nth i (with_kids (children e)) ns)
kids_content i c e none f x = x
kids_content zero c e (first n ns) f x = content_as _ _ _ (λ Q. kids_read zero c e (first n ns) f) x
kids_content (suc i) c e (first n ns) f x = content_as _ _ _ (λ Q. kids_read (suc i) c e (first n ns) f) x

-- the same of documents
at_changed : (q : Path) → HasIndex q → (f : Node → Node) (i : ℕ) (c d : Document) → changed_at (i ∷ q) f (with_kids_at i (children c) d) ≡ with_kids_at i (children (changed_at q f c)) d
at_changed q h f i c (document o s ns) = ap (document o s) (kids_changed q h f i c ns)

at_in : (q : Path) → HasIndex q → (i : ℕ) (c : Document) (m : Node) (d : Document) → IsInside i d → IsAt q c m → IsAt (i ∷ q) (with_kids_at i (children c) d) m
at_in q h i c m (document o s ns) w a = kids_in q h i c m ns w a

at_found : (q : Path) → HasIndex q → (i : ℕ) (c d : Document) → IsInside i d → node_at (i ∷ q) (document_data (with_kids_at i (children c) d)) ≡ node_at q (document_data c)
at_found q h i c (document o s ns) w = kids_found q h i c ns w

at_edited : (g : Edit) (q : Path) → HasIndex q → (i : ℕ) (c e d : Document) → document_data e ≡ edited g q (document_data c) → document_data (with_kids_at i (children e) d) ≡ edited g (i ∷ q) (document_data (with_kids_at i (children c) d))
at_edited g [] h i c e d k = absurd h
at_edited g (j ∷ p) h i c e (document o s ns) k = kids_edited g (j ∷ p) h i c e ns k

block_with : (i : ℕ) (c e d : Document) → (BlockReads c → BlockReads e) → BlockReads (with_kids_at i (children c) d) → BlockReads (with_kids_at i (children e) d)
block_with i c e (document o s ns) f (block x) = block (kids_content i c e ns f x)

document_with : (i : ℕ) (c e d : Document) → (BlockReads c → BlockReads e) → DocumentReads (with_kids_at i (children c) d) → DocumentReads (with_kids_at i (children e) d)
document_with i c e (document o s ns) f x = whole_as o s s _ _ (λ l y. kids_content i c e ns f y) x

-- the whole document
inside_above : (a : Above) → IsInside a.index (rejoined a.block)
inside_above a = inside_after a.index (nodes_tree (reverse a.block.after.items)) (document_tree a.block.document) (inside a.index a.block.document a.there)

pub plugged_changed : (above : List Above) (q : Path) → HasIndex q → (f : Node → Node) (c : Document) → changed_at (indices above ++ q) f (plugged above c) ≡ plugged above (changed_at q f c)
plugged_changed [] q h f c = refl
plugged_changed (a ∷ more) q h f c =
    at_changed (indices more ++ q) (joined_index (indices more) q h) f a.index (plugged more c) (rejoined a.block)
    ∙ ap (λ x. with_kids_at a.index (children x) (rejoined a.block)) (plugged_changed more q h f c)

pub plugged_at : (above : List Above) (q : Path) → HasIndex q → (c : Document) (m : Node) → IsAt q c m → IsAt (indices above ++ q) (plugged above c) m
plugged_at [] q h c m a = a
plugged_at (b ∷ more) q h c m a = at_in (indices more ++ q) (joined_index (indices more) q h) b.index (plugged more c) m (rejoined b.block) (inside_above b) (plugged_at more q h c m a)

pub plugged_found : (above : List Above) (q : Path) → HasIndex q → (c : Document) → node_at (indices above ++ q) (document_data (plugged above c)) ≡ node_at q (document_data c)
plugged_found [] q h c = refl
plugged_found (a ∷ more) q h c = at_found (indices more ++ q) (joined_index (indices more) q h) a.index (plugged more c) (rejoined a.block) (inside_above a) ∙ plugged_found more q h c

pub plugged_edited : (g : Edit) (above : List Above) (q : Path) → HasIndex q → (c e : Document) → document_data e ≡ edited g q (document_data c) → document_data (plugged above e) ≡ edited g (indices above ++ q) (document_data (plugged above c))
plugged_edited g [] q h c e k = k
plugged_edited g (a ∷ more) q h c e k = at_edited g (indices more ++ q) (joined_index (indices more) q h) a.index (plugged more c) (plugged more e) (rejoined a.block) (plugged_edited g more q h c e k)

plugged_block : (above : List Above) (c e : Document) → (BlockReads c → BlockReads e) → BlockReads (plugged above c) → BlockReads (plugged above e)
plugged_block [] c e f = f
plugged_block (a ∷ more) c e f = block_with a.index (plugged more c) (plugged more e) (rejoined a.block) (plugged_block more c e f)

pub plugged_reads : (above : List Above) (c e : Document) → (BlockReads c → BlockReads e) → (DocumentReads c → DocumentReads e) → DocumentReads (plugged above c) → DocumentReads (plugged above e)
plugged_reads [] c e f g = g
plugged_reads (a ∷ more) c e f g = document_with a.index (plugged more c) (plugged more e) (rejoined a.block) (plugged_block more c e f)

-- one block more around the innermost one
pub plugged_last : (more : List Above) (a : Above) (c : Document) → plugged (more ++ a ∷ []) c ≡ plugged more (with_kids_at a.index (children c) (rejoined a.block))
plugged_last [] a c = refl
plugged_last (b ∷ more) a c = ap (λ x. with_kids_at b.index (children x) (rejoined b.block)) (plugged_last more a c)

-- a node taken out, and a node exchanged for one of the same data that reads back where it does
content_taken : (P : Rests) (l t : Text) (ns : List Node) (i : ℕ) → i < length ns → ContentReads P l t (listed_nodes ns) → ContentReads P l t (listed_nodes (remove ns i))
content_taken P l t [] i h c = absurd (omega arith)
content_taken P l t (n ∷ ns) i h c =
    content_as n (listed_nodes ns) _ (λ Q x. nodes_append (take i (n ∷ ns)) (drop (suc i) (n ∷ ns)) (nodes_take i (n ∷ ns) h x) (nodes_drop (suc i) (n ∷ ns) x)) c

taken_said : (i : ℕ) (ns : List Node) → nodes_data (listed_nodes (remove ns i)) ≡ said_without i (nodes_data (listed_nodes ns))
taken_said zero [] = refl
taken_said (suc i) [] = refl
taken_said zero (n ∷ ns) = refl
taken_said (suc i) (n ∷ ns) = ap (data'.first (node_data n)) (taken_said i ns)

pub taken : (o : Option DocumentFormat) (s : SourceSpan) (ns : List Node) (i : ℕ) → i < length ns → Becomes (said_without i) (document o s (listed_nodes ns)) (document o s (listed_nodes (remove ns i)))
taken o s ns i h = record {
  says = taken_said i ns;
  block = λ x. in_block x;
  whole = whole_as o s s _ _ (λ l c. content_taken _ l (trailing_text o) ns i h c);
}
  where
    in_block : BlockReads (document o s (listed_nodes ns)) → BlockReads (document o s (listed_nodes (remove ns i)))
    in_block (block c) = block (content_taken _ _ _ ns i h c)

laid_said : (ns : List Node) (n m : Node) (ms : List Node) → node_data m ≡ node_data n → nodes_data (listed_nodes (ns ++ m ∷ ms)) ≡ nodes_data (listed_nodes (ns ++ n ∷ ms))
laid_said [] n m ms h = ap (λ x. data'.first x (nodes_data (listed_nodes ms))) h
laid_said (k ∷ ns) n m ms h = ap (data'.first (node_data k)) (laid_said ns n m ms h)

laid_read : {P : Rests} (ns : List Node) (n m : Node) (ms : List Node) → ((Q : Rests) → NodeReads Q n → NodeReads Q m) → NodesRead P (listed_nodes (ns ++ n ∷ ms)) → NodesRead P (listed_nodes (ns ++ m ∷ ms))
laid_read [] n m [] f (last_node x) = last_node (f _ x)
laid_read [] n m (k ∷ ms) f (next_node x xs) = next_node (f _ x) xs
laid_read (k ∷ []) n m ms f (next_node x xs) = node_before x (laid_read [] n m ms f xs)
laid_read (k ∷ l ∷ ns) n m ms f (next_node x xs) = node_before x (laid_read (l ∷ ns) n m ms f xs)

laid_content : (P : Rests) (l t : Text) (ns : List Node) (n m : Node) (ms : List Node) → ((Q : Rests) → NodeReads Q n → NodeReads Q m) → ContentReads P l t (listed_nodes (ns ++ n ∷ ms)) → ContentReads P l t (listed_nodes (ns ++ m ∷ ms))
laid_content P l t [] n m ms f c = content_as n _ _ (λ Q. laid_read [] n m ms f) c
laid_content P l t (k ∷ ns) n m ms f c = content_as k _ _ (λ Q. laid_read (k ∷ ns) n m ms f) c

pub laid : (o : Option DocumentFormat) (s : SourceSpan) (ns : List Node) (n m : Node) (ms : List Node) → node_data m ≡ node_data n → ((Q : Rests) → NodeReads Q n → NodeReads Q m)
    → Becomes (λ x. x) (document o s (listed_nodes (ns ++ n ∷ ms))) (document o s (listed_nodes (ns ++ m ∷ ms)))
laid o s ns n m ms h f = record {
  says = laid_said ns n m ms h;
  block = λ x. in_block x;
  whole = whole_as o s s _ _ (λ l c. laid_content _ l (trailing_text o) ns n m ms f c);
}
  where
    in_block : BlockReads (document o s (listed_nodes (ns ++ n ∷ ms))) → BlockReads (document o s (listed_nodes (ns ++ m ∷ ms)))
    in_block (block c) = block (laid_content _ _ _ ns n m ms f c)

pub becomes_then : (f g : data'.Nodes → data'.Nodes) (d e b : Document) → Becomes f d e → Becomes g e b → Becomes (λ x. g (f x)) d b
becomes_then f g d e b x y = record { says = y.says ∙ ap g x.says; block = λ r. y.block (x.block r); whole = λ r. y.whole (x.whole r) }

-- a block in memory
abbrev pub block_tree : Block → List KdlNode → Document
block_tree b ns = document (option_map document_format_tree (document_format_of b.document)) (document_span_of b.document) (nodes_tree ns)

abbrev pub all_nodes : Block → List KdlNode
all_nodes b = nodes_of b.document ++ reverse b.after.items

pub rejoined_tree : (b : Block) → rejoined b ≡ block_tree b (all_nodes b)
rejoined_tree b =
    ap (with_after (nodes_tree (reverse b.after.items))) (document_tree_out b.document)
    ∙ ap (document (option_map document_format_tree (document_format_of b.document)) (document_span_of b.document)) (sym (nodes_tree-append (nodes_of b.document) (reverse b.after.items)))

trees_as : (b c : Block) (ns : List KdlNode) → document_format_of c.document ≡ document_format_of b.document → document_span_of c.document ≡ document_span_of b.document → block_tree c ns ≡ block_tree b ns
trees_as b c ns f s =
    ap (λ o. document (option_map document_format_tree o) (document_span_of c.document) (nodes_tree ns)) f
    ∙ ap (λ (x : SourceSpan). document (option_map document_format_tree (document_format_of b.document)) x (nodes_tree ns)) s

pub moved : (b c : Block) → IsMoved b c → rejoined c ≡ rejoined b
moved b c h = rejoined_tree c ∙ trees_as b c (all_nodes c) h.format h.span ∙ ap (block_tree b) h.nodes ∙ sym (rejoined_tree b)

pub moved_then : (b c d : Block) → IsMoved b c → IsMoved c d → IsMoved b d
moved_then b c d x y = record { nodes = y.nodes ∙ x.nodes; format = y.format ∙ x.format; span = y.span ∙ x.span }

format_with : (d : KdlDocument) (v : Vec KdlNode Global) → document_format_of (with_nodes d v) ≡ document_format_of d
format_with d v = ap (λ x. x.format) (out-roll-KdlDocument (record (out-KdlDocument d) { nodes = v }))

span_with : (d : KdlDocument) (v : Vec KdlNode Global) → document_span_of (with_nodes d v) ≡ document_span_of d
span_with d v = ap (λ x. x.span) (out-roll-KdlDocument (record (out-KdlDocument d) { nodes = v }))

moved_around : (b c : Block) → c.document ≡ with_nodes b.document (held_nodes c.document) → (document_format_of c.document ≡ document_format_of b.document) × (document_span_of c.document ≡ document_span_of b.document)
moved_around b c r = (ap document_format_of r ∙ format_with b.document (held_nodes c.document), ap document_span_of r ∙ span_with b.document (held_nodes c.document))

pub moved_so : (b c : Block) → c.document ≡ with_nodes b.document (held_nodes c.document) → all_nodes c ≡ all_nodes b → IsMoved b c
moved_so b c r h = let around = moved_around b c r in record { nodes = h; format = around.0; span = around.1 }

-- what is found in it
said_listed : (ns : List KdlNode) → said_nodes (nodes_data (nodes_tree ns)) ≡ map node_says ns
said_listed [] = refl
said_listed (n ∷ ns) = ap (λ l. node_says n ∷ l) (said_listed ns)

pub said_in : (b : Block) → said_nodes (document_data (rejoined b)) ≡ map node_says (all_nodes b)
said_in b = ap (λ x. said_nodes (document_data x)) (rejoined_tree b) ∙ said_listed (all_nodes b)

get_first : {A : Type 0} (xs ys : List A) (i : ℕ) → i < length xs → slice_get (xs ++ ys) i ≡ slice_get xs i
get_first [] ys i h = absurd (omega arith)
get_first (x ∷ xs) ys zero h = refl
get_first (x ∷ xs) ys (suc i) h = get_first xs ys i (omega (arith, h))

get_past : {A : Type 0} (xs : List A) (i : ℕ) → length xs ≤ i → slice_get xs i ≡ None
get_past [] i h = refl
get_past (x ∷ xs) zero h = absurd (omega arith)
get_past (x ∷ xs) (suc i) h = get_past xs i (omega (arith, h))

said_get : (b : Block) (i : ℕ) → slice_get (said_nodes (document_data (rejoined b))) i ≡ option_map node_says (slice_get (all_nodes b) i)
said_get b i = ap (λ l. slice_get l i) (said_in b) ∙ slice_get-map node_says (all_nodes b) i

pub said_past : (b : Block) (i : ℕ) → length (all_nodes b) ≤ i → slice_get (said_nodes (document_data (rejoined b))) i ≡ None
said_past b i h = said_get b i ∙ ap (option_map node_says) (get_past (all_nodes b) i h)

pub said_there : (b : Block) (i : ℕ) (o : Option KdlNode) → i < length (nodes_of b.document) → slice_get (nodes_of b.document) i ≡ o → slice_get (said_nodes (document_data (rejoined b))) i ≡ option_map node_says o
said_there b i o h e = said_get b i ∙ ap (option_map node_says) (get_first (nodes_of b.document) (reverse b.after.items) i h ∙ e)

in_joined : (i : ℕ) (p : Path) (ns ms : Nodes) (m : Node) → IsIn i p ns m → IsIn i p (join ns ms) m
in_joined i p none ms m a = absurd a
in_joined zero p (first n ns) ms m a = a
in_joined (suc i) p (first n ns) ms m a = in_joined i p ns ms m a

at_after : (i : ℕ) (p : Path) (ms : Nodes) (d : Document) (m : Node) → IsAt (i ∷ p) d m → IsAt (i ∷ p) (with_after ms d) m
at_after i p ms (document o s ns) m a = in_joined i p ns ms m a

pub at_place : (b : Block) (i : ℕ) (n : KdlNode) → slice_get (nodes_of b.document) i ≡ Some n → IsAt (i ∷ []) (rejoined b) (node_tree n)
at_place b i n h = at_after i [] (nodes_tree (reverse b.after.items)) (document_tree b.document) (node_tree n) (at_tree (i ∷ []) b.document n h)

-- no block is there
no_nodes : (n : KdlNode) (i : ℕ) (below : Path) → block_of n ≡ None → node_below (i ∷ below) (node_says n) ≡ None
no_nodes n i below h =
    ap (λ o. option_and_then (node_below below) (slice_get (unwrap_or (option_map said_nodes o) []) i)) (sym (children_said n) ∙ ap (option_map document_says) h)

pub no_block_at : (b : Block) (i j : ℕ) (below : Path) → i < length (nodes_of b.document) → block_in i b.document ≡ None → node_at (i ∷ j ∷ below) (document_data (rejoined b)) ≡ None
no_block_at b i j below h absent = go (slice_get (nodes_of b.document) i) refl absent
  where
    go : (o : Option KdlNode) → slice_get (nodes_of b.document) i ≡ o → option_and_then block_of o ≡ None → node_at (i ∷ j ∷ below) (document_data (rejoined b)) ≡ None
    go None e k = ap (option_and_then (node_below (j ∷ below))) (said_there b i None h e)
    go (Some n) e k = ap (option_and_then (node_below (j ∷ below))) (said_there b i (Some n) h e) ∙ no_nodes n j below k

-- the block of the node at i taken out, and put back
within_listed : (i : ℕ) (ns : List KdlNode) → IsWithin i (nodes_tree ns) → i < length ns
within_listed i [] h = absurd h
within_listed zero (n ∷ ns) h = omega arith
within_listed (suc i) (n ∷ ns) h = let k = within_listed i ns h in omega (arith, k)

in_kids : (i : ℕ) (k : Children) (d : Document) → IsInside i d → IsInside i (with_kids_at i k d)
in_kids i k (document o s ns) h = kids_within i i k ns h

pub still_inside : (i : ℕ) (k : Children) (d e : KdlDocument) → document_tree e ≡ with_kids_at i k (document_tree d) → i < length (nodes_of d) → i < length (nodes_of e)
still_inside i k d e h l = within_listed i (nodes_of e) (subst (IsInside i) (sym h ∙ document_tree_out e) (in_kids i k (document_tree d) (inside i d l)))

pub taken_out : (b c inner : Block) (i : ℕ) (x : KdlDocument) → i < length (nodes_of b.document) → block_in i b.document ≡ Some x → document_tree c.document ≡ with_kids_at i no_children (document_tree b.document) → c.after ≡ b.after → rejoined inner ≡ document_tree x
    → with_kids_at i (children (rejoined inner)) (rejoined c) ≡ rejoined b
taken_out b c inner i x l there tree after own =
    let ms = nodes_tree (reverse b.after.items) in
    let d = document_tree b.document in
    let k = children (document_tree x) in
    ap (λ y. with_kids_at i (children y) (rejoined c)) own
    ∙ ap (with_kids_at i k) (ap (λ (v : Vec KdlNode Global). with_after (nodes_tree (reverse v.items)) (document_tree c.document)) after ∙ ap (with_after ms) tree)
    ∙ sym (kids_after i k ms (with_kids_at i no_children d) (in_kids i no_children d (inside i b.document l)))
    ∙ ap (with_after ms) (at_twice i k no_children d ∙ block_back b.document i x there)

pub put_in : (b c inner : Block) (i : ℕ) (x : KdlDocument) → i < length (nodes_of b.document) → document_tree c.document ≡ with_kids_at i (children (document_tree x)) (document_tree b.document) → c.after ≡ b.after → document_tree x ≡ rejoined inner
    → rejoined c ≡ with_kids_at i (children (rejoined inner)) (rejoined b)
put_in b c inner i x l tree after own =
    ap (λ (v : Vec KdlNode Global). with_after (nodes_tree (reverse v.items)) (document_tree c.document)) after
    ∙ ap (with_after (nodes_tree (reverse b.after.items))) (tree ∙ ap (λ y. with_kids_at i (children y) (document_tree b.document)) own)
    ∙ kids_after i (children (rejoined inner)) (nodes_tree (reverse b.after.items)) (document_tree b.document) (inside i b.document l)

-- the node at i changed
pub changed_in : (b c : Block) (i : ℕ) (f : Node → Node) → i < length (nodes_of b.document) → document_tree c.document ≡ changed_at (i ∷ []) f (document_tree b.document) → c.after ≡ b.after → rejoined c ≡ changed_at (i ∷ []) f (rejoined b)
changed_in b c i f l tree after =
    ap (λ (v : Vec KdlNode Global). with_after (nodes_tree (reverse v.items)) (document_tree c.document)) after
    ∙ ap (with_after (nodes_tree (reverse b.after.items))) tree
    ∙ changed_after i f (nodes_tree (reverse b.after.items)) (document_tree b.document) (inside i b.document l)

-- the last node of the first ones taken out
last_removed : {A : Type 0} (xs ys : List A) (x : A) (i : ℕ) → length xs ≡ i → remove (xs ++ x ∷ ys) i ≡ xs ++ ys
last_removed [] ys x i h = ap (remove (x ∷ ys)) (sym h)
last_removed (z ∷ xs) ys x zero h = absurd (omega (arith, h))
last_removed (z ∷ xs) ys x (suc i) h = ap (λ l. z ∷ l) (last_removed xs ys x i (omega (arith, h)))

longer : {A : Type 0} (xs : List A) (x : A) (ys : List A) → length (xs ++ x ∷ ys) ≡ suc (length xs + length ys)
longer [] x ys = omega arith
longer (z ∷ xs) x ys = let k = longer xs x ys in omega (arith, k)

shorter : {A : Type 0} (k i m : ℕ) (zs : List A) → k ≡ i → length zs ≡ suc (k + m) → i < length zs
shorter k i m zs h e = omega (arith, h, e)

pub last_taken : (b c : Block) (n : KdlNode) (i : ℕ) → nodes_of b.document ≡ nodes_of c.document ++ n ∷ [] → length (nodes_of c.document) ≡ i → c.document ≡ with_nodes b.document (held_nodes c.document) → c.after ≡ b.after
    → Becomes (said_without i) (rejoined b) (rejoined c)
last_taken b c n i h l r after =
    let xs = nodes_of c.document in
    let ys = reverse b.after.items in
    let f = option_map document_format_tree (document_format_of b.document) in
    let s = document_span_of b.document in
    let all : all_nodes b ≡ xs ++ n ∷ ys = ap (λ z. z ++ ys) h ∙ append_assoc xs (n ∷ []) ys in
    let own : all_nodes c ≡ remove (all_nodes b) i = ap (λ (v : Vec KdlNode Global). xs ++ reverse v.items) after ∙ sym (last_removed xs ys n i l) ∙ ap (λ z. remove z i) (sym all) in
    let kept = moved_around b c r in
    let tree : rejoined c ≡ document f s (listed_nodes (remove (map node_tree (all_nodes b)) i)) =
    rejoined_tree c ∙ trees_as b c (all_nodes c) kept.0 kept.1 ∙ ap (λ z. document f s (listed_nodes z)) (ap (map node_tree) own ∙ remove_trees (all_nodes b) i) in
    let within : i < length (map node_tree (all_nodes b)) = shorter (length xs) i (length ys) (map node_tree (all_nodes b)) l (trees_length (all_nodes b) ∙ ap length all ∙ longer xs n ys) in
    subst (λ (z : Document). Becomes (said_without i) (rejoined b) z) (sym tree)
    (subst (λ (z : Document). Becomes (said_without i) z (document f s (listed_nodes (remove (map node_tree (all_nodes b)) i)))) (sym (rejoined_tree b)) (taken f s (map node_tree (all_nodes b)) i within))

pub next_laid : (b c : Block) (n m : KdlNode) (ms : List KdlNode) → b.after.items ≡ ms ++ n ∷ [] → c.after.items ≡ ms ++ m ∷ [] → c.document ≡ b.document → IsLaid n m → Becomes (λ x. x) (rejoined b) (rejoined c)
next_laid b c n m ms h k same l =
    let f = option_map document_format_tree (document_format_of b.document) in
    let s = document_span_of b.document in
    let xs = nodes_of b.document in
    let at : (z : KdlNode) (v : List KdlNode) → v ≡ ms ++ z ∷ [] → map node_tree (xs ++ reverse v) ≡ map node_tree xs ++ node_tree z ∷ map node_tree (reverse ms) =
    λ z v e. ap (λ w. map node_tree (xs ++ reverse w)) e ∙ ap (λ w. map node_tree (xs ++ w)) (reverse-append ms (z ∷ [])) ∙ map-append node_tree xs (z ∷ reverse ms) in
    let old : rejoined b ≡ document f s (listed_nodes (map node_tree xs ++ node_tree n ∷ map node_tree (reverse ms))) = rejoined_tree b ∙ ap (λ z. document f s (listed_nodes z)) (at n b.after.items h) in
    let new : rejoined c ≡ document f s (listed_nodes (map node_tree xs ++ node_tree m ∷ map node_tree (reverse ms))) =
    ap (λ (d : KdlDocument). with_after (nodes_tree (reverse c.after.items)) (document_tree d)) same
    ∙ rejoined_tree (record { document = b.document; after = c.after }) ∙ ap (λ z. document f s (listed_nodes z)) (at m c.after.items k) in
    subst (λ (z : Document). Becomes (λ x. x) (rejoined b) z) (sym new)
    (subst (λ (z : Document). Becomes (λ x. x) z (document f s (listed_nodes (map node_tree xs ++ node_tree m ∷ map node_tree (reverse ms))))) (sym old)
    (laid f s (map node_tree xs) (node_tree n) (node_tree m) (map node_tree (reverse ms)) l.says l.reads))

-- a path of a cursor
pub whole_above : (now was : List Above) (a : Above) (c : Document) → now ≡ was ++ a ∷ [] → plugged now c ≡ plugged was (with_kids_at a.index (children c) (rejoined a.block))
whole_above now was a c h = ap (λ l. plugged l c) h ∙ plugged_last was a c

pub found_last : (p : Path) (x : Document) (above : List Above) (c : Document) (i : ℕ) (o : Option data'.Node) → p ≡ indices above ++ i ∷ [] → x ≡ plugged above c → slice_get (said_nodes (document_data c)) i ≡ o → node_at p (document_data x) ≡ o
found_last p x above c i o h e k =
    ap (λ l. node_at l (document_data x)) h ∙ ap (λ y. node_at (indices above ++ i ∷ []) (document_data y)) e ∙ plugged_found above (i ∷ []) tt c ∙ ap (option_and_then (node_below [])) k ∙ own o
  where
    own : (o : Option data'.Node) → option_and_then (node_below []) o ≡ o
    own None = refl
    own (Some n) = refl

pub found_below : (p : Path) (above : List Above) (c : Document) (i j : ℕ) (rest : Path) → p ≡ indices above ++ i ∷ [] → node_at (i ∷ j ∷ rest) (document_data c) ≡ None → node_at (p ++ j ∷ rest) (document_data (plugged above c)) ≡ None
found_below p above c i j rest h k =
    ap (λ l. node_at (l ++ j ∷ rest) (document_data (plugged above c))) h
    ∙ ap (λ l. node_at l (document_data (plugged above c))) (append_assoc (indices above) (i ∷ []) (j ∷ rest))
    ∙ plugged_found above (i ∷ j ∷ rest) tt c ∙ k

pub up_path : (now was : Path) (o : Option ℕ) → was ≡ now ++ option_to_list o → (o ≡ None → now ≡ []) → now ++ [] ≡ take (length (was ++ []) - 1) (was ++ [])
up_path now was None h f = let e = f refl in let k : was ≡ [] = h ∙ append-nil now ∙ e in ap (λ l. l ++ []) e ∙ ap (λ l. take (length (l ++ []) - 1) (l ++ [])) (sym k)
up_path now was (Some i) h f = append-nil now ∙ sym (front_kept now i (was ++ []) (append-nil was ∙ h))

-- no node is apart
pub none_apart : (b : Block) → b.after.items ≡ [] → rejoined b ≡ document_tree b.document
none_apart b h = ap (λ l. with_after (nodes_tree (reverse l)) (document_tree b.document)) h ∙ go (document_tree b.document)
  where
    nothing : (ns : Nodes) → join ns none ≡ ns
    nothing none = refl
    nothing (first n ns) = ap (first n) (nothing ns)

    go : (d : Document) → with_after none d ≡ d
    go (document o s ns) = ap (document o s) (nothing ns)

pub past_all : (b c : Block) (i : ℕ) → IsMoved b c → c.after.items ≡ [] → length (nodes_of c.document) ≤ i → slice_get (said_nodes (document_data (rejoined b))) i ≡ None
past_all b c i h empty l =
    let all : all_nodes b ≡ nodes_of c.document = sym h.nodes ∙ ap (λ v. nodes_of c.document ++ reverse v) empty ∙ append-nil (nodes_of c.document) in
    said_past b i (subst (λ (v : List KdlNode). length v ≤ i) (sym all) l)

-- the last of the first nodes put apart
pub popped : (b c : Block) (n : KdlNode) → nodes_of b.document ≡ nodes_of c.document ++ n ∷ [] → c.document ≡ with_nodes b.document (held_nodes c.document) → c.after.items ≡ b.after.items ++ n ∷ [] → IsMoved b c
popped b c n h r after =
    moved_so b c r
    (ap (λ v. nodes_of c.document ++ reverse v) after ∙ ap (λ v. nodes_of c.document ++ v) (reverse-append b.after.items (n ∷ [])) ∙ sym (append_assoc (nodes_of c.document) (n ∷ []) (reverse b.after.items)) ∙ ap (λ v. v ++ reverse b.after.items) (sym h))

pub one_less : {A : Type 0} (xs ys : List A) (x : A) → xs ≡ ys ++ x ∷ [] → length xs ≡ suc (length ys)
one_less xs ys x h = let k = longer ys x [] in ap length h ∙ omega (arith, k)

pub removed_last : (b p l c : Block) (n : KdlNode) (i : ℕ) → IsMoved b p → Becomes (λ x. x) (rejoined p) (rejoined l) → nodes_of l.document ≡ nodes_of c.document ++ n ∷ [] → length (nodes_of l.document) ≡ suc i → c.document ≡ with_nodes l.document (held_nodes c.document) → c.after ≡ l.after
    → Becomes (said_without i) (rejoined b) (rejoined c)
removed_last b p l c n i m laid h len r after =
    let k = one_less (nodes_of l.document) (nodes_of c.document) n h in
    becomes_then (λ x. x) (said_without i) (rejoined b) (rejoined l) (rejoined c) (subst (λ (d : Document). Becomes (λ x. x) d (rejoined l)) (moved b p m) laid) (last_taken l c n i h (omega (arith, k, len)) r after)

-- the node at the path of a cursor
pub path_here : (o : Cursor) (i : ℕ) → o.last ≡ Some i → path_of o ≡ indices o.above.items ++ i ∷ []
path_here o i h = ap (λ (x : Option ℕ). indices o.above.items ++ option_to_list x) h

pub node_here : (o : Cursor) (i : ℕ) (n : KdlNode) → o.last ≡ Some i → i < length (nodes_of o.block.document) → slice_get (nodes_of o.block.document) i ≡ Some n → node_at (path_of o) (document_data (whole o)) ≡ Some (node_says n)
node_here o i n h l at = found_last (path_of o) (whole o) o.above.items (rejoined o.block) i (Some (node_says n)) (path_here o i h) refl (said_there o.block i (Some n) l at)

pub place_here : (o : Cursor) (i : ℕ) (n : KdlNode) → o.last ≡ Some i → slice_get (nodes_of o.block.document) i ≡ Some n → IsAt (path_of o) (whole o) (node_tree n)
place_here o i n h at = subst (λ (p : Path). IsAt p (whole o) (node_tree n)) (sym (path_here o i h)) (plugged_at o.above.items (i ∷ []) tt (rejoined o.block) (node_tree n) (at_place o.block i n at))

pub changed_here : (o now : Cursor) (i : ℕ) (m : Node) → o.last ≡ Some i → i < length (nodes_of o.block.document) → now.above ≡ o.above → now.block.after ≡ o.block.after → document_tree now.block.document ≡ changed_at (i ∷ []) (λ _. m) (document_tree o.block.document)
    → whole now ≡ changed_at (path_of o) (λ _. m) (whole o)
changed_here o now i m h l above after tree =
    ap (λ (v : Vec Above Global). plugged v.items (rejoined now.block)) above
    ∙ ap (plugged o.above.items) (changed_in o.block now.block i (λ _. m) l tree after)
    ∙ sym (plugged_changed o.above.items (i ∷ []) tt (λ _. m) (rejoined o.block))
    ∙ ap (λ p. changed_at p (λ _. m) (whole o)) (sym (path_here o i h))

pub removed_here : (g : Edit) (o now : Cursor) (i : ℕ) → o.last ≡ Some i → now.above ≡ o.above → Becomes (g i) (rejoined o.block) (rejoined now.block)
    → (DocumentReads (whole o) → DocumentReads (whole now)) × (document_data (whole now) ≡ edited g (path_of o) (document_data (whole o)))
removed_here g o now i h above b =
    let same : whole now ≡ plugged o.above.items (rejoined now.block) = ap (λ (v : Vec Above Global). plugged v.items (rejoined now.block)) above in (
      λ r. subst DocumentReads (sym same) (plugged_reads o.above.items (rejoined o.block) (rejoined now.block) b.block b.whole r),
      ap document_data same ∙ plugged_edited g o.above.items (i ∷ []) tt (rejoined o.block) (rejoined now.block) b.says ∙ ap (λ p. edited g p (document_data (whole o))) (sym (path_here o i h)),
    )
