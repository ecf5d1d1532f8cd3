-- An entry that is appended or removed, and a node in a block that is removed.
use Rattle.std.proofs.Common.{◌≡◌, ℕ, zero, suc, ◌<◌, length, List, [], ◌∷◌, ◌++◌, map, take, drop, Option, None, Some, option_map, refl, ap, ◌∙◌, sym, subst, arith}
use Rattle.std.proofs.lemmas.List.{map-append}
use Rattle.std.proofs.lemmas.List.Elements.{All-append, All-drop, All-take}
use Rattle.std.specs.List.{All, remove}
use Rattle.kdl_text.specs.Chars.{Text}
use Rattle.kdl_entry.specs.Data as data'
use Rattle.kdl_entry.specs.Tree.{entry_data, entry_tree, identifier_tree}
use Rattle.kdl_entry.specs.declared.entry.KdlEntry.{KdlEntry}
use Rattle.kdl_grammar.specs.Data as nodes'
use Rattle.kdl_grammar.specs.Print.{leading_text, trailing_text}
use Rattle.kdl_grammar.specs.ReadsBack.{AddsNothing, BlockEnd, BlockReads, ContentReads, IsGapBefore, NodesRead, Rests, block, last_rests, two_texts, with_nodes as content_nodes}
use Rattle.kdl_grammar.specs.Tree.{DocumentFormat, Node, children_data, children_of, document, listed_nodes, node_data}
use Rattle.kdl_grammar.proofs.ReadingBack.Composing.{nodes_append, nodes_drop, nodes_take}
use Rattle.kdl_parts.specs.Formats.{document_format_tree}
use Rattle.kdl_text.specs.declared.span.SourceSpan.{SourceSpan}
use Rattle.kdl.specs.Change.{with_entries, with_nodes}
use Rattle.kdl.specs.DocumentLookups.{nodes_of}
use Rattle.kdl.specs.Fields.{held_entries, held_nodes}
use Rattle.kdl.specs.Iterators.{child_nodes, nodes_in}
use Rattle.kdl.specs.Said.{said_nodes}
use Rattle.kdl.specs.Lookups.{entries_of}
use Rattle.kdl.specs.ReadsBack.{BlockReadsBack, EntryReadsBack, ReadsAs}
use Rattle.kdl.specs.Tree.{document_says, document_tree, node_says, node_tree}
use Rattle.kdl.specs.declared.document.KdlDocument.{KdlDocument}
use Rattle.kdl.specs.declared.document.KdlDocument.TheViews.{out-KdlDocument, out-KdlNode}
use Rattle.kdl.specs.declared.node.KdlNode.{KdlNode}
use Rattle.kdl.proofs.Finding.SaidLookups.{entry_says}
use Rattle.kdl.proofs.Putting.Puts.{remove_trees, taken_says}
use Rattle.kdl.proofs.ReadingBack.{block_exchanged, entries_exchanged}
use Rattle.kdl.proofs.Trees.{document_tree_out, document_tree_roll, node_tree_out, node_tree_roll}
use Rattle.c_calls.specs.Entries.{EntryRemoved}
use Rattle.kdl_path.specs.Edits.{changed_at, changed_below, entry_place, node_with_entry, node_without_entry, with_block, with_nth, with_there, without_node, without_nth, without_there}
use Rattle.kdl_path.specs.Internal.Changed.{IsChildRemoved}
use Rattle.kdl_path.specs.Internal.Located.{Leads, place_of_step, place_of_target}
use Rattle.kdl_path.specs.Paths.{step_place}
use Rattle.kdl_path.specs.declared.path.Step.{Step}
use Rattle.kdl_path.specs.declared.path.Target.{Target}
use Rattle.kdl_path.proofs.Trees.{block_set_says}
use Rattle.kdl_path.proofs.Places.{step_said, target_said}
use Rattle.kdl.specs.Nodes.{said_without}

map_twice : {A B C : Type 0} (f : A → B) (g : B → C) (xs : List A) → map (λ x. g (f x)) xs ≡ map g (map f xs)
map_twice f g [] = refl
map_twice f g (x ∷ xs) = ap (λ l. g (f x) ∷ l) (map_twice f g xs)

map_removed : {A B : Type 0} (f : A → B) (xs : List A) (i : ℕ) → map f (remove xs i) ≡ remove (map f xs) i
map_removed f [] zero = refl
map_removed f [] (suc i) = refl
map_removed f (x ∷ xs) zero = refl
map_removed f (x ∷ xs) (suc i) = ap (λ l. f x ∷ l) (map_removed f xs i)

pub removed_reads : (n m : KdlNode) (i : ℕ) → EntryRemoved i n m → ReadsAs n m
removed_reads n m i h =
    let es = entries_of n in
    subst (λ (k : KdlNode). ReadsAs n k) (sym h.rest)
    (entries_exchanged n (held_entries m) (λ c. subst (λ (l : List KdlEntry). All EntryReadsBack l) (sym h.entries) (All-append EntryReadsBack (take i es) (drop (suc i) es) (All-take EntryReadsBack i es c) (All-drop EntryReadsBack (suc i) es c))))

pub removed_says : (t : Target) (n m : KdlNode) (i : ℕ) → place_of_target t (entries_of n) ≡ Some i → EntryRemoved i n m → node_says m ≡ node_without_entry t (node_says n)
removed_says t n m i p h =
    let X = out-KdlNode n in
    let with = λ (l : List data'.Entry). nodes'.node (option_map (λ i. i.value) (option_map identifier_tree X.ty)) (identifier_tree X.name).value l (children_data (children_of (option_map document_tree X.children))) in
    let es = entries_of n in
    ap node_says h.rest
    ∙ ap node_data (node_tree_roll _)
    ∙ ap with (sym (map_twice entry_tree entry_data (entries_of m)) ∙ ap (map entry_says) h.entries ∙ map_removed entry_says es i ∙ ap (λ o. without_nth o (map entry_says es)) (sym p ∙ target_said t es))
    ∙ ap (λ l. with (without_nth (entry_place t l) l)) (map_twice entry_tree entry_data es)
    ∙ sym (ap (node_without_entry t) (ap node_data (node_tree_out n)))

pub pushed_says : (e : KdlEntry) (n m : KdlNode) → entries_of m ≡ entries_of n ++ (e ∷ []) → m ≡ with_entries n (held_entries m) → node_says m ≡ node_with_entry (entry_says e) (node_says n)
pushed_says e n m items rest =
    let X = out-KdlNode n in
    let with = λ (l : List data'.Entry). nodes'.node (option_map (λ i. i.value) (option_map identifier_tree X.ty)) (identifier_tree X.name).value l (children_data (children_of (option_map document_tree X.children))) in
    let es = entries_of n in
    ap node_says rest
    ∙ ap node_data (node_tree_roll _)
    ∙ ap with (sym (map_twice entry_tree entry_data (entries_of m)) ∙ ap (map entry_says) items ∙ map-append entry_says es (e ∷ []))
    ∙ ap (λ l. with (l ++ (entry_says e ∷ []))) (map_twice entry_tree entry_data es)
    ∙ sym (ap (node_with_entry (entry_says e)) (ap node_data (node_tree_out n)))

-- a node of a block
content_of : (P : Rests) (l t : Text) (ms : List Node) → AddsNothing l → NodesRead (last_rests t P) (listed_nodes ms) → IsGapBefore P t → ContentReads P l t (listed_nodes ms)
content_of P l t [] a x g = two_texts a g
content_of P l t (m ∷ ms) a x g = content_nodes a x g

content_taken : (P : Rests) (l t : Text) (ns : List Node) (i : ℕ) → i < length ns → ContentReads P l t (listed_nodes ns) → ContentReads P l t (listed_nodes (remove ns i))
content_taken P l t [] i h c = absurd (omega arith)
content_taken P l t (n ∷ ns) i h (content_nodes a x g) =
    content_of P l t (remove (n ∷ ns) i) a (nodes_append (take i (n ∷ ns)) (drop (suc i) (n ∷ ns)) (nodes_take i (n ∷ ns) h x) (nodes_drop (suc i) (n ∷ ns) x)) g

block_taken : (o : Option DocumentFormat) (at : SourceSpan) (ns : List Node) (i : ℕ) → i < length ns → BlockReads (document o at (listed_nodes ns)) → BlockReads (document o at (listed_nodes (remove ns i)))
block_taken o at ns i h (block c) = block (content_taken (BlockEnd o) (leading_text o) (trailing_text o) ns i h c)

length_trees : (ns : List KdlNode) → length (map node_tree ns) ≡ length ns
length_trees [] = refl
length_trees (n ∷ ns) = ap suc (length_trees ns)

block_taken_reads : (i : ℕ) (d e : KdlDocument) → i < length (nodes_of d) → nodes_of e ≡ remove (nodes_of d) i → e ≡ with_nodes d (held_nodes e) → BlockReadsBack d → BlockReadsBack e
block_taken_reads i d e h k r x =
    let X = out-KdlDocument d in
    let o = option_map document_format_tree X.format in
    let ns = map node_tree (nodes_of d) in
    let new : document_tree e ≡ document o X.span (listed_nodes (remove ns i)) =
    ap document_tree r ∙ document_tree_roll (record X { nodes = held_nodes e }) ∙ ap (λ (l : List Node). document o X.span (listed_nodes l)) (ap (map node_tree) k ∙ remove_trees (nodes_of d) i) in
    subst BlockReads (sym new) (block_taken o X.span ns i (subst (λ (z : ℕ). i < z) (sym (length_trees (nodes_of d))) h) (subst BlockReads (document_tree_out d) x))

pub child_removed_reads : (n m : KdlNode) (i : ℕ) → IsChildRemoved i n m → ReadsAs n m
child_removed_reads n m i h =
    let t = h.taken.taken in
    subst (λ (k : KdlNode). ReadsAs n k) (sym h.rest) (block_exchanged n h.old h.new h.block (λ x. block_taken_reads i h.taken.between h.new t.place t.nodes t.around (h.taken.laid.reads x)))

pub child_removed_says : (s : Step) (n m : KdlNode) (i : ℕ) → place_of_step s (child_nodes n) ≡ Some i → IsChildRemoved i n m → node_says m ≡ with_block (without_node (s ∷ [])) (node_says n)
child_removed_says s n m i p h =
    let there : place_of_step s (nodes_of h.old) ≡ Some i = subst (λ (o : Option KdlDocument). place_of_step s (nodes_in o) ≡ Some i) h.block p in
    ap node_says h.rest
    ∙ block_set_says n h.old h.new (without_node (s ∷ [])) h.block
    (taken_says i h.taken.between h.new h.taken.taken.nodes ∙ ap (said_without i) h.taken.laid.says ∙ ap (λ o. without_there o (document_says h.old)) (sym (step_said s h.old i there)))

-- the nodes to which the steps lead, but for the last
pub record Parent (ss : List Step) (is : List ℕ) (i : ℕ) (ns : List KdlNode) (o : Option KdlNode) : Type 0 where
  pub above : List Step
  pub last : Step
  pub steps : ss ≡ above ++ last ∷ []
  pub node : KdlNode
  pub leads : Leads above is ns o node
  pub place : place_of_step last (child_nodes node) ≡ Some i

pub parent : (ss : List Step) (j : ℕ) (is : List ℕ) (i : ℕ) (ns : List KdlNode) (o : Option KdlNode) (n : KdlNode) → Leads ss (j ∷ is ++ i ∷ []) ns o n → Parent ss (j ∷ is) i ns o
parent [] j is i ns o n h = absurd h
parent (s ∷ []) j [] i ns o n h = absurd h.3
parent (s ∷ t ∷ []) j [] i ns o n h = record { above = s ∷ []; last = t; steps = refl; node = h.0; leads = (h.0, h.1, h.2, refl); place = h.3.1 }
parent (s ∷ t ∷ u ∷ ss) j [] i ns o n h = absurd h.3.3
parent (s ∷ ss) j (k ∷ is) i ns o n h =
    let x = parent ss k is i (child_nodes h.0) (Some h.0) n h.3 in
    record { above = s ∷ x.above; last = x.last; steps = ap (λ l. s ∷ l) x.steps; node = x.node; leads = (h.0, h.1, h.2, x.leads); place = x.place }

-- the data without a node, by the node above it
pub nth_same : (i : ℕ) (f g : nodes'.Node → nodes'.Node) → ((n : nodes'.Node) → f n ≡ g n) → (x : nodes'.Nodes) → with_nth i f x ≡ with_nth i g x
nth_same i f g h nodes'.none = refl
nth_same zero f g h (nodes'.first n x) = ap (λ z. nodes'.first z x) (h n)
nth_same (suc i) f g h (nodes'.first n x) = ap (nodes'.first n) (nth_same i f g h x)

pub there_same : (o : Option ℕ) (f g : nodes'.Node → nodes'.Node) → ((n : nodes'.Node) → f n ≡ g n) → (x : nodes'.Nodes) → with_there o f x ≡ with_there o g x
there_same None f g h x = refl
there_same (Some i) f g h x = nth_same i f g h x

block_same : (f g : nodes'.Nodes → nodes'.Nodes) → ((x : nodes'.Nodes) → f x ≡ g x) → (n : nodes'.Node) → with_block f n ≡ with_block g n
block_same f g h (nodes'.node ty name es nodes'.no_children) = refl
block_same f g h (nodes'.node ty name es (nodes'.children x)) = ap (λ z. nodes'.node ty name es (nodes'.children z)) (h x)

pub changed_without : (t : Step) (ss : List Step) (s : Step) (x : nodes'.Nodes) → changed_at (t ∷ ss) (with_block (without_node (s ∷ []))) x ≡ without_node (t ∷ ss ++ s ∷ []) x
changed_without t [] s x = there_same (step_place t (said_nodes x)) (changed_below [] (with_block (without_node (s ∷ [])))) (with_block (without_node (s ∷ []))) (λ n. refl) x
changed_without t (u ∷ us) s x =
    let g = with_block (without_node (s ∷ [])) in
    there_same (step_place t (said_nodes x)) (changed_below (u ∷ us) g) (with_block (without_node (u ∷ us ++ s ∷ [])))
    (block_same (changed_at (u ∷ us) g) (without_node (u ∷ us ++ s ∷ [])) (changed_without u us s)) x
