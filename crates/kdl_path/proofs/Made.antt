-- A value that is missing is made at a PATH.
use Rattle.std.proofs.Common.{◌≡◌, true, ℕ, List, [], ◌∷◌, ◌++◌, map, take, drop, length, Option, None, Some, option_and_then, slice_get, String, Global, string_bytes, refl, ap, ◌∙◌, sym, subst, append_assoc, append-nil}
use Rattle.std.proofs.lemmas.List.{take-append-drop}
use Rattle.std.proofs.lemmas.Option.{none-some}
use Rattle.std.specs.Str.{encode_utf8_all}
use Rattle.kdl_text.specs.Chars.{Text}
use Rattle.kdl_value.specs.Data.{Value}
use Rattle.kdl_value.specs.Tree.{text_of, value_tree}
use Rattle.kdl_value.specs.WellFormed.{IsWellFormed}
use Rattle.kdl_entry.specs.Tree.{Entry, cleared, entry_data, entry_tree}
use Rattle.kdl_entry.specs.declared.entry.KdlEntry.{KdlEntry}
use Rattle.kdl_grammar.specs.Data as data'
use Rattle.kdl_grammar.specs.Grammar.{IsDocument}
use Rattle.kdl_grammar.specs.ReadsBack.{EntryReads}
use Rattle.kdl_grammar.proofs.Reading.Erased.{one_document}
use Rattle.kdl_parts.specs.EntryLists.{there}
use Rattle.kdl.specs.DocumentLookups.{nodes_of}
use Rattle.kdl.specs.Iterators.{child_nodes}
use Rattle.kdl.specs.Lookups.{entries_of}
use Rattle.kdl.specs.ReadsBack.{DocumentReadsBack, NodeReadsBack}
use Rattle.kdl.specs.Said.{said_child_nodes, said_nodes}
use Rattle.kdl.specs.Tree.{document_prints, document_says, node_says}
use Rattle.kdl.specs.declared.document.KdlDocument.{KdlDocument}
use Rattle.kdl.specs.declared.node.KdlNode.{KdlNode}
use Rattle.kdl.proofs.Finding.SaidLookups.{got_child_nodes, nodes_said}
use Rattle.kdl.proofs.ReadingBack.{unformed_reads}
use Rattle.c_calls.specs.Changes.{AtNode}
use Rattle.c_calls.specs.Entries.{IsValueText}
use Rattle.kdl_path.specs.Edits.{IsMadeAt, changed_at, changed_below, made_at, made_below, made_there, new_entry, new_node, node_with_child, node_with_entry, with_made, with_node, with_nth, with_there}
use Rattle.kdl_path.specs.Failures.{makes_at}
use Rattle.kdl_path.specs.Internal.Changed.{IsEntryPushed, IsMade, with_spelled}
use Rattle.kdl_path.specs.Internal.Done.{IsPutAt, LeadsTo}
use Rattle.kdl_path.specs.Internal.Located.{Leads, LeadsAmong, StopsAt, makes_new, makes_there, place_of_step}
use Rattle.kdl_path.specs.Internal.Made.{IsNewEntry, IsNewNode, IsNullEntry, IsValueMade, PushesNew}
use Rattle.kdl_path.specs.Paths.{at_path, node_at, node_below, step_node, step_place}
use Rattle.kdl_path.specs.declared.change.Change.{Change}
use Rattle.kdl_path.specs.declared.path.Path.{Path}
use Rattle.kdl_path.specs.declared.path.Step.{Step}
use Rattle.kdl_path.specs.declared.path.Target.{Target}
use Rattle.kdl_path.specs.declared.value.Spelled.{Spelled}
use Rattle.kdl_path.proofs.Along.{nth_there}
use Rattle.kdl_path.proofs.Edited.{out_says}
use Rattle.kdl_path.proofs.Failing.{none_is_some}
use Rattle.kdl_path.proofs.Places as places
use Rattle.kdl_path.proofs.Places.{leads_said, place_said}
use Rattle.kdl_path.proofs.Removed.{node_changed}
use Rattle.kdl_path.proofs.There.{made_is_there}
use Rattle.kdl_path.proofs.Values.{spelled_reads}

-- a step that leads to a node
step_made : (s : Step) (ss : List Step) (f g : data'.Node → data'.Node) (x : data'.Nodes) (n : data'.Node) → option_and_then (node_below ss) (step_node s (said_nodes x)) ≡ Some n → ((k : data'.Node) → node_below ss k ≡ Some n → f k ≡ g k)
    → made_there (step_place s (said_nodes x)) (new_node s) f x ≡ with_there (step_place s (said_nodes x)) g x
step_made s ss f g x n h e = go (step_place s (said_nodes x)) h
  where
    at : (i : ℕ) (c : Option data'.Node) → slice_get (said_nodes x) i ≡ c → option_and_then (node_below ss) c ≡ Some n → with_nth i f x ≡ with_nth i g x
    at i None q h = absurd (none-some n h)
    at i (Some k) q h = nth_there i f g x k q (e k h)

    go : (o : Option ℕ) → option_and_then (node_below ss) (there o (said_nodes x)) ≡ Some n → made_there o (new_node s) f x ≡ with_there o g x
    go None h = absurd (none-some n h)
    go (Some i) h = at i (slice_get (said_nodes x) i) refl h

-- steps that lead to a node, for which the rest of the steps makes the change g
below_made : (front rest : List Step) (f g : data'.Node → data'.Node) (m n : data'.Node) → node_below front m ≡ Some n → made_below rest f n ≡ g n → made_below (front ++ rest) f m ≡ changed_below front g m
below_made [] rest f g m n h e = let same : m ≡ n = cc in ap (made_below rest f) same ∙ e ∙ sym (ap g same)
below_made (s ∷ ss) rest f g (data'.node ty name es data'.no_children) n h e = absurd (none-some n h)
below_made (s ∷ ss) rest f g (data'.node ty name es (data'.children x)) n h e =
    ap (λ y. data'.node ty name es (data'.children y)) (step_made s ss (made_below (ss ++ rest) f) (changed_below ss g) x n h (λ k r. below_made ss rest f g k n r e))

pub made_along : (s : Step) (front rest : List Step) (f g : data'.Node → data'.Node) (x : data'.Nodes) (n : data'.Node) → node_at (s ∷ front) (said_nodes x) ≡ Some n → made_below rest f n ≡ g n
    → made_at (s ∷ front ++ rest) f x ≡ changed_at (s ∷ front) g x
made_along s front rest f g x n h e = step_made s front (made_below (front ++ rest) f) (changed_below front g) x n h (λ k r. below_made front rest f g k n r e)

-- a step that leads to no node
no_place : (s : Step) (ns : List KdlNode) (xs : List data'.Node) → map node_says ns ≡ xs → there (place_of_step s ns) ns ≡ None → step_place s xs ≡ None
no_place s ns xs said h = sym (ap (step_place s) said) ∙ sym (place_said s ns) ∙ go (place_of_step s ns) refl h
  where
    go : (o : Option ℕ) → place_of_step s ns ≡ o → there o ns ≡ None → o ≡ None
    go None e h = refl
    go (Some i) e h = absurd (none_is_some (slice_get ns i) h (places.nth_there _ ns _ i e))

child_made : (s : Step) (ss : List Step) (f : data'.Node → data'.Node) (n : data'.Node) → step_place s (said_child_nodes n) ≡ None → made_below (s ∷ ss) f n ≡ node_with_child (made_below ss f (new_node s)) n
child_made s ss f (data'.node ty name es data'.no_children) h = refl
child_made s ss f (data'.node ty name es (data'.children x)) h = ap (λ o. data'.node ty name es (data'.children (made_there o (new_node s) (made_below ss f) x))) h

made_put : (ss : List Step) (is : List ℕ) (d : KdlDocument) (ns : List KdlNode) (f : data'.Node → data'.Node) (h : StopsAt ss is (nodes_of d) ns)
    → made_at ss f (document_says d) ≡ with_node (take (length is) ss) (made_below h.rest f (new_node h.next)) (document_says d)
made_put ss is d ns f h =
    let i = length is in
    ap (λ l. made_at l f (document_says d)) (sym (take-append-drop i ss) ∙ ap (λ l. take i ss ++ l) h.steps) ∙ go (take i ss) h.leads
  where
    y : data'.Node
    y = made_below h.rest f (new_node h.next)

    go : (front : List Step) → LeadsAmong front is (nodes_of d) ns → made_at (front ++ (h.next ∷ h.rest)) f (document_says d) ≡ with_node front y (document_says d)
    go [] (e, same) =
        let said : map node_says ns ≡ said_nodes (document_says d) = ap (map node_says) same ∙ nodes_said d in
        ap (λ o. made_there o (new_node h.next) (made_below h.rest f) (document_says d)) (no_place h.next ns (said_nodes (document_says d)) said h.none)
    go (t ∷ front) (n, leads, same) =
        let said : map node_says ns ≡ said_child_nodes (node_says n) = ap (map node_says) same ∙ got_child_nodes n (child_nodes n) refl in
        made_along t front (h.next ∷ h.rest) f (node_with_child y) (document_says d) (node_says n) (leads_said (t ∷ front) is d n leads)
        (child_made h.next h.rest f (node_says n) (no_place h.next ns (said_child_nodes (node_says n)) said h.none))

leads_to : (ss : List Step) (is : List ℕ) (all ns : List KdlNode) → LeadsAmong ss is all ns → LeadsTo ss is all
leads_to [] is all ns h = h.0
leads_to (s ∷ ss) is all ns (n, h, e) = (n, h)

-- a node that is made
first_is : (s t : Step) (ss ts : List Step) → s ∷ ss ≡ t ∷ ts → s ≡ t
first_is s t ss ts h = cc

rest_is : (s t : Step) (ss ts : List Step) → s ∷ ss ≡ t ∷ ts → ss ≡ ts
rest_is s t ss ts h = cc

pub node_made : (p : Path) (v : Value) (is : List ℕ) (d e : KdlDocument) (ns : List KdlNode) (n : KdlNode) → StopsAt p.steps.items is (nodes_of d) ns
    → ((t : Target) → makes_at p.steps.items t (said_nodes (document_says d)) ≡ makes_new (drop (length is) p.steps.items) t ns) → makes_new (drop (length is) p.steps.items) p.target ns ≡ true
    → IsNewNode [] (drop (length is) p.steps.items) (node_with_entry (new_entry p.target v)) n → (LeadsTo (take (length is) p.steps.items) is (nodes_of d) → IsPutAt (take (length is) p.steps.items) (node_says n) d e) → IsValueMade p v d e
node_made p v is d e ns n h makes next new put =
    let ss = p.steps.items in
    let f = node_with_entry (new_entry p.target v) in
    let x = put (leads_to (take (length is) ss) is (nodes_of d) ns h.leads) in
    let same : new.first ∷ new.below ≡ h.next ∷ h.rest = sym new.steps ∙ h.steps in
    let node : node_says n ≡ made_below h.rest f (new_node h.next) =
    new.says ∙ ap (λ l. made_below l f (new_node new.first)) (rest_is _ _ _ _ same) ∙ ap (λ s. made_below h.rest f (new_node s)) (first_is _ _ _ _ same) in
    record {
      next = makes p.target ∙ next;
      reads = x.reads;
      says = x.says ∙ ap (λ y. with_node (take (length is) ss) y (document_says d)) node ∙ sym (made_put ss is d ns f h);
    }

-- an entry that is made
made_all : (ss : List Step) (f : data'.Node → data'.Node) (is : List ℕ) (d : KdlDocument) (n : KdlNode) → Leads ss is (nodes_of d) None n → made_at ss f (document_says d) ≡ changed_at ss f (document_says d)
made_all [] f is d n h = refl
made_all (s ∷ ss) f is d n h =
    ap (λ l. made_at (s ∷ l) f (document_says d)) (sym (append-nil ss)) ∙ made_along s ss [] f f (document_says d) (node_says n) (leads_said (s ∷ ss) is d n h) refl

pub entry_made : (p : Path) (v : Value) (is : List ℕ) (d e : KdlDocument) (n : KdlNode) (c : Change) → Leads p.steps.items is (nodes_of d) None n → ((t : Target) → makes_at p.steps.items t (said_nodes (document_says d)) ≡ makes_there t (entries_of n)) → PushesNew p.target v (entries_of n) c
    → AtNode is (IsMade c) d e → DocumentReadsBack d → IsValueMade p v d e
entry_made p v is d e n c leads makes m at r =
    let ss = p.steps.items in
    let f = node_with_entry (new_entry p.target v) in
    let pushed = subst (λ (k : Change). AtNode is (IsMade k) d e) m.change at in
    let x = node_changed ss is d e n (IsEntryPushed m.entry) f leads pushed (λ k h. h.reads m.new.reads) (λ k h. h.says ∙ ap (λ y. node_with_entry y (node_says n)) m.new.says) r in
    record { next = makes p.target ∙ m.next; reads = x.reads; says = x.says ∙ sym (made_all ss f is d n leads) }

-- the text after a value is made
pub made_ends : (p : Path) (s : Spelled) (given text : Text) (d e : KdlDocument) (out : String Global) (x : data'.Nodes) → IsDocument text x → at_path p x ≡ None → text_of s.spelling ≡ given → IsValueText given (value_tree s.value)
    → ((z : data'.Nodes) → IsDocument text z → z ≡ document_says d) → DocumentReadsBack d
    → (DocumentReadsBack d → IsValueText (text_of s.spelling) (value_tree s.value) → at_path p (document_says d) ≡ None → IsValueMade p (value_tree s.value) d e)
    → string_bytes out ≡ encode_utf8_all (document_prints e) → IsMadeAt p given text (text_of out)
made_ends p s given text d e out x y none spelled ok only reads made bytes =
    let v = value_tree s.value in
    let done = made reads (subst (λ (t : Text). IsValueText t v) (sym spelled) ok) (sym (ap (at_path p) (only x y)) ∙ none) in
    let there : at_path p (with_made p v (document_says d)) ≡ Some v = made_is_there p.target v p.steps.items (document_says d) done.next (sym (ap (at_path p) (only x y)) ∙ none) in
    record {
      value = v;
      reads = ok;
      says = λ z k. out_says e out (with_made p v z) bytes done.reads (done.says ∙ ap (with_made p v) (sym (only z k)));
      found = λ z k. ap (λ w. at_path p (with_made p v w)) (only z k) ∙ there;
    }

-- the value is found in the new text
pub made_found : (p : Path) (given text out : Text) (x y : data'.Nodes) → IsMadeAt p given text out → IsDocument text x → IsDocument out y → (v : Value) × IsValueText given v × (at_path p y ≡ Some v)
made_found p given text out x y h d e = (h.value, h.reads, ap (at_path p) (one_document out y (with_made p h.value x) e (h.says x d)) ∙ h.found x d)

pub made_unchanged : (p : Path) (given text : Text) (x : data'.Nodes) → IsMadeAt p given text text → IsDocument text x → at_path p x ≡ None → ⊥
made_unchanged p given text x h d none = let (v, reads, found) = made_found p given text text x x h d d in none-some v (sym none ∙ found)

-- an entry that is new
pub null_entry_is : (t : Target) (e : KdlEntry) (x : Entry) → entry_tree e ≡ x → cleared x ≡ x → IsWellFormed (entry_tree e).value → ((v : Value) → entry_data (record x { value = v }) ≡ new_entry t v) → IsNullEntry t e
null_entry_is t e x tree plain fits says = record {
  says = λ v. ap (λ (y : Entry). entry_data (record y { value = v })) tree ∙ says v;
  reads = unformed_reads e (record { plain = ap cleared tree ∙ plain ∙ sym tree; value = fits });
}

pub new_entry_is : (t : Target) (v : Value) (s : Text) (e f : KdlEntry) → IsNullEntry t e → entry_tree f ≡ with_spelled v s (entry_tree e) → IsValueText s v → IsNewEntry t v f
new_entry_is t v s e f null tree ok = record {
  says = ap entry_data tree ∙ null.says v;
  reads = subst EntryReads (sym tree) (spelled_reads (entry_tree e) v s (entry_tree e).format ok null.reads);
}

-- a node above others
pub child_new : (left rest ss : List Step) (s : Step) (f : data'.Node → data'.Node) (n m : KdlNode) → IsNewNode left ss f n → left ≡ rest ++ (s ∷ []) → node_says m ≡ node_with_child (node_says n) (new_node s) → (NodeReadsBack n → NodeReadsBack m) → IsNewNode rest ss f m
child_new left rest ss s f n m new split says reads = record {
  first = s;
  below = new.first ∷ new.below;
  steps = new.steps ∙ ap (λ l. l ++ (new.first ∷ new.below)) split ∙ append_assoc rest (s ∷ []) (new.first ∷ new.below);
  says = says ∙ ap (λ y. node_with_child y (new_node s)) new.says;
  reads = reads new.reads;
}
