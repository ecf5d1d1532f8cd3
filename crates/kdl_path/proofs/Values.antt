-- A value that is set.
use Rattle.std.proofs.Common.{◌≡◌, ◌+◌, ℕ, zero, suc, true, List, [], ◌∷◌, ◌++◌, map, set, Option, None, Some, IsSome, Ok, option_and_then, option_map, slice_get, String, Global, string_bytes, refl, ap, ◌∙◌, sym, subst, append_assoc, append-nil}
use Rattle.std.proofs.lemmas.List.{map-set}
use Rattle.std.proofs.lemmas.List.Elements.{All-set}
use Rattle.std.proofs.lemmas.Option.{get_or_from_slice_get, none-some, slice_get-map, slice_get_within}
use Rattle.kdl_text.specs.Chars.{Text}
use Rattle.kdl_text.specs.Trivia.{ValueEnd}
use Rattle.kdl_syntax.proofs.Moving.Puts.{same_piece}
use Rattle.kdl_value.specs.Data.{Value}
use Rattle.kdl_value.specs.Print.{print_value}
use Rattle.kdl_value.specs.Tree.{text_of, value_tree}
use Rattle.kdl_entry.specs.Data as data'
use Rattle.kdl_entry.specs.Entries.{IsPlainValue}
use Rattle.kdl_entry.specs.Print.{print_key, print_type}
use Rattle.kdl_entry.specs.Tree.{Entry, EntryFormat, empty_format, entry_data, entry_tree}
use Rattle.kdl_entry.specs.declared.entry.KdlEntry.{KdlEntry}
use Rattle.kdl_entry.proofs.Moving.EntryMoves.{move_plain}
use Rattle.kdl_grammar.specs.Data as nodes'
use Rattle.kdl_grammar.specs.Grammar.{AfterName, IsDocument}
use Rattle.kdl_grammar.specs.Print.{before_block, end_text, after_brace, before_brace, format_of, print_document, print_head, print_node, print_piece, print_pieces, print_tail}
use Rattle.kdl_grammar.specs.ReadsBack.{DocumentReads, EntryReads, NodeReads, Rests, front_text, value_text}
use Rattle.kdl_grammar.specs.Tree.{Children, Document, Head, Node, NodeFormat, children, children_data, children_of, document_data, no_children, node, node_data}
use Rattle.kdl_grammar.proofs.ReadingBack.Composing.{entries_read, with_entries}
use Rattle.kdl_grammar.proofs.ReadingBack.Reads.{reads_derived}
use Rattle.kdl_layout.proofs.Texts.{printed_text}
use Rattle.kdl.specs.DocumentLookups.{nodes_of}
use Rattle.kdl.specs.EditLaw.{tree_entries}
use Rattle.kdl.specs.Lookups.{entries_of, with_entry_there}
use Rattle.kdl.specs.ReadsBack.{DocumentReadsBack}
use Rattle.kdl.specs.Tree.{document_prints, document_says, document_tree, head_tree, node_says, node_tree}
use Rattle.kdl.specs.declared.document.KdlDocument.{KdlDocument}
use Rattle.kdl.specs.declared.document.KdlDocument.TheViews.{out-KdlNode}
use Rattle.kdl.specs.declared.node.KdlNode.{KdlNode}
use Rattle.kdl.proofs.Trees.{node_tree_out, node_tree_roll}
use Rattle.std.specs.Str.{encode_utf8_all}
use Rattle.std.specs.Vec.{with_item}
use Rattle.c_calls.specs.Changes.{AtNode, changed_at}
use Rattle.c_calls.specs.Entries.{IsValueText}
use Rattle.c_calls.specs.Paths.{node_at}
use Rattle.kdl_path.specs.Edits.{IsExchangedAt, IsSetAt, entry_place, node_with_value, with_value, with_value_nth, with_value_there}
use Rattle.kdl_path.specs.Internal.Done.{IsDoneAt, SetsValue}
use Rattle.kdl_path.specs.Internal.Changed.{IsMade, IsValueSet, spaced_format, with_format, with_spelled}
use Rattle.kdl_path.specs.Internal.Located.{Leads, place_of_target}
use Rattle.kdl_path.specs.Internal.OnEach.{edited, setting}
use Rattle.kdl_path.specs.Paths.{at_path, value_in}
use Rattle.kdl_path.specs.declared.change.Change.{Change}
use Rattle.kdl_path.specs.declared.path.Path.{Path}
use Rattle.kdl_path.specs.declared.path.Step.{Step}
use Rattle.kdl_path.specs.declared.path.Target.{Target}
use Rattle.kdl_path.specs.declared.value.Spelled.{Spelled}
use Rattle.kdl_path.proofs.Along.{changed_along}
use Rattle.kdl_path.proofs.Places.{at_node, leads_at, leads_said, target_said, value_found}
use Rattle.kdl_path.proofs.Trees.{IsAround, IsAt, at_tree, of_each, prints_at, reads_at, same_at, same_text, says_at, text_first, text_last, within}

-- a value that is a whole text comes before each value end
value_before : (t : Text) (v : Value) → IsValueText t v → (r : Text) → ValueEnd true r → IsPlainValue true (t ++ r) r v
value_before t v d r e =
    let m = move_plain d in
    subst (λ (s : Text). IsPlainValue true s r v) (same_piece t m.at (sym (append-nil t)) r) (m.there r e)

-- an entry with another front of the same text, and another value
front_moved : {q q' r u t : Text} {v : Value} {x : data'.Entry} {es : List data'.Entry} {k : nodes'.Children} → q ≡ q' → IsPlainValue true r u v → AfterName true (q ++ r) t (x ∷ es) k → AfterName true (q' ++ r) t (x ∷ es) k
front_moved {r = r} {t = t} {x = x} {es = es} {k = k} a p d = subst (λ (y : Text). AfterName true (y ++ r) t (x ∷ es) k) a d

pub spelled_reads : (e : Entry) (v : Value) (t : Text) (o : Option EntryFormat) → IsValueText t v → EntryReads (record e { format = o }) → EntryReads (with_spelled v t (record e { format = o }))
spelled_reads e v t (Some f) d E = record { begins = λ r. E.begins r; front = λ p k. E.front p k; value = λ x. value_before t v d _ x; trailing = E.trailing }
spelled_reads e v t None d E =
    let same : front_text e None ≡ 32 ∷ print_key e.name [] [] ++ print_type e.ty [] [] ++ [] = ap (λ (z : Text). 32 ∷ z) (sym (append-nil (print_key e.name [] [] ++ print_type e.ty [] []))) in
    record {
      begins = λ r. subst (λ (x : Text). ValueEnd true (x ++ r)) same (E.begins r);
      front = λ p k. front_moved same p (E.front p k);
      value = λ x. value_before t v d _ x;
      trailing = refl;
    }

-- the place of the value in what an entry prints
record PrintsValue (e : Entry) : Type 0 where
  pub before : Text
  pub after : Text
  pub own : print_piece e ≡ before ++ value_text e e.format ++ after
  pub spelled : (v : Value) (t : Text) → print_piece (with_spelled v t e) ≡ before ++ t ++ after

entry_prints : (e : Entry) (o : Option EntryFormat) → PrintsValue (record e { format = o })
entry_prints e None =
    let front = front_text e None in
    record { before = front; after = []; own = sym (append-nil (front ++ print_value e.value)); spelled = λ v t. ap (λ (z : Text). z ++ t ++ []) (append-nil front) }
entry_prints e (Some f) = record { before = front_text e (Some f); after = f.trailing; own = refl; spelled = λ v t. refl }

-- a node with another entry at a place
abbrev with_piece : ℕ → Entry → Node → Node
with_piece i e (node h k) = node (record h { entries = set h.entries i e }) k

set_same : {A : Type 0} (xs : List A) (i : ℕ) (x : A) → slice_get xs i ≡ Some x → set xs i x ≡ xs
set_same [] i x h = absurd (cc)
set_same (y ∷ xs) zero x h = let same : x ≡ y = cc in ap (λ z. z ∷ xs) same
set_same (y ∷ xs) (suc i) x h = ap (λ l. y ∷ l) (set_same xs i x h)

piece_same : (i : ℕ) (e : Entry) (n : Node) → slice_get (tree_entries n) i ≡ Some e → with_piece i e n ≡ n
piece_same i e (node h k) at = ap (λ es. node (record h { entries = es }) k) (set_same h.entries i e at)

-- what it prints
pieces_print : (es : List Entry) (i : ℕ) (e : Entry) → slice_get es i ≡ Some e → IsAround print_piece (λ x. print_pieces (set es i x))
pieces_print [] i e h = absurd (cc)
pieces_print (y ∷ es) zero e h = text_last (print_pieces es) (record { before = []; after = []; prints = λ x. sym (append-nil (print_piece x)) })
pieces_print (y ∷ es) (suc i) e h = text_first (print_piece y) (pieces_print es i e h)

before_same : (o : Option NodeFormat) (es fs : List Entry) → IsSome o → before_block o es ≡ before_block o fs
before_same None es fs s = absurd (cc)
before_same (Some f) es fs s = refl

tail_same : (h : Head) (es : List Entry) (k : Children) (depth : ℕ) → IsSome h.format → print_tail (record h { entries = es }) k depth ≡ print_tail h k depth
tail_same h es no_children depth s = refl
tail_same h es (children d) depth s =
    ap (λ (z : Text). z ++ (123 ∷ after_brace (format_of d)) ++ print_document d (depth + 1) ++ before_brace (format_of d) depth ++ (125 ∷ end_text h.format)) (before_same h.format es h.entries s)

formed : {P : Rests} (h : Head) (k : Children) → NodeReads P (node h k) → IsSome h.format
formed h k (NodeReads.reads e a b c) = subst (λ (o : Option NodeFormat). IsSome o) (sym e) refl

piece_prints : {P : Rests} (i : ℕ) (e : Entry) (n : Node) (depth : ℕ) → NodeReads P n → slice_get (tree_entries n) i ≡ Some e → IsAround print_piece (λ x. print_node (with_piece i x n) depth)
piece_prints i e (node h k) depth r at =
    same_text (λ x. ap (λ (z : Text). print_head h depth ++ print_pieces (set h.entries i x) ++ z) (tail_same h (set h.entries i x) k depth (formed h k r)))
    (text_last (print_tail h k depth) (text_first (print_head h depth) (pieces_print h.entries i e at)))

-- where it reads back, and its data
piece_reads : (i : ℕ) (e : Entry) (n : Node) → EntryReads e → (P : Rests) → NodeReads P n → NodeReads P (with_piece i e n)
piece_reads i e (node h k) x P r = with_entries (set h.entries i e) r (All-set EntryReads h.entries i e x (entries_read r))

piece_read : {P : Rests} (i : ℕ) (e : Entry) (n : Node) → NodeReads P n → slice_get (tree_entries n) i ≡ Some e → EntryReads e
piece_read i e (node h k) r at = subst EntryReads (get_or_from_slice_get h.entries i e e at) (entries_read r i e (slice_get_within h.entries i e at))

entries_say : (v : Value) (t : Text) (e : Entry) (es : List Entry) (i : ℕ) → slice_get es i ≡ Some e → map entry_data (set es i (with_spelled v t e)) ≡ with_value_nth i v (map entry_data es)
entries_say v t e [] i k = absurd (cc)
entries_say v t e (x ∷ xs) zero k = let same : e ≡ x = cc in ap (λ (y : Entry). record (entry_data y) { value = v } ∷ map entry_data xs) same
entries_say v t e (x ∷ xs) (suc i) k = ap (λ l. entry_data x ∷ l) (entries_say v t e xs i k)

piece_says : (tg : Target) (v : Value) (t : Text) (i : ℕ) (e : Entry) (n : Node) → slice_get (tree_entries n) i ≡ Some e → entry_place tg (map entry_data (tree_entries n)) ≡ Some i → node_data (with_piece i (with_spelled v t e) n) ≡ node_with_value tg v (node_data n)
piece_says tg v t i e (node h k) at place =
    ap (λ es. nodes'.node (option_map (λ i. i.value) h.ty) h.name.value es (children_data k)) (entries_say v t e h.entries i at ∙ ap (λ o. with_value_there o v (map entry_data h.entries)) (sym place))

-- a node in memory
map_twice : {A B C : Type 0} (f : A → B) (g : B → C) (xs : List A) → map (λ x. g (f x)) xs ≡ map g (map f xs)
map_twice f g [] = refl
map_twice f g (x ∷ xs) = ap (λ l. g (f x) ∷ l) (map_twice f g xs)

entry_there : (n : KdlNode) (i : ℕ) (e : KdlEntry) → slice_get (entries_of n) i ≡ Some e → slice_get (tree_entries (node_tree n)) i ≡ Some (entry_tree e)
entry_there n i e h = ap (λ k. slice_get (tree_entries k) i) (node_tree_out n) ∙ slice_get-map entry_tree (entries_of n) i ∙ ap (option_map entry_tree) h

place_there : (tg : Target) (n : KdlNode) (i : ℕ) → place_of_target tg (entries_of n) ≡ Some i → entry_place tg (map entry_data (tree_entries (node_tree n))) ≡ Some i
place_there tg n i h =
    ap (λ k. entry_place tg (map entry_data (tree_entries k))) (node_tree_out n) ∙ ap (entry_place tg) (sym (map_twice entry_tree entry_data (entries_of n))) ∙ sym (target_said tg (entries_of n)) ∙ h

entry_set : (n : KdlNode) (i : ℕ) (e : KdlEntry) → node_tree (with_entry_there (Some i) n e) ≡ with_piece i (entry_tree e) (node_tree n)
entry_set n i e =
    let x = out-KdlNode n in
    node_tree_roll (record x { entries = with_item x.entries i e })
    ∙ ap (λ es. node (record (head_tree x) { entries = es }) (children_of (option_map document_tree x.children))) (map-set entry_tree (entries_of n) i e)
    ∙ sym (ap (with_piece i (entry_tree e)) (node_tree_out n))

-- e is d with another value for the entry of a target in the node n, which is at a path
pub record IsValueDone (p : List ℕ) (tg : Target) (v : Value) (given : Text) (d e : Document) (n : KdlNode) : Type 0 where
  pub reads : DocumentReads e
  pub says : document_data e ≡ edited (setting tg v) p (document_data d)
  pub was : Text
  pub former : (w : Value) → value_in tg (node_says n) ≡ Some w → IsValueText was w
  pub bytes : IsExchangedAt (λ w. edited (setting tg w) p (document_data d)) was given (print_document d 0) (print_document e 0)

node_same : (a b : KdlNode) (o : Option KdlNode) → o ≡ Some a → o ≡ Some b → a ≡ b
node_same a b o h k = cc

value_same : (a b : Value) (o : Option Value) → Some a ≡ o → o ≡ Some b → a ≡ b
value_same a b o h k = cc

pub value_is_read : (e : Entry) → EntryReads e → IsValueText (value_text e e.format) e.value
value_is_read e x = subst (λ (s : Text). IsPlainValue true s [] e.value) (append-nil (value_text e e.format)) (x.value ValueEnd.nothing)

-- the place of the value in what the document prints
record PrintsValueAt (p : List ℕ) (d : Document) (m : Node) (i : ℕ) (e : Entry) : Type 0 where
  pub before : Text
  pub after : Text
  pub own : print_document d 0 ≡ before ++ value_text e e.format ++ after
  pub spelled : (v : Value) (t : Text) → print_document (changed_at p (λ _. with_piece i (with_spelled v t e) m) d) 0 ≡ before ++ t ++ after

value_prints : {P : Rests} (p : List ℕ) (d : Document) (m : Node) (i : ℕ) (e : Entry) → IsAt p d m → NodeReads P m → slice_get (tree_entries m) i ≡ Some e → PrintsValueAt p d m i e
value_prints p d m i e at r there =
    let (depth, outer) = prints_at p d m at in
    let set_to : Entry → Node → Node = λ y _. with_piece i y m in
    let x : IsAround print_piece (λ y. print_document (changed_at p (λ _. with_piece i y m) d) 0) = within (of_each set_to outer) (piece_prints i e m depth r there) in
    let y : PrintsValue e = entry_prints e e.format in
    let seam : (t : Text) → x.before ++ (y.before ++ t ++ y.after) ++ x.after ≡ (x.before ++ y.before) ++ t ++ (y.after ++ x.after) = λ t. simp append_assoc in
    record {
      before = x.before ++ y.before;
      after = y.after ++ x.after;
      own =
          sym (ap (λ (n : Node). print_document (changed_at p (λ _. n) d) 0) (piece_same i e m there) ∙ ap (λ k. print_document k 0) (same_at p d m at))
          ∙ x.prints e ∙ ap (λ (t : Text). x.before ++ t ++ x.after) y.own ∙ seam (value_text e e.format);
      spelled = λ v t. x.prints (with_spelled v t e) ∙ ap (λ (t : Text). x.before ++ t ++ x.after) (y.spelled v t) ∙ seam t;
    }

pub value_done : (p : List ℕ) (tg : Target) (v : Value) (t : Text) (d e : Document) (n k : KdlNode) (i : ℕ) → IsAt p d (node_tree n) → place_of_target tg (entries_of n) ≡ Some i → IsValueText t v → IsValueSet i v t n k → e ≡ changed_at p (λ _. node_tree k) d
    → DocumentReads d → IsValueDone p tg v t d e n
value_done p tg v t d e n k i at place ok s rest r =
    let m = node_tree n in
    let old = entry_tree s.old in
    let entry : slice_get (tree_entries m) i ≡ Some old = entry_there n i s.old s.there in
    let still = reads_at p d m at r in
    let own : EntryReads old = piece_read i old m still.own.there entry in
    let x : PrintsValueAt p d m i old = value_prints p d m i old at still.own.there entry in
    let changed : Text → Value → Document = λ w u. changed_at p (λ _. with_piece i (with_spelled u w old) m) d in
    let reads : (w : Text) (u : Value) → IsValueText w u → DocumentReads (changed w u) = λ w u k. still.changed (λ _. with_piece i (with_spelled u w old) m) (piece_reads i (with_spelled u w old) m (spelled_reads old u w old.format k own)) in
    let says : (w : Text) (u : Value) → document_data (changed w u) ≡ edited (setting tg u) p (document_data d) =
    λ w u. says_at (λ _. with_piece i (with_spelled u w old) m) (node_with_value tg u) (setting tg u) p d m (piece_says tg u w i old m entry (place_there tg n i place)) (λ j y. refl) at in
    let tree : e ≡ changed t v = rest ∙ ap (λ (k : Node). changed_at p (λ _. k) d) (ap node_tree s.rest ∙ entry_set n i s.new ∙ ap (λ (y : Entry). with_piece i y m) s.tree) in
    record {
      reads = subst DocumentReads (sym tree) (reads t v ok);
      says = ap document_data tree ∙ says t v;
      was = value_text old old.format;
      former = λ w k. let same : old.value ≡ w = value_same old.value w _ (value_found tg n i s.old (sym place) s.there) k in subst (λ (u : Value). IsValueText (value_text old old.format) u) same (value_is_read old own);
      bytes = record {
        before = x.before;
        after = x.after;
        place = λ w u k.
            subst (λ (z : Text). IsDocument z (edited (setting tg u) p (document_data d))) (x.spelled u w)
            (subst (λ (y : nodes'.Nodes). IsDocument (print_document (changed w u) 0) y) (says w u) (reads_derived (changed w u) (reads w u k)));
        old = x.own;
        new = ap (λ (y : Document). print_document y 0) tree ∙ x.spelled v t;
      };
    }

-- the same place, with a document that is told otherwise
pub exchanged_as : {f g : Value → nodes'.Nodes} {was given text out : Text} → ((v : Value) → f v ≡ g v) → IsExchangedAt f was given text out → IsExchangedAt g was given text out
exchanged_as e x = record { before = x.before; after = x.after; place = λ w v d. subst (λ (y : nodes'.Nodes). IsDocument (x.before ++ w ++ x.after) y) (e v) (x.place w v d); old = x.old; new = x.new }

-- the change that sets it, made at the end of the steps
pub set_done : (ss : List Step) (t : Target) (is : List ℕ) (d e : KdlDocument) (n : KdlNode) (s : Spelled) (c : Change) → Leads ss is (nodes_of d) None n → SetsValue t s (entries_of n) c → AtNode is (IsMade c) d e → DocumentReadsBack d
    → IsValueText (text_of s.spelling) (value_tree s.value) → IsDoneAt ss t (text_of s.spelling) d e
set_done ss t is d e n s c leads m at r ok =
    let made : AtNode is (IsValueSet m.at (value_tree s.value) (text_of s.spelling)) d e = subst (λ (k : Change). AtNode is (IsMade k) d e) m.change at in
    let there : node_at is (nodes_of d) ≡ Some n = leads_at ss is (nodes_of d) n leads in
    let related = subst (λ (k : KdlNode). IsValueSet m.at (value_tree s.value) (text_of s.spelling) k made.new) (node_same made.old n _ made.there there) made.related in
    let x : IsValueDone is t (value_tree s.value) (text_of s.spelling) (document_tree d) (document_tree e) n =
    value_done is t (value_tree s.value) (text_of s.spelling) (document_tree d) (document_tree e) n made.new m.at (at_tree is d n there) m.place ok related made.rest r in
    record {
      was = x.was;
      former = λ w k. x.former w (sym (ap (option_and_then (value_in t)) (leads_said ss is d n leads)) ∙ k);
      bytes = exchanged_as (λ w. sym (changed_along (node_with_value t w) (setting t w) (λ i y. refl) ss is d n leads)) x.bytes;
    }

pub set_there : (p : Path) (is : List ℕ) (d : KdlDocument) (n : KdlNode) → Leads p.steps.items is (nodes_of d) None n → IsSome (at_path p (document_says d)) → IsSome (value_in p.target (node_says n))
set_there p is d n leads h = subst (λ (o : Option Value). IsSome o) (at_node p is d n leads) h

-- an entry that is given a format
spaced_new : (o : Option EntryFormat) (g : EntryFormat) → None ≡ o → g ≡ record empty_format { leading = 32 ∷ [] } → Some g ≡ Some (spaced_format o)
spaced_new None g h k = ap Some k
spaced_new (Some f) g h k = absurd (none-some f h)

pub format_given : (e : Entry) (g : EntryFormat) → None ≡ e.format → g ≡ record empty_format { leading = 32 ∷ [] } → record e { format = Some g } ≡ with_format e
format_given e g h k = ap (λ (o : Option EntryFormat). record e { format = o }) (spaced_new e.format g h k)

-- the text after a value is set
pub set_ends : (p : Path) (s : Spelled) (given text : Text) (d e : KdlDocument) (out : String Global) (x : nodes'.Nodes) → IsDocument text x → IsSome (at_path p x) → text_of s.spelling ≡ given → IsValueText given (value_tree s.value)
    → ((z : nodes'.Nodes) → IsDocument text z → z ≡ document_says d) → document_prints d ≡ text → DocumentReadsBack d
    → (DocumentReadsBack d → IsValueText (text_of s.spelling) (value_tree s.value) → IsSome (at_path p (document_says d)) → IsDoneAt p.steps.items p.target (text_of s.spelling) d e)
    → string_bytes out ≡ encode_utf8_all (document_prints e) → IsSetAt p given text (text_of out)
set_ends p s given text d e out x y there spelled ok only prints reads set bytes =
    let printed : text_of out ≡ document_prints e = printed_text {E = Unit {0}} (Ok out) (document_prints e) bytes in
    let done = set reads (subst (λ (t : Text). IsValueText t (value_tree s.value)) (sym spelled) ok) (subst (λ (z : nodes'.Nodes). IsSome (at_path p z)) (only x y) there) in
    let exchanged : IsExchangedAt (λ v. with_value p v (document_says d)) done.was given text (text_of out) =
    subst (λ (a : Text). IsExchangedAt (λ v. with_value p v (document_says d)) done.was given a (text_of out)) prints
    (subst (λ (a : Text). IsExchangedAt (λ v. with_value p v (document_says d)) done.was given (document_prints d) a) (sym printed)
    (subst (λ (a : Text). IsExchangedAt (λ v. with_value p v (document_says d)) done.was a (document_prints d) (document_prints e)) spelled done.bytes)) in
    record {
      value = value_tree s.value;
      reads = ok;
      was = done.was;
      former = λ z k v h. done.former v (ap (at_path p) (sym (only z k)) ∙ h);
      bytes = λ z k. exchanged_as (λ v. ap (with_value p v) (sym (only z k))) exchanged;
    }
