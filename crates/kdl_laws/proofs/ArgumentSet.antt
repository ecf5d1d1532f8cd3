-- What a document says, and prints, once an argument has another value.
use Rattle.kdl_laws.proofs.Common.{◌≡◌, ℕ, suc, ◌+◌, Bool, true, false, length, List, [], ◌∷◌, ◌++◌, map, cond, Option, Some, None, option_map, string_bytes, IsUtf8, chars, refl, ap, ◌∙◌, sym, subst, arith, append_assoc, none-some, find, if◌then◌else◌, Text, Value, IsWellFormed, print_key, print_type, Entry, entry_data, entry_tree, identifier_tree, KdlEntry, print_piece, children_data, children_of, document_data, node_data, nodes_data, is_argument, same_text, there, Index, is_node_named, node_named, nodes_of, with_node_named, held_entries, entries_of, DocumentReadsBack, EntryReadsBack, document_prints, document_says, document_tree, node_says, nodes_tree, KdlDocument, out-KdlDocument, out-KdlNode, out-roll-KdlDocument, KdlNode, entry_says, same_chars, document_tree_out, node_of, node_tree_out, node_tree_roll}
use Rattle.std.proofs.Common.{not, nat_lt, set, append-nil}
use Rattle.std.proofs.lemmas.Str.{IsUtf8-string_bytes}
use Rattle.std.specs.List.{position_or_len}
use Rattle.std.specs.Vec.{with_item}
use Rattle.kdl_value.specs.Print.{print_value}
use Rattle.kdl_entry.specs.Data as data'
use Rattle.kdl_grammar.specs.Data as nodes'
use Rattle.kdl_parts.specs.EntryLists.{nth_place, nth_step}
use Rattle.kdl_parts.specs.Written.{set_entry_there}
use Rattle.kdl.specs.Bytes.{IsExchanged, IsExchangedInNode}
use Rattle.kdl.specs.DocumentLookups.{node_place, with_node_there}
use Rattle.kdl.specs.Lookups.{found_entry, key_place, with_found_entry}
use Rattle.kdl.specs.ReadsBack.{respelled}
use Rattle.kdl.specs.Said.{has_no_key, is_called}
use Rattle.kdl.proofs.Finding.DocumentLookups.{none_there}
use Rattle.kdl.proofs.Finding.SaidLookups.{has_said_none, map_twice, name_said}
use Rattle.kdl.proofs.PiecesExchanged.{loan_exchanges, named_exchanges}
use Rattle.kdl.proofs.ReadingBack.{entry_there_reads, named_reads, other_value_reads}
use Rattle.kdl_laws.proofs.NodesHaveFormats.{named_formed}
use Rattle.kdl_laws.specs.ArgumentSet.{HasInstead, node_with_argument, with_first_argument, with_said_arg}

-- an entry at a place that was found, exchanged
abbrev set_at : Option ℕ → List KdlEntry → KdlEntry → List KdlEntry
set_at None es f = es
set_at (Some i) es f = set es i f

shifted : (o : Option ℕ) (x e f : KdlEntry) (xs : List KdlEntry) (r : List data'.Entry) → there (option_map suc o) (x ∷ xs) ≡ Some e → (there o xs ≡ Some e → map entry_says (set_at o xs f) ≡ r)
    → map entry_says (set_at (option_map suc o) (x ∷ xs) f) ≡ entry_says x ∷ r
shifted None x e f xs r h k = absurd (none-some _ h)
shifted (Some i) x e f xs r h k = ap (λ l. entry_says x ∷ l) (k h)

-- the first argument of entries has the value v
entries_say : (v : Value) (e f : KdlEntry) → entry_says f ≡ record (entry_says e) { value = v } → (es : List KdlEntry) → there (nth_place is_argument es 0) es ≡ Some e
    → map entry_says (set_at (nth_place is_argument es 0) es f) ≡ with_first_argument v (map entry_says es)
entries_say v e f h [] k = absurd (none-some _ k)
entries_say v e f h (x ∷ xs) k = go (is_argument x) (has_no_key (entry_says x)) (has_said_none x) k (entries_say v e f h xs)
  where
    rest : List data'.Entry
    rest = map entry_says xs

    go : (b c : Bool) → b ≡ c → there (nth_step b 0 (nth_place is_argument xs)) (x ∷ xs) ≡ Some e → (there (nth_place is_argument xs 0) xs ≡ Some e → map entry_says (set_at (nth_place is_argument xs 0) xs f) ≡ with_first_argument v rest)
        → map entry_says (set_at (nth_step b 0 (nth_place is_argument xs)) (x ∷ xs) f) ≡ (if c then record (entry_says x) { value = v } ∷ rest else entry_says x ∷ with_first_argument v rest)
    go true true q k ih = let same : e ≡ x = cc in ap (λ y. y ∷ rest) (h ∙ ap (λ (y : KdlEntry). record (entry_says y) { value = v }) same)
    go true false q k ih = cc
    go false true q k ih = cc
    go false false q k ih = shifted (nth_place is_argument xs 0) x e f xs (with_first_argument v rest) k ih

-- so the first argument of a node
node_says_fields : (n : KdlNode) → node_says n ≡ node_data (node_of (out-KdlNode n))
node_says_fields n = ap node_data (node_tree_out n)

items_set : (o : Option ℕ) (n : KdlNode) (f : KdlEntry) → (set_entry_there o (held_entries n) f).items ≡ set_at o (entries_of n) f
items_set None n f = refl
items_set (Some i) n f = refl

node_set : (v : Value) (n : KdlNode) (e f : KdlEntry) → entry_says f ≡ record (entry_says e) { value = v } → found_entry (Index 0) n ≡ Some e → node_says (with_found_entry (Index 0) n f) ≡ node_with_argument v (node_says n)
node_set v n e f h k =
    let x = out-KdlNode n in
    let w = set_entry_there (key_place (Index 0) n) (held_entries n) f in
    let with = λ (l : List data'.Entry). nodes'.node (option_map (λ i. i.value) (option_map identifier_tree x.ty)) (identifier_tree x.name).value l (children_data (children_of (option_map document_tree x.children))) in
    ap node_data (node_tree_roll (record x { entries = w }))
    ∙ ap with (sym (map_twice entry_tree entry_data w.items) ∙ ap (map entry_says) (items_set (key_place (Index 0) n) n f) ∙ entries_say v e f h (entries_of n) k ∙ ap (with_first_argument v) (map_twice entry_tree entry_data (entries_of n)))
    ∙ sym (ap (node_with_argument v) (node_says_fields n))

-- so the first node of a name
abbrev says : List KdlNode → nodes'.Nodes
says ns = nodes_data (nodes_tree ns)

named_as_called : (s : List ℕ) → IsUtf8 s → (n : KdlNode) → is_node_named s n ≡ is_called (chars s) (node_says n)
named_as_called s u n = (same_chars s u).same (string_bytes (out-KdlNode n).name.value) (IsUtf8-string_bytes (out-KdlNode n).name.value) ∙ ap (λ t. same_text t (chars s)) (name_said n)

nodes_say : (s : List ℕ) → IsUtf8 s → (v : Value) (n m : KdlNode) → node_says m ≡ node_with_argument v (node_says n) → (ns : List KdlNode) → find (is_node_named s) ns ≡ Some n
    → says (set ns (position_or_len (is_node_named s) ns) m) ≡ with_said_arg (chars s) v (says ns)
nodes_say s u v n m h [] k = absurd (none-some _ k)
nodes_say s u v n m h (z ∷ zs) k = go (is_node_named s z) (is_called (chars s) (node_says z)) (named_as_called s u z) k (nodes_say s u v n m h zs)
  where
    go : (b c : Bool) → b ≡ c → cond b (Some z) (find (is_node_named s) zs) ≡ Some n → (find (is_node_named s) zs ≡ Some n → says (set zs (position_or_len (is_node_named s) zs) m) ≡ with_said_arg (chars s) v (says zs))
        → says (set (z ∷ zs) (cond (not b) (1 + position_or_len (is_node_named s) zs) 0) m) ≡ (if c then nodes'.first (node_with_argument v (node_says z)) (says zs) else nodes'.first (node_says z) (with_said_arg (chars s) v (says zs)))
    go true true q k ih = let same : n ≡ z = cc in ap (λ y. nodes'.first y (says zs)) (h ∙ ap (λ y. node_with_argument v (node_says y)) same)
    go true false q k ih = cc
    go false true q k ih = cc
    go false false q k ih =
        let one : 1 + position_or_len (is_node_named s) zs ≡ suc (position_or_len (is_node_named s) zs) = omega arith in
        ap (λ i. says (set (z ∷ zs) i m)) one ∙ ap (nodes'.first (node_says z)) (ih k)

nodes_with : (s : List ℕ) (d : KdlDocument) (x n : KdlNode) → Some x ≡ node_named s d → nodes_of (with_node_named s d n) ≡ set (nodes_of d) (position_or_len (is_node_named s) (nodes_of d)) n
nodes_with s d x n h = go (node_place s d) refl
  where
    at : (b : Bool) (k i : ℕ) → cond b (Some k) None ≡ Some i → i ≡ k
    at true k i e = cc
    at false k i e = absurd (none-some _ e)

    go : (o : Option ℕ) → node_place s d ≡ o → nodes_of (with_node_there o d n) ≡ set (nodes_of d) (position_or_len (is_node_named s) (nodes_of d)) n
    go None e = absurd (none-some x (sym (none_there (is_node_named s) (nodes_of d) (sym e)) ∙ sym h))
    go (Some i) e =
        ap (λ x. x.nodes.items) (out-roll-KdlDocument (record (out-KdlDocument d) { nodes = with_item (out-KdlDocument d).nodes i n }))
        ∙ ap (λ k. set (nodes_of d) k n) (at (nat_lt (position_or_len (is_node_named s) (nodes_of d)) (length (nodes_of d))) (position_or_len (is_node_named s) (nodes_of d)) i e)

document_fields : (d : KdlDocument) → document_says d ≡ says (nodes_of d)
document_fields d = ap document_data (document_tree_out d)

-- an entry with another value, so spelled, says so
value_says : (v : Value) (e f : KdlEntry) → entry_tree f ≡ respelled v (entry_tree e) → entry_says f ≡ record (entry_says e) { value = v }
value_says v e f h = ap entry_data h

pub argument_set_says : (s : List ℕ) (v : Value) (d : KdlDocument) (n : KdlNode) (e f : KdlEntry) → IsUtf8 s → Some n ≡ node_named s d → Some e ≡ found_entry (Index 0) n → entry_tree f ≡ respelled v (entry_tree e)
    → document_says (with_node_named s d (with_found_entry (Index 0) n f)) ≡ with_said_arg (chars s) v (document_says d)
argument_set_says s v d n e f u h k t =
    let m = with_found_entry (Index 0) n f in
    document_fields (with_node_named s d m)
    ∙ ap says (nodes_with s d n m h)
    ∙ nodes_say s u v n m (node_set v n e f (value_says v e f t) (sym k)) (nodes_of d) (sym h)
    ∙ sym (ap (with_said_arg (chars s) v) (document_fields d))

-- the document reads back where it did
pub argument_set_reads : (s : List ℕ) (v : Value) (d : KdlDocument) (n : KdlNode) (e f : KdlEntry) → IsWellFormed v → DocumentReadsBack d → Some n ≡ node_named s d → Some e ≡ found_entry (Index 0) n
    → entry_tree f ≡ respelled v (entry_tree e) → DocumentReadsBack (with_node_named s d (with_found_entry (Index 0) n f))
argument_set_reads s v d n e f w r h k t =
    (named_reads s d n (with_found_entry (Index 0) n f) h (entry_there_reads (key_place (Index 0) n) n e f (sym k) (λ (x : EntryReadsBack e). other_value_reads e f v x w t))).0 r

-- the value is a piece of what the entry prints
inner : (a p q z old new : Text) → IsExchanged (a ++ p ++ z) (a ++ q ++ z) old new → HasInstead q old new
inner a p q z old new x = record { was = p; exchanged = record { before = x.before ++ a; after = z ++ x.after; was = x.was ∙ seam p; is = x.is ∙ seam q } }
  where
    seam : (t : Text) → x.before ++ (a ++ t ++ z) ++ x.after ≡ (x.before ++ a) ++ t ++ (z ++ x.after)
    seam t = simp append_assoc

value_exchanged : (v : Value) (e : Entry) (old new : Text) → IsExchanged (print_piece e) (print_piece (respelled v e)) old new → HasInstead (print_value v) old new
value_exchanged v e old new =
    elim e.format as (λ o. IsExchanged (print_piece (record e { format = o })) (print_piece (respelled v (record e { format = o }))) old new → HasInstead (print_value v) old new) [
      | None ↦ λ x. (let a : Text = 32 ∷ (print_key e.name [] [] ++ print_type e.ty [] []) in
          inner a (print_value e.value) (print_value v) [] old new
          (subst (λ (t : Text). IsExchanged t (a ++ print_value v ++ []) old new) (sym (append-nil (a ++ print_value e.value)))
          (subst (λ (t : Text). IsExchanged (a ++ print_value e.value) t old new) (sym (append-nil (a ++ print_value v))) x)))
      | Some f ↦ λ x. inner _ f.value_repr (print_value v) f.trailing old new x
    ]

pub argument_set_prints : (s : List ℕ) (v : Value) (d : KdlDocument) (n : KdlNode) (e f : KdlEntry) → DocumentReadsBack d → Some n ≡ node_named s d → Some e ≡ found_entry (Index 0) n → entry_tree f ≡ respelled v (entry_tree e)
    → HasInstead (print_value v) (document_prints d) (document_prints (with_node_named s d (with_found_entry (Index 0) n f)))
argument_set_prints s v d n e f r h k t =
    let m = with_found_entry (Index 0) n f in
    let x : IsExchangedInNode (print_piece (entry_tree e)) (print_piece (entry_tree f)) n m = loan_exchanges (λ (y : KdlEntry). y) (Index 0) n (Some e) k f (named_formed s d n r h) in
    let y = (named_exchanges s d n h m (print_piece (entry_tree e)) (print_piece (entry_tree f)) x).prints 0 in
    value_exchanged v (entry_tree e) _ _ (subst (λ (z : Entry). IsExchanged (print_piece (entry_tree e)) (print_piece z) (document_prints d) (document_prints (with_node_named s d m))) t y)
