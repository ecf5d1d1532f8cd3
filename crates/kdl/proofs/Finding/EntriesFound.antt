-- What a node's look-ups find once an entry is inserted, pushed, removed or written.
use Rattle.kdl.proofs.Common.{if◌then◌else◌, is_ok, Vec, Global, ◌≡◌, ℕ, suc, ◌+◌, ◌<◌, ◌≤◌, Bool, true, false, List, [], ◌∷◌, ◌++◌, length, take, drop, slice_get, string_bytes, Option, None, Some, IfSome, IfNone, Result, Ok, Err, OnOk, option_map, unwrap_or, refl, ap, ◌∙◌, sym, subst, arith, cond, add-one, is_none, position, set, IsSome, length-filter, none-some, bytes_eq-Decides, IsUtf8-string_bytes, encodes-chars, filter, last_or, chars, IsUtf8, Value, value_tree, Identifier, Entry, entry_tree, identifier_tree, KdlEntry, KdlIdentifier, IsInserted, put_before, put_for, under, removed, without, sought, is_argument, has_name, is_name, same_text, last_place, nth_place, there, NodeKey, Key, Index, same_bytes, set_value_is, with_entries, with_value, IsSet, IsArgumentSet, entries_of, property_value, found_entry, held_value, key_place, property_place, with_entry_there, with_found_entry, with_found_value, out-KdlNode, out-roll-KdlNode, KdlNode, with_item, KdlValue, set_value_at}
use Rattle.std.proofs.Common.{encode_utf8_all}
use Rattle.kdl_entry.specs.Tree.{plain_identifier}
use Rattle.kdl_parts.specs.Edits.{GoesUnder, HasArgumentAt, HasRoomAt}
use Rattle.kdl_parts.specs.EntryLists.{property, key_name, key_index}
use Rattle.kdl.specs.Found.{IsAdded, IsPutIn, IsTakenOut, IsTakenOutAt, argument_count, value_at}
use Rattle.kdl.specs.Lookups.{with_value_there, HasWritten}
use Rattle.kdl.proofs.Finding.ListLookups.{LastIs, NthIs, Splice, around_itself, back, first_is, got_before, got_else, got_later, got_new, last_found, last_is, last_new, nth_found, nth_is, one_passes, rest_of_first, same_length, same_passing, splice_cut, splice_put, splice_push, spliced, LastAt, NthAt, splice_set}

-- the value of an entry that was found
abbrev pub value_in : Option KdlEntry → Option Value
value_in o = option_map (λ e. value_tree e.value) o

-- an entry of that name
name_is : (s : List ℕ) (e : KdlEntry) (i : KdlIdentifier) → e.name ≡ Some i → string_bytes i.value ≡ s → has_name s e ≡ true
name_is s e i h k = ap (is_name s) h ∙ (bytes_eq-Decides (string_bytes i.value) s).1 k

-- has no other name, and is no argument
pub differ : (s r b : List ℕ) (t : Bool) → (s ≡ r → ⊥) → same_text b r ≡ t → b ≡ s → t ≡ false
differ s r b true d k q = absurd (d (sym q ∙ (bytes_eq-Decides b r).0 k))
differ s r b false d k q = refl

other_name : (s r : List ℕ) → (s ≡ r → ⊥) → (e : KdlEntry) → has_name s e ≡ true → has_name r e ≡ false
other_name s r d e h = go e.name h
  where
    go : (o : Option KdlIdentifier) → is_name s o ≡ true → is_name r o ≡ false
    go None k = refl
    go (Some i) k = differ s r (string_bytes i.value) (same_text (string_bytes i.value) r) d refl ((bytes_eq-Decides (string_bytes i.value) s).0 k)

no_argument : (s : List ℕ) (e : KdlEntry) → has_name s e ≡ true → is_argument e ≡ false
no_argument s e h = go e.name h
  where
    go : (o : Option KdlIdentifier) → is_name s o ≡ true → is_none o ≡ false
    go None k = cc
    go (Some i) k = refl

no_name : (s : List ℕ) (e : KdlEntry) → is_argument e ≡ true → has_name s e ≡ false
no_name s e h = go e.name h
  where
    go : (o : Option KdlIdentifier) → is_none o ≡ true → is_name s o ≡ false
    go None k = refl
    go (Some i) k = cc

-- an entry as it goes in under a name has that name
named_under : (k : KdlIdentifier) (e f : KdlEntry) → GoesUnder (property (identifier_tree k)) (entry_tree e) → entry_tree f ≡ under (property (identifier_tree k)) (entry_tree e) → has_name (string_bytes k.value) f ≡ true
named_under k e f g t = go f.name refl (ap (λ (x : Entry). x.name) t) (taken (entry_tree e).name g)
  where
    taken : (o : Option Identifier) → IfSome o (λ i. i.value ≡ (identifier_tree k).value) → (unwrap_or o (identifier_tree k)).value ≡ (identifier_tree k).value
    taken None h = refl
    taken (Some i) h = h

    go : (o : Option KdlIdentifier) → f.name ≡ o → option_map identifier_tree o ≡ Some (unwrap_or (entry_tree e).name (identifier_tree k)) → (unwrap_or (entry_tree e).name (identifier_tree k)).value ≡ (identifier_tree k).value → has_name (string_bytes k.value) f ≡ true
    go None h q w = absurd (none-some _ q)
    go (Some i) h q w =
        let same : identifier_tree i ≡ unwrap_or (entry_tree e).name (identifier_tree k) = cc in
        let texts : chars (string_bytes i.value) ≡ chars (string_bytes k.value) = ap (λ (x : Identifier). x.value) same ∙ w in
        name_is (string_bytes k.value) f i h (same_bytes (string_bytes i.value) (string_bytes k.value) (IsUtf8-string_bytes i.value) (IsUtf8-string_bytes k.value) texts)

-- the arguments of a node, and its properties of that name
abbrev args : KdlNode → List KdlEntry
args n = filter is_argument (entries_of n)

abbrev named : List ℕ → KdlNode → List KdlEntry
named s n = filter (has_name s) (entries_of n)

value_at_is : (i : ℕ) (n : KdlNode) → value_at i n ≡ value_in (slice_get (args n) i)
value_at_is i n = ap value_in (nth_found is_argument (entries_of n) i)

property_is : (s : List ℕ) (n : KdlNode) → property_value s n ≡ value_in (last_or None (named s n))
property_is s n = ap value_in (last_found (has_name s) (entries_of n))

count_is : (n : KdlNode) → length (args n) ≡ argument_count n
count_is n = length-filter is_argument (entries_of n)

value_same : (i j : ℕ) (n m : KdlNode) → slice_get (args m) i ≡ slice_get (args n) j → value_at i m ≡ value_at j n
value_same i j n m e = value_at_is i m ∙ ap value_in e ∙ sym (value_at_is j n)

value_found : (i : ℕ) (e : KdlEntry) (m : KdlNode) → slice_get (args m) i ≡ Some e → value_at i m ≡ Some (value_tree e.value)
value_found i e m h = value_at_is i m ∙ ap value_in h

property_same : (s : List ℕ) (n m : KdlNode) → last_or None (named s m) ≡ last_or None (named s n) → property_value s m ≡ property_value s n
property_same s n m e = property_is s m ∙ ap value_in e ∙ sym (property_is s n)

count_same : (n m : KdlNode) → args m ≡ args n → argument_count m ≡ argument_count n
count_same n m e = sym (count_is m) ∙ ap length e ∙ count_is n

-- m is n with the entries `new` in place of `old`, which all pass the test
pub record Edited (p : KdlEntry → Bool) (old new : List KdlEntry) (n m : KdlNode) : Type 0 where
  pub splice : Splice old new (entries_of n) (entries_of m)
  pub olds : filter p old ≡ old
  pub news : filter p new ≡ new

none_pass : (p q : KdlEntry → Bool) → ((x : KdlEntry) → p x ≡ true → q x ≡ false) → (es : List KdlEntry) → filter p es ≡ es → filter q es ≡ []
none_pass p q d es e = ap (filter q) (sym e) ∙ go es
  where
    go : (es : List KdlEntry) → filter q (filter p es) ≡ []
    go [] = refl
    go (x ∷ es) = at (p x) refl (go es)
      where
        at : (b : Bool) → p x ≡ b → filter q (filter p es) ≡ [] → filter q (cond b (x ∷ filter p es) (filter p es)) ≡ []
        at true e h = ap (λ (b : Bool). cond b (x ∷ filter q (filter p es)) (filter q (filter p es))) (d x e) ∙ h
        at false e h = h

module _ (p : KdlEntry → Bool) (old new : List KdlEntry) (n m : KdlNode) (x : Edited p old new n m) where
  -- what passes another test only is what it was
  others_same : (q : KdlEntry → Bool) → ((x : KdlEntry) → p x ≡ true → q x ≡ false) → filter q (entries_of m) ≡ filter q (entries_of n)
  others_same q d = same_passing q old new (entries_of n) (entries_of m) x.splice (none_pass p q d new x.news ∙ sym (none_pass p q d old x.olds))

  -- what passes has the new entries in place of the old ones
  abbrev own : Splice old new (filter p (entries_of n)) (filter p (entries_of m))
  own =
      let s = spliced p old new (entries_of n) (entries_of m) x.splice in
      record { before = s.before; after = s.after; was = s.was ∙ ap (λ l. s.before ++ (l ++ s.after)) x.olds; is = s.is ∙ ap (λ l. s.before ++ (l ++ s.after)) x.news }

-- an entry of that name in place of the last one, or after all others
pub property_set : (s : List ℕ) (e : KdlEntry) (old : List KdlEntry) (n m : KdlNode) (x : Edited (has_name s) old (e ∷ []) n m) → filter (has_name s) x.splice.after ≡ [] → IsSet s (value_tree e.value) n m
property_set s e old n m x last =
    let same : args m ≡ args n = others_same (has_name s) old (e ∷ []) n m x is_argument (no_argument s) in
    record {
      found = property_is s m ∙ ap value_in (last_new old (named s n) (named s m) e (own (has_name s) old (e ∷ []) n m x) last);
      others = λ r d. property_same r n m (ap (last_or None) (others_same (has_name s) old (e ∷ []) n m x (has_name r) (other_name s r d)));
      arguments = λ i. value_same i i n m (ap (λ l. slice_get l i) same);
      count = count_same n m same;
    }

pub pushed_set : (s : List ℕ) (e : KdlEntry) (n m : KdlNode) → has_name s e ≡ true → entries_of m ≡ entries_of n ++ (e ∷ []) → IsSet s (value_tree e.value) n m
pushed_set s e n m has d = property_set s e [] n m (record { splice = splice_push (entries_of n) (entries_of m) e d; olds = refl; news = one_passes (has_name s) e true has }) refl

put_set : (s : List ℕ) (e : KdlEntry) (n m : KdlNode) → has_name s e ≡ true → entries_of m ≡ put_for (last_place (has_name s) (entries_of n)) e (entries_of n) → IsSet s (value_tree e.value) n m
put_set s e n m has = go (last_place (has_name s) (entries_of n)) (last_is (has_name s) (entries_of n))
  where
    go : (o : Option ℕ) → LastIs (has_name s) (entries_of n) o → entries_of m ≡ put_for o e (entries_of n) → IsSet s (value_tree e.value) n m
    go None h d = pushed_set s e n m has d
    go (Some i) h d =
        let es = entries_of n in
        let splice : Splice (h.it ∷ []) (e ∷ []) es (entries_of m) = record { before = take i es; after = drop (suc i) es; was = around_itself es i h.it h.here; is = d ∙ ap (λ l. take i es ++ (e ∷ drop l es)) (add-one i) } in
        property_set s e (h.it ∷ []) n m (record { splice = splice; olds = one_passes (has_name s) h.it true h.passes; news = one_passes (has_name s) e true has }) h.after

inserted_set : (k : KdlIdentifier) (e : KdlEntry) (n m : KdlNode) → GoesUnder (property (identifier_tree k)) (entry_tree e) → IsInserted (Key k) e (entries_of n) (entries_of m) → IsSet (string_bytes k.value) (entry_tree e).value n m
inserted_set k e n m g d = subst (λ (x : Entry). IsSet (string_bytes k.value) x.value n m) d.tree (put_set (string_bytes k.value) d.entry n m (named_under k e d.entry g d.tree) d.items)

-- the arguments, where those from i on are others
module _ (i : ℕ) (old new : List KdlEntry) (n m : KdlNode) (x : Edited is_argument old new n m) (at : length (filter is_argument x.splice.before) ≡ i) where
  properties_same : (s : List ℕ) → property_value s m ≡ property_value s n
  properties_same s = property_same s n m (ap (last_or None) (others_same is_argument old new n m x (has_name s) (no_name s)))

  before_same : (j : ℕ) → j < i → value_at j m ≡ value_at j n
  before_same j h = value_same j j n m (got_before i j old new (args n) (args m) (own is_argument old new n m x) at h)

  counts : argument_count m + length old ≡ argument_count n + length new
  counts = omega (arith, count_is n, count_is m, same_length old new (args n) (args m) (own is_argument old new n m x))

pub argument_set : (i : ℕ) (e f : KdlEntry) (n m : KdlNode) (x : Edited is_argument (e ∷ []) (f ∷ []) n m) → length (filter is_argument x.splice.before) ≡ i → IsArgumentSet i (value_tree f.value) n m
argument_set i e f n m x at =
    let s = own is_argument (e ∷ []) (f ∷ []) n m x in
    record {
      found = value_found i f m (got_new i (e ∷ []) [] (args n) (args m) f s at);
      others = λ j d. value_same j j n m (got_else i j (args n) (args m) e f s at d);
      properties = properties_same i (e ∷ []) (f ∷ []) n m x at;
      count = omega (arith, counts i (e ∷ []) (f ∷ []) n m x at);
    }

argument_put : (i : ℕ) (e : KdlEntry) (n m : KdlNode) (x : Edited is_argument [] (e ∷ []) n m) → length (filter is_argument x.splice.before) ≡ i → IsPutIn i (value_tree e.value) n m
argument_put i e n m x at =
    let s = own is_argument [] (e ∷ []) n m x in
    record {
      found = value_found i e m (got_new i [] [] (args n) (args m) e s at);
      before = before_same i [] (e ∷ []) n m x at;
      later = λ j h. ap (λ k. value_at k m) (add-one j) ∙ value_same (suc j) j n m (got_later i j (args n) (args m) e s at h);
      properties = properties_same i [] (e ∷ []) n m x at;
      count = omega (arith, counts i [] (e ∷ []) n m x at);
    }

argument_taken : (i : ℕ) (e : KdlEntry) (n m : KdlNode) (x : Edited is_argument (e ∷ []) [] n m) → length (filter is_argument x.splice.before) ≡ i → IsTakenOutAt i n m
argument_taken i e n m x at = record {
  before = before_same i (e ∷ []) [] n m x at;
  later = λ j h. value_same j (suc j) n m (sym (got_later i j (args m) (args n) e (back (own is_argument (e ∷ []) [] n m x)) at h)) ∙ ap (λ k. value_at k n) (sym (add-one j));
  properties = properties_same i (e ∷ []) [] n m x at;
  count = omega (arith, counts i (e ∷ []) [] n m x at);
}

argument_tree : (e : KdlEntry) → (entry_tree e).name ≡ None → is_argument e ≡ true
argument_tree e h = go e.name h
  where
    go : (o : Option KdlIdentifier) → option_map identifier_tree o ≡ None → is_none o ≡ true
    go None k = refl
    go (Some i) k = absurd (none-some _ (sym k))

-- what was pushed without a name is after all arguments
pushed_last : (e : KdlEntry) (n m : KdlNode) → is_argument e ≡ true → entries_of m ≡ entries_of n ++ (e ∷ []) → IsPutIn (argument_count n) (value_tree e.value) n m
pushed_last e n m is d = argument_put (argument_count n) e n m (record { splice = splice_push (entries_of n) (entries_of m) e d; olds = refl; news = one_passes is_argument e true is }) (count_is n)

argument_added : (e : KdlEntry) (n m : KdlNode) → (entry_tree e).name ≡ None → entries_of m ≡ entries_of n ++ (e ∷ []) → IsAdded (value_tree e.value) n m
argument_added e n m h d = let p = pushed_last e n m (argument_tree e h) d in record { found = p.found; before = p.before; properties = p.properties; count = p.count }

-- what was put in before an argument
argument_inserted : (i : ℕ) (e : KdlEntry) (n m : KdlNode) → (entry_tree e).name ≡ None → i ≤ argument_count n → entries_of m ≡ put_before (nth_place is_argument (entries_of n) i) e (entries_of n) → IsPutIn i (value_tree e.value) n m
argument_inserted i e n m h k d = go (nth_place is_argument (entries_of n) i) (nth_is is_argument (entries_of n) i) d
  where
    go : (o : Option ℕ) → NthIs is_argument (entries_of n) i o → entries_of m ≡ put_before o e (entries_of n) → IsPutIn i (value_tree e.value) n m
    go None l q =
        let last : argument_count n ≡ i = omega (arith, count_is n) in
        subst (λ (j : ℕ). IsPutIn j (value_tree e.value) n m) last (pushed_last e n m (argument_tree e h) q)
    go (Some j) l q = argument_put i e n m (record { splice = splice_put (entries_of n) (entries_of m) j e q; olds = refl; news = one_passes is_argument e true (argument_tree e h) }) l.before

-- what was taken out of the arguments
argument_removed : (i : ℕ) (n m : KdlNode) → i < argument_count n → entries_of m ≡ removed (Index i) (entries_of n) → IsTakenOutAt i n m
argument_removed i n m k d = go (nth_place is_argument (entries_of n) i) (nth_is is_argument (entries_of n) i) d
  where
    go : (o : Option ℕ) → NthIs is_argument (entries_of n) i o → entries_of m ≡ without o (entries_of n) → IsTakenOutAt i n m
    go None l q = absurd (omega (arith, count_is n))
    go (Some j) l q = argument_taken i l.it n m (record { splice = splice_cut (entries_of n) (entries_of m) j l.it l.here q; olds = one_passes is_argument l.it true l.passes; news = refl }) l.before

-- what was taken out under a name
first_taken : (b : List KdlEntry) (x : KdlEntry) (g : List KdlEntry) → length b ≡ 0 → b ++ g ≡ drop 1 (b ++ (x ∷ g))
first_taken [] x g h = refl
first_taken (y ∷ b) x g h = absurd (omega arith)

nothing_taken : (l : List KdlEntry) → length l ≤ 0 → l ≡ drop 1 l
nothing_taken [] h = refl
nothing_taken (x ∷ l) h = absurd (omega arith)

taken_out_set : (s : List ℕ) (n m : KdlNode) → entries_of m ≡ without (position (has_name s) (entries_of n)) (entries_of n) → IsTakenOut s n m
taken_out_set s n m d = go (nth_place p es 0) (nth_is p es 0) (d ∙ ap (λ o. without o es) (first_is p es))
  where
    es : List KdlEntry
    es = entries_of n

    p : KdlEntry → Bool
    p = has_name s

    taken : named s m ≡ drop 1 (named s n) → ((q : KdlEntry → Bool) → ((x : KdlEntry) → p x ≡ true → q x ≡ false) → filter q (entries_of m) ≡ filter q es) → IsTakenOut s n m
    taken own other =
        let same : args m ≡ args n = other is_argument (no_argument s) in
        let (missing, later) = rest_of_first (named s n) in
        record {
          missing = λ h. property_is s m ∙ ap value_in (ap (last_or None) own ∙ missing (omega (arith, length-filter p es)));
          later = λ h. property_same s n m (ap (last_or None) own ∙ later (omega (arith, length-filter p es)));
          others = λ r h. property_same r n m (ap (last_or None) (other (has_name r) (other_name s r h)));
          arguments = λ i. value_same i i n m (ap (λ l. slice_get l i) same);
          count = count_same n m same;
        }

    go : (o : Option ℕ) → NthIs p es 0 o → entries_of m ≡ without o es → IsTakenOut s n m
    go None l q = taken (ap (filter p) q ∙ nothing_taken (filter p es) l) (λ r h. ap (filter r) q)
    go (Some i) l q =
        let x : Edited p (l.it ∷ []) [] n m = record { splice = splice_cut es (entries_of m) i l.it l.here q; olds = one_passes p l.it true l.passes; news = refl } in
        let t = own p (l.it ∷ []) [] n m x in
        taken (t.is ∙ first_taken t.before l.it t.after l.before ∙ ap (drop 1) (sym t.was)) (others_same p (l.it ∷ []) [] n m x)

-- the entries of a node with other ones
pub entries_with : (n : KdlNode) (v : Vec KdlEntry Global) → entries_of (with_entries n v) ≡ v.items
entries_with n v = ap (λ x. x.entries.items) (out-roll-KdlNode (record (out-KdlNode n) { entries = v }))

inserted_with : (key : NodeKey) (e : KdlEntry) (n : KdlNode) (v : Vec KdlEntry Global) → IsInserted key e (entries_of n) v.items → IsInserted key e (entries_of n) (entries_of (with_entries n v))
inserted_with key e n v d = record { entry = d.entry; tree = d.tree; items = entries_with n v ∙ d.items }

-- what a successful push leaves, of an argument and of a property
pub push_adds : {T E : Type 0} (r : Result T E) (e : KdlEntry) (n : KdlNode) (v : Vec KdlEntry Global) → v.items ≡ (if is_ok r then entries_of n ++ (e ∷ []) else entries_of n)
    → OnOk r (IfNone (entry_tree e).name (IsAdded (entry_tree e).value n (with_entries n v)))
push_adds (Err a) e n v d = tt
push_adds (Ok a) e n v d = go (entry_tree e).name refl
  where
    go : (o : Option Identifier) → (entry_tree e).name ≡ o → IfNone o (IsAdded (entry_tree e).value n (with_entries n v))
    go None h = argument_added e n (with_entries n v) h (entries_with n v ∙ d)
    go (Some i) h = tt

pub push_sets : {T E : Type 0} (r : Result T E) (e : KdlEntry) (n : KdlNode) (v : Vec KdlEntry Global) → v.items ≡ (if is_ok r then entries_of n ++ (e ∷ []) else entries_of n)
    → OnOk r (IfSome (entry_tree e).name (λ i. IsSet (encode_utf8_all i.value) (entry_tree e).value n (with_entries n v)))
push_sets (Err a) e n v d = tt
push_sets (Ok a) e n v d = go e.name refl
  where
    go : (o : Option KdlIdentifier) → e.name ≡ o → IfSome (option_map identifier_tree o) (λ i. IsSet (encode_utf8_all i.value) (entry_tree e).value n (with_entries n v))
    go None h = tt
    go (Some i) h = pushed_set (encode_utf8_all (identifier_tree i).value) e n (with_entries n v) (name_is _ e i h (sym (encodes-chars (string_bytes i.value) (IsUtf8-string_bytes i.value)))) (entries_with n v ∙ d)

-- what a successful insertion leaves, under a name and under an index
pub insert_sets : {T E : Type 0} (r : Result T E) (key : NodeKey) (e : KdlEntry) (n : KdlNode) (v : Vec KdlEntry Global) → GoesUnder (sought key) (entry_tree e) → OnOk r (IsInserted key e (entries_of n) v.items)
    → OnOk r (IfSome (key_name key) (λ s. IsSet s (entry_tree e).value n (with_entries n v)))
insert_sets (Err a) key e n v g d = tt
insert_sets (Ok a) (Index i) e n v g d = tt
insert_sets (Ok a) (Key k) e n v g d = inserted_set k e n (with_entries n v) g (inserted_with (Key k) e n v d)

pub insert_puts : {T E : Type 0} (r : Result T E) (key : NodeKey) (e : KdlEntry) (n : KdlNode) (v : Vec KdlEntry Global) → GoesUnder (sought key) (entry_tree e) → HasRoomAt (sought key) (entries_of n)
    → OnOk r (IsInserted key e (entries_of n) v.items) → OnOk r (IfSome (key_index key) (λ i. IsPutIn i (entry_tree e).value n (with_entries n v)))
insert_puts (Err a) key e n v g k d = tt
insert_puts (Ok a) (Key i) e n v g k d = tt
insert_puts (Ok a) (Index i) e n v g k d =
    let m = with_entries n v in
    subst (λ (x : Entry). IsPutIn i x.value n m) d.tree (argument_inserted i d.entry n m (ap (λ (x : Entry). x.name) d.tree ∙ g) k (entries_with n v ∙ d.items))

-- what a removal leaves, of a property and of an argument
pub remove_takes : (key : NodeKey) (n : KdlNode) (v : Vec KdlEntry Global) → v.items ≡ removed key (entries_of n) → IfSome (key_name key) (λ s. IsTakenOut s n (with_entries n v))
remove_takes (Key k) n v d = taken_out_set (string_bytes k.value) n (with_entries n v) (entries_with n v ∙ d)
remove_takes (Index i) n v d = tt

pub remove_takes_at : (key : NodeKey) (n : KdlNode) (v : Vec KdlEntry Global) → HasArgumentAt (sought key) (entries_of n) → v.items ≡ removed key (entries_of n) → IfSome (key_index key) (λ i. IsTakenOutAt i n (with_entries n v))
remove_takes_at (Key k) n v h d = tt
remove_takes_at (Index i) n v h d = argument_removed i n (with_entries n v) h (entries_with n v ∙ d)

-- names with one tree are the same to each look-up
name_same : (s : List ℕ) (o p : Option KdlIdentifier) → option_map identifier_tree o ≡ option_map identifier_tree p → is_name s o ≡ is_name s p
name_same s None None h = refl
name_same s None (Some j) h = absurd (none-some _ h)
name_same s (Some i) None h = absurd (none-some _ (sym h))
name_same s (Some i) (Some j) h =
    let same : identifier_tree i ≡ identifier_tree j = cc in
    ap (λ b. same_text b s) (same_bytes (string_bytes i.value) (string_bytes j.value) (IsUtf8-string_bytes i.value) (IsUtf8-string_bytes j.value) (ap (λ (x : Identifier). x.value) same))

none_same : (o p : Option KdlIdentifier) → option_map identifier_tree o ≡ option_map identifier_tree p → is_none o ≡ is_none p
none_same None None h = refl
none_same None (Some j) h = absurd (none-some _ h)
none_same (Some i) None h = absurd (none-some _ (sym h))
none_same (Some i) (Some j) h = refl

-- an entry of the same name in the place of one
record Exchanged (i : ℕ) (old new : KdlEntry) (n m : KdlNode) : Type 0 where
  pub here : slice_get (entries_of n) i ≡ Some old
  pub name : (entry_tree new).name ≡ (entry_tree old).name
  pub items : entries_of m ≡ set (entries_of n) i new

same_some : {x y : KdlEntry} → ◌≡◌ {A = Option KdlEntry} (Some x) (Some y) → x ≡ y
same_some e = cc

abbrev exchange : (p : KdlEntry → Bool) (i : ℕ) (old new it : KdlEntry) (n m : KdlNode) → Exchanged i old new n m → slice_get (entries_of n) i ≡ Some it → p it ≡ true → p new ≡ p old → Edited p (old ∷ []) (new ∷ []) n m
exchange p i old new it n m x here h e =
    let passes : p old ≡ true = ap p (same_some (sym x.here ∙ here)) ∙ h in
    record { splice = splice_set (entries_of n) (entries_of m) i old new x.here x.items; olds = one_passes p old true passes; news = one_passes p new true (e ∙ passes) }

exchanged_property : (s : List ℕ) (i : ℕ) (old new : KdlEntry) (n m : KdlNode) → property_place s n ≡ Some i → Exchanged i old new n m → IsSet s (value_tree new.value) n m
exchanged_property s i old new n m h x =
    let at : LastAt (has_name s) (entries_of n) i = subst (LastIs (has_name s) (entries_of n)) h (last_is (has_name s) (entries_of n)) in
    property_set s new (old ∷ []) n m (exchange (has_name s) i old new at.it n m x at.here at.passes (name_same s new.name old.name x.name)) at.after

-- what the key finds has another value
abbrev Sets : NodeKey → Value → KdlNode → KdlNode → Type 0
Sets (Key k) v n m = IsSet (string_bytes k.value) v n m
Sets (Index i) v n m = IsArgumentSet i v n m

exchanged_at : (key : NodeKey) (i : ℕ) (old new : KdlEntry) (n m : KdlNode) → key_place key n ≡ Some i → Exchanged i old new n m → Sets key (value_tree new.value) n m
exchanged_at (Key k) i old new n m h x = exchanged_property (string_bytes k.value) i old new n m h x
exchanged_at (Index j) i old new n m h x =
    let at : NthAt is_argument (entries_of n) j i = subst (NthIs is_argument (entries_of n) j) h (nth_is is_argument (entries_of n) j) in
    argument_set j old new n m (exchange is_argument i old new at.it n m x at.here at.passes (none_same new.name old.name x.name)) at.before

value_exchanged : (i : ℕ) (old : KdlEntry) (w : KdlValue) (n m : KdlNode) → slice_get (entries_of n) i ≡ Some old → m ≡ with_value n i w → Exchanged i old (record old { value = w }) n m
value_exchanged i old w n m h e = record {
  here = h;
  name = refl;
  items = ap entries_of e ∙ entries_with n (set_value_at (out-KdlNode n).entries i w) ∙ ap (λ (v : Vec KdlEntry Global). v.items) (sym (set_value_is (out-KdlNode n).entries i old h w));
}

-- the entry at a place that was found
place_there : (o : Option ℕ) (es : List KdlEntry) (e : KdlEntry) → Some e ≡ there o es → (i : ℕ) × (o ≡ Some i) × (slice_get es i ≡ Some e)
place_there None es e h = absurd (none-some _ (sym h))
place_there (Some i) es e h = (i, refl, sym h)

held_there : (o : Option KdlEntry) (v : KdlValue) → Some v ≡ option_map (λ e. e.value) o → (e : KdlEntry) × (Some e ≡ o)
held_there None v h = absurd (none-some _ (sym h))
held_there (Some e) v h = (e, refl)

-- what is left once a value is written through its loan
value_written : {A : Type 0} (now : A → KdlValue) (key : NodeKey) (n : KdlNode) (o : Option A) → option_map now o ≡ held_value (found_entry key n) → IsSome o → (w : KdlValue) → Sets key (value_tree w) n (with_found_value key n w)
value_written now key n None h t w = absurd (cc)
value_written now key n (Some v) h t w =
    let (old, is) = held_there (found_entry key n) (now v) h in
    let (i, at, here) = place_there (key_place key n) (entries_of n) old is in
    exchanged_at key i old (record old { value = w }) n (with_found_value key n w) at (value_exchanged i old w n (with_found_value key n w) here (ap (λ o. with_value_there o n w) at))

pub value_sets : {A : Type 0} (now : A → KdlValue) (key : NodeKey) (n : KdlNode) (o : Option A) → option_map now o ≡ held_value (found_entry key n) → IsSome o → IfSome (key_name key) (λ s. (w : KdlValue) → IsSet s (value_tree w) n (with_found_value key n w))
value_sets now (Index i) n o h t = tt
value_sets now (Key k) n o h t = value_written now (Key k) n o h t

pub value_sets_at : {A : Type 0} (now : A → KdlValue) (key : NodeKey) (n : KdlNode) (o : Option A) → option_map now o ≡ held_value (found_entry key n) → IsSome o → IfSome (key_index key) (λ i. (w : KdlValue) → IsArgumentSet i (value_tree w) n (with_found_value key n w))
value_sets_at now (Key k) n o h t = tt
value_sets_at now (Index j) n o h t = value_written now (Index j) n o h t

-- and once an entry is written through its loan, whose name is what it was
entry_written : (key : NodeKey) (n : KdlNode) (e w : KdlEntry) → Some e ≡ found_entry key n → (entry_tree w).name ≡ (entry_tree e).name → Sets key (entry_tree w).value n (with_found_entry key n w)
entry_written key n e w h t =
    let (i, at, here) = place_there (key_place key n) (entries_of n) e h in
    exchanged_at key i e w n (with_found_entry key n w) at
    (record { here = here; name = t; items = ap entries_of (ap (λ o. with_entry_there o n w) at) ∙ entries_with n (with_item (out-KdlNode n).entries i w) })

pub entry_sets : {A : Type 0} (now : A → KdlEntry) (key : NodeKey) (n : KdlNode) (o : Option A) → option_map now o ≡ found_entry key n
    → IfSome o (λ e. IfSome (key_name key) (λ s. (w : KdlEntry) → (entry_tree w).name ≡ (entry_tree (now e)).name → IsSet s (entry_tree w).value n (with_found_entry key n w)))
entry_sets now key n None h = tt
entry_sets now (Index i) n (Some e) h = tt
entry_sets now (Key k) n (Some e) h = λ w t. entry_written (Key k) n (now e) w h t

pub entry_sets_at : {A : Type 0} (now : A → KdlEntry) (key : NodeKey) (n : KdlNode) (o : Option A) → option_map now o ≡ found_entry key n
    → IfSome o (λ e. IfSome (key_index key) (λ j. (w : KdlEntry) → (entry_tree w).name ≡ (entry_tree (now e)).name → IsArgumentSet j (entry_tree w).value n (with_found_entry key n w)))
entry_sets_at now key n None h = tt
entry_sets_at now (Key k) n (Some e) h = tt
entry_sets_at now (Index j) n (Some e) h = λ w t. entry_written (Index j) n (now e) w h t

-- what is left once the value of a property is written that was found or pushed
named_bytes : (s : List ℕ) (o : Option KdlIdentifier) → IsUtf8 s → option_map identifier_tree o ≡ Some (plain_identifier (chars s)) → is_name s o ≡ true
named_bytes s None u h = absurd (none-some _ h)
named_bytes s (Some i) u h =
    let same : identifier_tree i ≡ plain_identifier (chars s) = cc in
    (bytes_eq-Decides (string_bytes i.value) s).1 (same_bytes (string_bytes i.value) s (IsUtf8-string_bytes i.value) u (ap (λ (x : Identifier). x.value) same))

pub written_or_pushed : (s : List ℕ) (n : KdlNode) → IsUtf8 s → (w : KdlValue) (m : KdlNode) → HasWritten (property_place s n) s n w m → IsSet s (value_tree w) n m
written_or_pushed s n u w m h = go (property_place s n) refl h
  where
    go : (o : Option ℕ) → property_place s n ≡ o → HasWritten o s n w m → IsSet s (value_tree w) n m
    go None e k =
        let d = k.entries in
        subst (λ (x : Entry). IsSet s x.value n m) d.tree (pushed_set s d.entry n m (named_bytes s d.entry.name u (ap (λ (x : Entry). x.name) d.tree)) d.items)
    go (Some i) e k =
        let at : LastAt (has_name s) (entries_of n) i = subst (LastIs (has_name s) (entries_of n)) e (last_is (has_name s) (entries_of n)) in
        exchanged_property s i at.it (record at.it { value = w }) n m e (value_exchanged i at.it w n m at.here k)
