-- What the machine of entries reads, the grammar derives.
use Rattle.std.proofs.Common.{◌≡◌, ◌⊎◌, inl, inr, Bool, true, false, [], ◌∷◌, Option, None, Some, refl, rules, subst}
use Rattle.kdl_text.specs.Chars.{Text, Star, Plus, plus}
use Rattle.kdl_text.specs.Chars.Star.{none as no_star, more}
use Rattle.kdl_text.specs.Trivia.{NodeSpace, LineSpace, slashdash, ValueEnd}
use Rattle.kdl_entry.specs.Data as data'
use Rattle.kdl_value.specs.Data.{Value}
use Rattle.kdl_entry.specs.Entries.{IsString, string as a_string', IsPlainValue, a_string, a_plain, parens, untyped, typed, IsValue, value as a_value, IsEntry, property, argument, DroppedFirst, dropped_first, before_entry, IsEntryText, entry_text}
use Rattle.kdl_entry.specs.Internal.EntryMachine.{Word, State, ahead, dropping, under, word, done, step, Runs, stops, reads, AnswersEntry}
use Rattle.kdl_syntax.specs.declared.control.{Spot.TheVariants.Fresh, Spot.TheVariants.Spaced, Phase.Phase, Word.Word as ControlWord, Owner.Owner, Word.TheVariants.MayBeKey, Word.TheVariants.NoKey, Owner.TheVariants.Name as OfName, Owner.TheVariants.Value as OfValue}
use Rattle.kdl_syntax.specs.declared.control.Phase.TheVariants.{TypeOpen, TypeName, TypeDone, InNode, Property, EntrySlashdash}
use Rattle.kdl_entry.specs.Internal.Parts.{Parts}
use Rattle.kdl_syntax.specs.Tokens.{Token, string, value, left, bom, BeginsToken, t_space, t_newline, t_slashdash, t_string, t_value, t_left, t_right, t_equals}
use Rattle.kdl_entry.specs.Tree.{Entry}
use Rattle.kdl_syntax.proofs.Lexing.TokenUnique.{is_end, end_after}

-- What is left of the text, by what is under way. The flag: the entry is kept.

-- entries that are slashdashed, the entry, and line-spaces up to the end
data Left : Text → Type 0 where
  left_is : {s t r : Text} {x : data'.Entry} → Star (DroppedFirst true) s t → IsEntry true t r x → Star LineSpace r [] → Left s

data Then : Bool → Text → Type 0 where
  at_last : {s : Text} → Star LineSpace s [] → Then true s
  and_more : {s r : Text} → Plus NodeSpace s r → Left r → Then false s

data ValueThen (b : Bool) : Text → Type 0 where
  value_then : {s t r : Text} {y : Option Text} {v : Value} → Star NodeSpace s t → IsValue true t r y v → Then b r → ValueThen b s

data ClosedThen (b : Bool) : Text → Type 0 where
  closed_then : {s t r : Text} {v : Value} → Star NodeSpace s t → IsPlainValue true t r v → Then b r → ClosedThen b s

data NamedThen (b : Bool) : Text → Type 0 where
  named_then : {s t : Text} → Star NodeSpace s (41 ∷ t) → ClosedThen b t → NamedThen b s

data OpenThen (b : Bool) : Text → Type 0 where
  open_then : {s t u v : Text} → Star NodeSpace s t → IsString true t u v → NamedThen b u → OpenThen b s

data KeyThen (b : Bool) : Text → Type 0 where
  key_then : {s t : Text} → Star NodeSpace s (61 ∷ t) → ValueThen b t → KeyThen b s

data EntryThen (b : Bool) : Text → Type 0 where
  entry_then : {s r : Text} {x : data'.Entry} → IsEntry true s r x → Then b r → EntryThen b s

data SlashdashThen : Text → Type 0 where
  slashdash_then : {s t : Text} → Star LineSpace s t → EntryThen false t → SlashdashThen s

data SpacedThen : Text → Type 0 where
  spaced_then : {s t : Text} → Star NodeSpace s t → Left t → SpacedThen s

abbrev InItem : Phase → Bool → Text → Type 0
InItem (TypeOpen c) b s = OpenThen b s
InItem (TypeName c) b s = NamedThen b s
InItem (TypeDone c) b s = ClosedThen b s
InItem Property b s = ValueThen b s
InItem _ b s = Unit {0}

abbrev Key : ControlWord → Bool → Text → Type 0
Key NoKey b s = ⊥
Key MayBeKey b s = KeyThen b s

abbrev DroppedThen : Phase → Text → Type 0
DroppedThen EntrySlashdash s = SlashdashThen s
DroppedThen (InNode (Fresh b)) s = Then false s ⊎ Key b false s
DroppedThen (InNode (Spaced b)) s = SpacedThen s ⊎ Key b false s
DroppedThen p s = InItem p false s

abbrev Rest : State → Text → Type 0
Rest ahead s = (x : data'.Entry) × IsEntryText s x
Rest (dropping p) s = DroppedThen p s
Rest (under p it) s = InItem p true s
Rest (word w from) s = Then true s ⊎ KeyThen true s
Rest (done e from) s = Then true s

text_space : {s r : Text} → LineSpace s r → Rest ahead r → Rest ahead s
text_space n (x, entry_text (before_entry ls ds) i zs) = (x, entry_text (before_entry (more n ls) ds) i zs)

text_left : {s : Text} → Left s → Rest ahead s
text_left (left_is {x = x} ds i zs) = (x, entry_text (before_entry no_star ds) i zs)

left_slashdash : {s : Text} → SlashdashThen s → Left (47 ∷ 45 ∷ s)
left_slashdash (slashdash_then ls (entry_then i (and_more p (left_is ds j zs)))) = left_is (more (dropped_first (slashdash ls) i p) ds) j zs

left_entry : {s : Text} → EntryThen true s → Left s
left_entry (entry_then i (at_last zs)) = left_is no_star i zs

slashdash_space : {s r : Text} → LineSpace s r → SlashdashThen r → SlashdashThen s
slashdash_space n (slashdash_then ls i) = slashdash_then (more n ls) i

entry_of : {b : Bool} {s r v : Text} → IsString true s r v → Then b r ⊎ KeyThen b r → EntryThen b s
entry_of w (inl d) = entry_then (argument (a_value untyped (a_string w))) d
entry_of w (inr (key_then ss (value_then us v d))) = entry_then (property w ss us v) d

entry_plain : {b : Bool} {s r : Text} {v : Value} → IsPlainValue true s r v → Then b r → EntryThen b s
entry_plain w d = entry_then (argument (a_value untyped w)) d

entry_typed : {b : Bool} {s : Text} → OpenThen b s → EntryThen b (40 ∷ s)
entry_typed (open_then ss w (named_then us (closed_then vs p d))) = entry_then (argument (a_value (typed (parens ss w us) vs) p)) d

value_of : {b : Bool} {s r : Text} {v : Value} → IsPlainValue true s r v → Then b r → ValueThen b s
value_of w d = value_then no_star (a_value untyped w) d

value_typed : {b : Bool} {s : Text} → OpenThen b s → ValueThen b (40 ∷ s)
value_typed (open_then ss w (named_then us (closed_then vs p d))) = value_then no_star (a_value (typed (parens ss w us) vs) p) d

key_space : {b : Bool} {s r : Text} → NodeSpace s r → KeyThen b r → KeyThen b s
key_space n (key_then ss v) = key_then (more n ss) v

maybe_key : {s r : Text} (b : ControlWord) → NodeSpace s r → Key b false r → Key b false s
maybe_key NoKey n k = k
maybe_key MayBeKey n k = key_space n k

fresh_space : {s r : Text} (b : ControlWord) → NodeSpace s r → SpacedThen r ⊎ Key b false r → Then false s ⊎ Key b false s
fresh_space b n (inl (spaced_then ss l)) = inl (and_more (plus n ss) l)
fresh_space b n (inr k) = inr (maybe_key b n k)

spaced_space : {s r : Text} (b : ControlWord) → NodeSpace s r → SpacedThen r ⊎ Key b false r → SpacedThen s ⊎ Key b false s
spaced_space b n (inl (spaced_then ss l)) = inl (spaced_then (more n ss) l)
spaced_space b n (inr k) = inr (maybe_key b n k)

no_key : {s : Text} → Then false s ⊎ Key NoKey false s → Then false s
no_key (inl d) = d
no_key (inr k) = absurd k

last_space : {s r : Text} → LineSpace s r → Then true r → Then true s
last_space n (at_last ls) = at_last (more n ls)

word_space : {s r : Text} → NodeSpace s r → Then true r ⊎ KeyThen true r → Then true s ⊎ KeyThen true s
word_space n (inl d) = inl (last_space (LineSpace.space n) d)
word_space n (inr k) = inr (key_space n k)

item_space : {s r : Text} (p : Phase) (b : Bool) → NodeSpace s r → InItem p b r → InItem p b s
item_space (TypeOpen c) b n (open_then ss w d) = open_then (more n ss) w d
item_space (TypeName c) b n (named_then ss d) = named_then (more n ss) d
item_space (TypeDone c) b n (closed_then ss w d) = closed_then (more n ss) w d
item_space Property b n (value_then ss w d) = value_then (more n ss) w d
item_space _ b n d = tt

module _ (whole : Text) (out : Entry) where
  back : (r : Text) (x y : State) → Some x ≡ Some y → Rest y r → Rest x r
  back r x y e a = let q : y ≡ x = cc in subst (λ (z : State). Rest z r) q a

  back_run : {r : Text} (x y : State) → Some x ≡ Some y → Runs whole out y r → Runs whole out x r
  back_run {r = r} x y e a = let q : y ≡ x = cc in subst (λ (z : State). Runs whole out z r) q a

  -- a state that takes no string, value, `(` and U+FEFF is at the end of a value
  taken : (f : Token → Option State) → ((v : Text) → f (string v) ≡ None) → ((v : Value) → f (value v) ≡ None) → f left ≡ None → f bom ≡ None → (k : Token) (st : State) → f k ≡ Some st → is_end k ≡ true
  taken f a b c d (string v) st e = let h = a v in absurd cc
  taken f a b c d (value v) st e = let h = b v in absurd cc
  taken f a b c d left st e = absurd cc
  taken f a b c d bom st e = absurd cc
  taken f a b c d _ st e = refl

  ends : {s : Text} {st : State} → Runs whole out st s → ((k : Token) (s r : Text) (st' : State) → step whole st k s r ≡ Some st' → is_end k ≡ true) → ValueEnd true s
  ends (stops e) f = ValueEnd.nothing
  ends {s = s} (reads {st' = st'} {r = r} {k = k} t e a) f = end_after t (f k s r st' e)

  word_end : {s : Text} (w : Word) (from : Text) → Runs whole out (word w from) s → ValueEnd true s
  word_end w from a = ends a (λ k s r. taken (λ k. step whole (word w from) k s r) (λ v. refl) (λ v. refl) refl refl k)

  fresh_end : {s : Text} (b : ControlWord) → Runs whole out (dropping (InNode (Fresh b))) s → ValueEnd true s
  fresh_end b a = ends a (λ k s r. taken (λ k. step whole (dropping (InNode (Fresh b))) k s r) (λ v. refl) (λ v. refl) refl refl k)

  type_end : {s : Text} (b : Owner) → Runs whole out (dropping (TypeName b)) s → ValueEnd true s
  type_end b a = ends a (λ k s r. taken (λ k. step whole (dropping (TypeName b)) k s r) (λ v. refl) (λ v. refl) refl refl k)

  done_end : {s : Text} (x : Entry) (from : Text) → Runs whole out (done x from) s → ValueEnd true s
  done_end x from a = ends a (λ k s r. taken (λ k. step whole (done x from) k s r) (λ v. refl) (λ v. refl) refl refl k)

  named_end : {s : Text} (b : Owner) (it : Parts) → Runs whole out (under (TypeName b) it) s → ValueEnd true s
  named_end b it a = ends a (λ k s r. taken (λ k. step whole (under (TypeName b) it) k s r) (λ v. refl) (λ v. refl) refl refl k)

  in_item : {s r : Text} {k : Token} {st : State} (p : Phase) (it : Parts) → BeginsToken s k r → step whole (under p it) k s r ≡ Some st → Runs whole out st r → Rest st r → InItem p true s
  in_item (TypeOpen b) it (t_space n) e a d = item_space (TypeOpen b) true n (back _ (under (TypeOpen b) it) _ e d)
  in_item (TypeOpen b) it (t_string p) e a d = open_then no_star (a_string' p (named_end b _ (back_run _ _ e a))) (back _ (under (TypeName b) _) _ e d)
  in_item (TypeName b) it (t_space n) e a d = item_space (TypeName b) true n (back _ (under (TypeName b) it) _ e d)
  in_item (TypeName b) it t_right e a d = named_then no_star (back _ (under (TypeDone b) _) _ e d)
  in_item (TypeDone b) it (t_space n) e a d = item_space (TypeDone b) true n (back _ (under (TypeDone b) it) _ e d)
  in_item (TypeDone OfName) it (t_string p) e a d = closed_then no_star (a_string (a_string' p (done_end _ _ (back_run _ _ e a)))) (back _ (done _ _) _ e d)
  in_item (TypeDone OfValue) it (t_string p) e a d = closed_then no_star (a_string (a_string' p (done_end _ _ (back_run _ _ e a)))) (back _ (done _ _) _ e d)
  in_item (TypeDone OfValue) it (t_value p) e a d = closed_then no_star (a_plain p (done_end _ _ (back_run _ _ e a))) (back _ (done _ _) _ e d)
  in_item Property it (t_space n) e a d = item_space Property true n (back _ (under Property it) _ e d)
  in_item Property it (t_string p) e a d = value_of (a_string (a_string' p (done_end _ _ (back_run _ _ e a)))) (back _ (done _ _) _ e d)
  in_item Property it (t_value p) e a d = value_of (a_plain p (done_end _ _ (back_run _ _ e a))) (back _ (done _ _) _ e d)
  in_item Property it t_left e a d = value_typed (back _ (under (TypeOpen OfValue) _) _ e d)
  in_item _ it t e a d = first_of (search rules, cc)

  -- in or after a slashdashed entry
  in_dropped : {s r : Text} {k : Token} {st : State} (p : Phase) → BeginsToken s k r → step whole (dropping p) k s r ≡ Some st → Runs whole out st r → Rest st r → DroppedThen p s
  in_dropped EntrySlashdash (t_space n) e a d = slashdash_space (LineSpace.space n) (back _ (dropping EntrySlashdash) _ e d)
  in_dropped EntrySlashdash (t_newline n) e a d = slashdash_space (LineSpace.«break» n) (back _ (dropping EntrySlashdash) _ e d)
  in_dropped EntrySlashdash (t_string p) e a d = slashdash_then no_star (entry_of (a_string' p (fresh_end MayBeKey (back_run _ _ e a))) (back _ (dropping (InNode (Fresh MayBeKey))) _ e d))
  in_dropped EntrySlashdash (t_value p) e a d = slashdash_then no_star (entry_plain (a_plain p (fresh_end NoKey (back_run _ _ e a))) (no_key (back _ (dropping (InNode (Fresh NoKey))) _ e d)))
  in_dropped EntrySlashdash t_left e a d = slashdash_then no_star (entry_typed (back _ (dropping (TypeOpen OfValue)) _ e d))
  in_dropped (TypeOpen b) (t_space n) e a d = item_space (TypeOpen b) false n (back _ (dropping (TypeOpen b)) _ e d)
  in_dropped (TypeOpen b) (t_string p) e a d = open_then no_star (a_string' p (type_end b (back_run _ _ e a))) (back _ (dropping (TypeName b)) _ e d)
  in_dropped (TypeName b) (t_space n) e a d = item_space (TypeName b) false n (back _ (dropping (TypeName b)) _ e d)
  in_dropped (TypeName b) t_right e a d = named_then no_star (back _ (dropping (TypeDone b)) _ e d)
  in_dropped (TypeDone b) (t_space n) e a d = item_space (TypeDone b) false n (back _ (dropping (TypeDone b)) _ e d)
  in_dropped (TypeDone OfName) (t_string p) e a d = closed_then no_star (a_string (a_string' p (fresh_end NoKey (back_run _ _ e a)))) (no_key (back _ (dropping (InNode (Fresh NoKey))) _ e d))
  in_dropped (TypeDone OfValue) (t_string p) e a d = closed_then no_star (a_string (a_string' p (fresh_end NoKey (back_run _ _ e a)))) (no_key (back _ (dropping (InNode (Fresh NoKey))) _ e d))
  in_dropped (TypeDone OfValue) (t_value p) e a d = closed_then no_star (a_plain p (fresh_end NoKey (back_run _ _ e a))) (no_key (back _ (dropping (InNode (Fresh NoKey))) _ e d))
  in_dropped Property (t_space n) e a d = item_space Property false n (back _ (dropping Property) _ e d)
  in_dropped Property (t_string p) e a d = value_of (a_string (a_string' p (fresh_end NoKey (back_run _ _ e a)))) (no_key (back _ (dropping (InNode (Fresh NoKey))) _ e d))
  in_dropped Property (t_value p) e a d = value_of (a_plain p (fresh_end NoKey (back_run _ _ e a))) (no_key (back _ (dropping (InNode (Fresh NoKey))) _ e d))
  in_dropped Property t_left e a d = value_typed (back _ (dropping (TypeOpen OfValue)) _ e d)
  in_dropped (InNode (Fresh b)) (t_space n) e a d = fresh_space b n (back _ (dropping (InNode (Spaced b))) _ e d)
  in_dropped (InNode (Fresh MayBeKey)) t_equals e a d = inr (key_then no_star (back _ (dropping Property) _ e d))
  in_dropped (InNode (Spaced b)) (t_space n) e a d = spaced_space b n (back _ (dropping (InNode (Spaced b))) _ e d)
  in_dropped (InNode (Spaced MayBeKey)) t_equals e a d = inr (key_then no_star (back _ (dropping Property) _ e d))
  in_dropped (InNode (Spaced b)) t_slashdash e a d = inl (spaced_then no_star (left_slashdash (back _ (dropping EntrySlashdash) _ e d)))
  in_dropped (InNode (Spaced b)) (t_string p) e a d = inl (spaced_then no_star (left_entry (entry_of (a_string' p (word_end _ _ (back_run _ _ e a))) (back _ (word _ _) _ e d))))
  in_dropped (InNode (Spaced b)) (t_value p) e a d = inl (spaced_then no_star (left_entry (entry_plain (a_plain p (done_end _ _ (back_run _ _ e a))) (back _ (done _ _) _ e d))))
  in_dropped (InNode (Spaced b)) t_left e a d = inl (spaced_then no_star (left_entry (entry_typed (back _ (under (TypeOpen OfValue) _) _ e d))))
  in_dropped _ t e a d = first_of (search rules, cc)

  sound : {s : Text} {st : State} → Runs whole out st s → Rest st s
  sound (stops {st = word w from} e) = inl (at_last no_star)
  sound (stops {st = done x from} e) = at_last no_star
  sound (stops e) = absurd cc
  sound (reads {st = ahead} (t_space n) e a) = text_space (LineSpace.space n) (back _ ahead _ e (sound a))
  sound (reads {st = ahead} (t_newline n) e a) = text_space (LineSpace.«break» n) (back _ ahead _ e (sound a))
  sound (reads {st = ahead} t_slashdash e a) = text_left (left_slashdash (back _ (dropping EntrySlashdash) _ e (sound a)))
  sound (reads {st = ahead} (t_string p) e a) = text_left (left_entry (entry_of (a_string' p (word_end _ _ (back_run _ _ e a))) (back _ (word _ _) _ e (sound a))))
  sound (reads {st = ahead} (t_value p) e a) = text_left (left_entry (entry_plain (a_plain p (done_end _ _ (back_run _ _ e a))) (back _ (done _ _) _ e (sound a))))
  sound (reads {st = ahead} t_left e a) = text_left (left_entry (entry_typed (back _ (under (TypeOpen OfValue) _) _ e (sound a))))
  sound (reads {st = dropping p} t e a) = in_dropped p t e a (sound a)
  sound (reads {st = under p it} t e a) = in_item p it t e a (sound a)
  sound (reads {st = word w from} (t_space n) e a) = word_space n (back _ (word w from) _ e (sound a))
  sound (reads {st = word w from} (t_newline n) e a) = inl (last_space (LineSpace.«break» n) (back _ (done _ _) _ e (sound a)))
  sound (reads {st = word w from} t_equals e a) = inr (key_then no_star (back _ (under Property _) _ e (sound a)))
  sound (reads {st = done x from} (t_space n) e a) = last_space (LineSpace.space n) (back _ (done x from) _ e (sound a))
  sound (reads {st = done x from} (t_newline n) e a) = last_space (LineSpace.«break» n) (back _ (done x from) _ e (sound a))
  sound (reads t e a) = absurd cc

pub derived : (t : Text) (e : Entry) → AnswersEntry t e → (x : data'.Entry) × IsEntryText t x
derived t e a = sound t e a
