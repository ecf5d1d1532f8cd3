-- What the grammar derives as an entry text, the machine reads, and the entry that it builds is laid.
use Rattle.std.proofs.Common.{◌≡◌, true, [], ◌∷◌, Option, Some, None, option_map, refl, ap, subst}
use Rattle.kdl_text.specs.Chars.{Text, Star, plus}
use Rattle.kdl_text.specs.Chars.Star.{none as no_star, more}
use Rattle.kdl_text.specs.Trivia.{NodeSpace, LineSpace, slashdash}
use Rattle.kdl_text.proofs.Looking.Ends.{End, then, end_star}
use Rattle.kdl_entry.specs.Data as data'
use Rattle.kdl_value.specs.Data.{Value, text}
use Rattle.kdl_entry.specs.Entries.{IsString, string as a_string', IsPlainValue, a_string, a_plain, parens, MaybeType, untyped, typed, value as a_value, IsEntry, property, argument, DroppedFirst, dropped_first, BeforeEntry, before_entry, IsEntryText, entry_text}
use Rattle.kdl_entry.specs.Internal.EntryMachine.{Word, State, ahead, dropping, under, word, done, opened_parts, word_at, entry_by, argument_of, step, ended, Runs, stops, reads, AnswersEntry}
use Rattle.kdl_entry.specs.Internal.Parts.{TypeParts, KeyParts, type_of, before_name, after_name, after_type, identifier_at, Parts}
use Rattle.kdl_syntax.specs.declared.control.{Spot.TheVariants.Fresh, Spot.TheVariants.Spaced, Word.Word as ControlWord, Word.TheVariants.MayBeKey, Word.TheVariants.NoKey, Owner.TheVariants.Value as OfValue}
use Rattle.kdl_syntax.specs.declared.control.Phase.TheVariants.{TypeOpen, TypeName, TypeDone, InNode, Property, EntrySlashdash}
use Rattle.kdl_entry.specs.Laid.{LaidIdentifier, spelled, LaidType, no_type, a_type, no_key, a_key, LaidItem, item, LaidEntryText, laid_entry_text}
use Rattle.kdl_entry.specs.Places.{span_of, between}
use Rattle.kdl_syntax.specs.Tokens.{space, newline, slashdash as a_slashdash, string, value, left, t_space, t_newline, t_slashdash, t_string, t_value, t_left, t_right, t_equals}
use Rattle.kdl_entry.specs.Tree.{Identifier, Entry, entry_data, plain_identifier}
use Rattle.kdl_entry.proofs.Moving.EntryEnds.{end_spaces, end_lines, end_some, end_slashdash, end_string, end_plain, end_entry}
use Rattle.kdl_entry.proofs.Slicing.Placing.{place}
pub mod OneLaid

module _ (whole : Text) where
  stay : (out : Entry) → {s r : Text} (st : State) → ((s r : Text) → step whole st space s r ≡ Some st) → Star NodeSpace s r → Runs whole out st r → Runs whole out st s
  stay out st e no_star a = a
  stay out st e (more n m) a = reads (t_space n) (e _ _) (stay out st e m a)

  lines : (out : Entry) → {s r : Text} (st : State) → ((s r : Text) → step whole st space s r ≡ Some st) → ((s r : Text) → step whole st newline s r ≡ Some st) → Star LineSpace s r → Runs whole out st r → Runs whole out st s
  lines out st e f no_star a = a
  lines out st e f (more (LineSpace.space n) m) a = reads (t_space n) (e _ _) (lines out st e f m a)
  lines out st e f (more (LineSpace.«break» n) m) a = reads (t_newline n) (f _ _) (lines out st e f m a)

  read_string : (out : Entry) → {s r v : Text} {st st' : State} → IsString true s r v → step whole st (string v) s r ≡ Some st' → Runs whole out st' r → Runs whole out st s
  read_string out (a_string' p e) f a = reads (t_string p) f a

  read_plain : (out : Entry) → {s r : Text} {v : Value} → IsPlainValue true s r v → (st : State) (to : Value → State) → ((v : Text) → step whole st (string v) s r ≡ Some (to (text v)))
      → ((v : Value) → step whole st (value v) s r ≡ Some (to v)) → Runs whole out (to v) r → Runs whole out st s
  read_plain out (a_string {v = v} d) st to f g a = read_string out d (f v) a
  read_plain out (a_plain {v = v} p e) st to f g a = reads (t_value p) (g v) a

  -- a state in which the entry may begin, or a slashdash
  record Starts (st : State) : Type 0 where
    to_string : (v s r : Text) → step whole st (string v) s r ≡ Some (word (word_at whole v s r) r)
    to_value : (v : Value) (s r : Text) → step whole st (value v) s r ≡ Some (done (entry_by (between whole s) None None v (between s r)) r)
    to_left : (s r : Text) → step whole st left s r ≡ Some (under (TypeOpen OfValue) (opened_parts s (between whole s) r))
    to_slashdash : (s r : Text) → step whole st a_slashdash s r ≡ Some (dropping EntrySlashdash)

  at_ahead : Starts ahead
  at_ahead = record { to_string = λ v s r. refl; to_value = λ v s r. refl; to_left = λ s r. refl; to_slashdash = λ s r. refl }

  at_spaced : (b : ControlWord) → Starts (dropping (InNode (Spaced b)))
  at_spaced b = record { to_string = λ v s r. refl; to_value = λ v s r. refl; to_left = λ s r. refl; to_slashdash = λ s r. refl }

  -- after the entry e
  data After (e : Entry) (r : Text) : State → Type 0 where
    is_word : {w : Word} → argument_of w ≡ e → After e r (word w r)
    is_done : After e r (done e r)

  abbrev item_at : Text → Text → Text → Option KeyParts → Identifier → Text → Text → Parts
  item_at h q from k i b a = record { leading = q; start = h; from = from; key = k; name = i; before = b; after = a }

  abbrev parts : Text → Text → Text → Text → Text → Text → TypeParts
  parts y s1 s2 s3 s4 t = record { name = identifier_at whole y s2 s3; before = between s1 s2; after = between s3 (41 ∷ s4); following = between s4 t }

  kept_type : (out : Entry) → {s1 s2 s3 s4 t r y : Text} {v : Value} → Star NodeSpace s1 s2 → IsString true s2 s3 y → Star NodeSpace s3 (41 ∷ s4) → Star NodeSpace s4 t → IsPlainValue true t r v
      → (h q : Text) (k : Option KeyParts) (i : Identifier) (b a : Text) → Runs whole out (done (entry_by q k (Some (parts y s1 s2 s3 s4 t)) v (between t r)) r) r → Runs whole out (under (TypeOpen OfValue) (item_at h q s1 k i b a)) s1
  kept_type out {s1 = s1} {s2 = s2} {s3 = s3} {s4 = s4} {t = t} {r = r} {y = y} ss d us vs p h q k i b a x =
      let n = identifier_at whole y s2 s3 in
      stay out (under (TypeOpen OfValue) (item_at h q s1 k i b a)) (λ s r. refl) ss (read_string out d refl
      (stay out (under (TypeName OfValue) (item_at h q s3 k n (between s1 s2) a)) (λ s r. refl) us (reads t_right refl
      (stay out (under (TypeDone OfValue) (item_at h q s4 k n (between s1 s2) (between s3 (41 ∷ s4)))) (λ s r. refl) vs
      (read_plain out p (under (TypeDone OfValue) (item_at h q s4 k n (between s1 s2) (between s3 (41 ∷ s4)))) (λ v. done (entry_by q k (Some (parts y s1 s2 s3 s4 t)) v (between t r)) r) (λ v. refl) (λ v. refl) x)))))

  dropped_type : (out : Entry) → {s1 s2 s3 s4 t r y : Text} {v : Value} → Star NodeSpace s1 s2 → IsString true s2 s3 y → Star NodeSpace s3 (41 ∷ s4) → Star NodeSpace s4 t → IsPlainValue true t r v
      → Runs whole out (dropping (InNode (Fresh NoKey))) r → Runs whole out (dropping (TypeOpen OfValue)) s1
  dropped_type out ss d us vs p x =
      stay out (dropping (TypeOpen OfValue)) (λ s r. refl) ss (read_string out d refl
      (stay out (dropping (TypeName OfValue)) (λ s r. refl) us (reads t_right refl
      (stay out (dropping (TypeDone OfValue)) (λ s r. refl) vs
      (read_plain out p (dropping (TypeDone OfValue)) (λ v. dropping (InNode (Fresh NoKey))) (λ v. refl) (λ v. refl) x)))))

  pub spelled_at : {s r v : Text} → IsString true s r v → LaidIdentifier true whole (identifier_at whole v s r) s r
  spelled_at d = spelled (place d (end_string d)) refl

  -- a value with its type, where the entry begins with it and after its key
  record ReadValue (s t r : Text) (y : Option Text) (v : Value) : Type 0 where
    type : Option TypeParts
    laid : LaidType true whole (type_of type) (before_name type) (after_name type) (after_type type) s t
    same : option_map (λ (i : Identifier). i.value) (type_of type) ≡ y
    starts : (out : Entry) (st : State) → Starts st → ((st' : State) → After (entry_by (between whole s) None type v (between t r)) r st' → Runs whole out st' r) → Runs whole out st s
    drops : (out : Entry) → ((b : ControlWord) → Runs whole out (dropping (InNode (Fresh b))) r) → Runs whole out (dropping EntrySlashdash) s
    after_key : (out : Entry) (h q from : Text) (i : Identifier) (b : Text) → Runs whole out (done (entry_by q (Some (record { name = i; before = b; following = between from s })) type v (between t r)) r) r
        → Runs whole out (under Property (item_at h q from None i b [])) s
    drops_after : (out : Entry) → Runs whole out (dropping (InNode (Fresh NoKey))) r → Runs whole out (dropping Property) s

  starts_plain : {s r : Text} {v : Value} → IsPlainValue true s r v → (out : Entry) (st : State) → Starts st → ((st' : State) → After (entry_by (between whole s) None None v (between s r)) r st' → Runs whole out st' r) → Runs whole out st s
  starts_plain {s = s} {r = r} (a_string {v = v} d) out st z a = read_string out d (z.to_string v s r) (a (word (word_at whole v s r) r) (is_word refl))
  starts_plain {s = s} {r = r} (a_plain {v = v} p e) out st z a = reads (t_value p) (z.to_value v s r) (a (done (entry_by (between whole s) None None v (between s r)) r) is_done)

  drops_plain : {s r : Text} {v : Value} → IsPlainValue true s r v → (out : Entry) → ((b : ControlWord) → Runs whole out (dropping (InNode (Fresh b))) r) → Runs whole out (dropping EntrySlashdash) s
  drops_plain (a_string d) out a = read_string out d refl (a MayBeKey)
  drops_plain (a_plain p e) out a = reads (t_value p) refl (a NoKey)

  read_value : {s t r : Text} {y : Option Text} {v : Value} → MaybeType true s t y → IsPlainValue true t r v → ReadValue s t r y v
  read_value {s = s} {r = r} {v = v} untyped d = record {
    type = None;
    laid = no_type;
    same = refl;
    starts = λ out st z a. starts_plain d out st z a;
    drops = λ out a. drops_plain d out a;
    after_key = λ out h q from i b x. read_plain out d (under Property (item_at h q from None i b [])) (λ v. done (entry_by q (Some (record { name = i; before = b; following = between from s })) None v (between s r)) r) (λ v. refl) (λ v. refl) x;
    drops_after = λ out x. read_plain out d (dropping Property) (λ v. dropping (InNode (Fresh NoKey))) (λ v. refl) (λ v. refl) x;
  }
  read_value {s = s} {t = t} {r = r} {v = v} (typed (parens {s = s1} {t = s2} {u = s3} {r = s4} {v = y} ss u us) vs) d = record {
    type = Some (parts y s1 s2 s3 s4 t);
    laid = a_type (place ss (end_spaces ss)) (spelled_at u) (place us (end_spaces us)) (place vs (end_spaces vs));
    same = refl;
    starts = λ out st z a. reads t_left (z.to_left s s1) (kept_type out ss u us vs d s (between whole s) None (plain_identifier []) [] [] (a (done (entry_by (between whole s) None (Some (parts y s1 s2 s3 s4 t)) v (between t r)) r) is_done));
    drops = λ out a. reads t_left refl (dropped_type out ss u us vs d (a NoKey));
    after_key = λ out h q from i b x. reads t_left refl (kept_type out ss u us vs d h q (Some (record { name = i; before = b; following = between from s })) (plain_identifier []) [] [] x);
    drops_after = λ out x. reads t_left refl (dropped_type out ss u us vs d x);
  }

  record ReadItem (s r : Text) (e : data'.Entry) : Type 0 where
    tree : Text → Entry
    laid : (leading trailing : Text) → LaidItem true whole leading trailing (span_of whole whole []) (ended whole trailing (tree leading)) s r
    same : (leading trailing : Text) → entry_data (ended whole trailing (tree leading)) ≡ e
    starts : (out : Entry) (st : State) → Starts st → ((st' : State) → After (tree (between whole s)) r st' → Runs whole out st' r) → Runs whole out st s
    drops : (out : Entry) → ((b : ControlWord) → Runs whole out (dropping (InNode (Fresh b))) r) → Runs whole out (dropping EntrySlashdash) s

  -- over the spaces between a dropped string and its `=`
  to_equals : (out : Entry) → {s u : Text} → Star NodeSpace s (61 ∷ u) → Runs whole out (dropping Property) u → Runs whole out (dropping (InNode (Fresh MayBeKey))) s
  to_equals out no_star a = reads t_equals refl a
  to_equals out (more n m) a = reads (t_space n) refl (stay out (dropping (InNode (Spaced MayBeKey))) (λ s r. refl) m (reads t_equals refl a))

  read_item : {s r : Text} {e : data'.Entry} → IsEntry true s r e → ReadItem s r e
  read_item {s = s} {r = r} (argument {v = v} (a_value {t = t} y d)) =
      let V = read_value y d in
      record {
        tree = λ q. entry_by q None V.type v (between t r);
        laid = λ q p. item no_key V.laid (place d (end_plain d));
        same = λ q p. ap (λ (z : Option Text). record { key = None; ty = z; value = v }) V.same;
        starts = λ out st z a. V.starts out st z a;
        drops = λ out a. V.drops out a;
      }
  read_item {s = s} {r = r} (property {t = t} {u = u} {w = w} {k = k} {v = v} d ss us (a_value {t = p} y z)) =
      let V = read_value y z in
      let i = identifier_at whole k s t in
      let n : KeyParts = record { name = i; before = between t (61 ∷ u); following = between u w } in
      record {
        tree = λ q. entry_by q (Some n) V.type v (between p r);
        laid = λ q x. item (a_key (spelled_at d) (place ss (end_spaces ss)) (place us (end_spaces us))) V.laid (place z (end_plain z));
        same = λ q x. ap (λ (z : Option Text). record { key = Some k; ty = z; value = v }) V.same;
        starts = λ out st x a.
            read_string out d (x.to_string k s t) (stay out (word (word_at whole k s t) t) (λ s r. refl) ss (reads t_equals refl
            (stay out (under Property (item_at whole (between whole s) u None i (between t (61 ∷ u)) [])) (λ s r. refl) us
            (V.after_key out whole (between whole s) u i (between t (61 ∷ u)) (a (done (entry_by (between whole s) (Some n) V.type v (between p r)) r) is_done)))));
        drops = λ out a. read_string out d refl (to_equals out ss (stay out (dropping Property) (λ s r. refl) us (V.drops_after out (a NoKey))));
      }

  read_dropped : (out : Entry) → {s t : Text} → Star (DroppedFirst true) s t → (st : State) → Starts st → ((st' : State) → Starts st' → Runs whole out st' t) → Runs whole out st s
  read_dropped out no_star st z f = f st z
  read_dropped out (more (dropped_first (slashdash ls) i (plus n ss)) ds) st z f =
      reads t_slashdash (z.to_slashdash _ _) (lines out (dropping EntrySlashdash) (λ s r. refl) (λ s r. refl) ls ((read_item i).drops out
      (λ b. reads (t_space n) refl (stay out (dropping (InNode (Spaced b))) (λ s r. refl) ss (read_dropped out ds (dropping (InNode (Spaced b))) (at_spaced b) f)))))

  after_done : {r : Text} (e : Entry) (from : Text) → Star LineSpace r [] → Runs whole (ended whole (between from []) e) (done e from) r
  after_done e from ls = lines (ended whole (between from []) e) (done e from) (λ s r. refl) (λ s r. refl) ls (stops refl)

  after_word : {r : Text} (w : Word) (from : Text) → Star LineSpace r [] → Runs whole (ended whole (between from []) (argument_of w)) (word w from) r
  after_word w from no_star = stops refl
  after_word w from (more (LineSpace.space n) ls) = reads (t_space n) refl (after_word w from ls)
  after_word w from (more (LineSpace.«break» n) ls) = reads (t_newline n) refl (after_done (argument_of w) from ls)

  following : {r : Text} {e : Entry} {st : State} → After e r st → Star LineSpace r [] → Runs whole (ended whole (between r []) e) st r
  following {r = r} (is_word {w = w} x) ls = subst (λ (z : Entry). Runs whole (ended whole (between r []) z) (word w r) r) x (after_word w r ls)
  following {r = r} {e = e} is_done ls = after_done e r ls

end_before : {s r : Text} → BeforeEntry true s r → End s r
end_before (before_entry ls ds) = then (end_lines ls) (end_star (λ s r x. end_first x) ds)
  where
    end_first : {s r : Text} → DroppedFirst true s r → End s r
    end_first (dropped_first m i n) = then (end_slashdash m) (then (end_entry i) (end_some n))

pub record Built (t : Text) (x : data'.Entry) : Type 0 where
  pub tree : Entry
  pub answers : AnswersEntry t tree
  pub laid : LaidEntryText t tree
  pub same : entry_data tree ≡ x

pub built : {t : Text} {x : data'.Entry} → IsEntryText t x → Built t x
built {t = t} (entry_text {u = u} {r = r} (before_entry ls ds) i zs) =
    let I = read_item t i in
    let p = between r [] in
    let e = ended t p (I.tree (between t u)) in
    record {
      tree = e;
      answers = lines t e ahead (λ s r. refl) (λ s r. refl) ls (read_dropped t e ds ahead (at_ahead t) (λ st z. I.starts e st z (λ st' a. following t a zs)));
      laid = laid_entry_text (place (before_entry ls ds) (end_before (before_entry ls ds))) (I.laid (between t u) p) (place zs (end_lines zs)) refl;
      same = I.same (between t u) p;
    }
