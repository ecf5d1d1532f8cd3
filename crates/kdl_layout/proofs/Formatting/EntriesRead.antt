-- An entry that is laid out reads back where it did before.
use Rattle.kdl_layout.proofs.Common.{◌≡◌, zero, suc, Bool, true, false, ◌||◌, List, [], ◌∷◌, refl, sym, ap, subst, ◌∙◌, Option, Some, None, option_map, arith, ◌++◌, append_assoc, All-cons, All-nil, All, Text, ValueEnd, Entry, EntryFormat, with_keep, autoformatted, entry_data, Identifier, IsPlainValue, MaybeType, untyped, typed, parens, value, IsEntry, property, argument, EntryLeading, print_identifier, print_key, print_type, EntryReads, Gap, Nodes, none, first, newline_gap, before_entry, PlaceItems, tail, Settings, keeps_texts, Keeping, with_keep_if, newline_at_end, WrittenUnless, entry_leading, is_kept_format, KeptForm, HasSpellings, HasSpellingsIf, HasSpellingsUnless, IsSpelledEntry, TypeTexts, IsWellFormedEntry, following, IsFormattedEntry, Value, punctuation_end}
use Rattle.kdl_grammar.proofs.Laying.LaidIsDerived.{first_entry}
use Rattle.kdl_layout.specs.Config as Config
use Rattle.kdl_layout.specs.KeptForm.{KeepsReading, EntriesKeepReading}
use Rattle.kdl_layout.proofs.Formatting.FormattedUnique.{entry_keeps_none}
use Rattle.kdl_layout.proofs.Loops.{Each}
use Rattle.kdl_layout.proofs.Respelling.Spellings.{value_before, string_before}
use Rattle.kdl_layout.proofs.Respelling.Written.{IsWrittenEntry, written_entry, Inside, IsGap, IsInside, NameReadsIf}
use Rattle.kdl_layout.proofs.Keeping.KeptReads.{none_before}
use Rattle.kdl_layout.proofs.Formatting.PrintsCanonical.{unspelled_twice}
use Rattle.kdl_layout.proofs.Texts.{name_of, type_joined, key_joined}
use Rattle.kdl_layout.proofs.Respelling.Kept.{TypeSpaces, continued_ends, continued_leads}
use Rattle.kdl_layout.proofs.Keeping.KeptPlaces.{Tail, tail_ends, tail_of, tail_spaced}
use Rattle.kdl_layout.proofs.NodeSpaces.{spaces_end}
use Rattle.kdl_layout.proofs.Rewriting.PlacesAgain.{space_ends}

-- a type between the texts that are kept around it
pub type_reads : (o : Option Identifier) (x : TypeTexts) (r : Text) → NameReadsIf o → TypeSpaces x → (o ≡ None → x.after ≡ []) → MaybeType true (print_type o x.before_name x.after_name ++ (x.after ++ r)) r (name_of o)
type_reads None x r ok s n = subst (λ (t : Text). MaybeType true (t ++ r) r None) (sym (n refl)) untyped
type_reads (Some i) x r ok s n =
    let rest = x.after_name ++ (41 ∷ (x.after ++ r)) in
    rw (type_joined x.before_name (print_identifier i) x.after_name (x.after ++ r))
    (typed (parens (s.before_name _) (string_before (print_identifier i) i.value rest ok (spaces_end x.after_name s.after_name _ (punctuation_end 41 refl))) (s.after_name _)) (s.after r))

pub item_reads : (k o : Option Identifier) (x : Inside) {v : Value} {r u : Text} → NameReadsIf k → NameReadsIf o → IsInside o x → IsPlainValue true r u v
    → IsEntry true (print_key k x.after_key x.after_eq ++ (print_type o x.ty.before_name x.ty.after_name ++ (x.ty.after ++ r))) u (record { key = name_of k; ty = name_of o; value = v })
item_reads None o x {r = r} a t s p = argument (value (type_reads o x.ty r t s.ty_spaces s.untyped) p)
item_reads (Some i) o x {r = r} a t s p =
    let rest = print_type o x.ty.before_name x.ty.after_name ++ (x.ty.after ++ r) in
    rw (key_joined (print_identifier i) x.after_key x.after_eq rest)
    (property (string_before (print_identifier i) i.value (x.after_key ++ (61 ∷ (x.after_eq ++ rest))) a (spaces_end x.after_key s.after_key _ (punctuation_end 61 refl))) (s.after_key _) (s.after_eq rest) (value (type_reads o x.ty r t s.ty_spaces s.untyped) p))

pub empty_gap : (compact : Bool) (ns : Nodes) {t r : Text} → Gap true t r → Gap true (newline_at_end compact ns ++ t) r
empty_gap true ns g = g
empty_gap false none g = newline_gap g
empty_gap false (first n ns) g = g

-- what is kept before an entry
entry_tail : (s : Settings) (e e' : Entry) (w : IsWrittenEntry s e e') → Tail (before_entry false) w.before
entry_tail s e e' w = tail_of (is_kept_format e.format || s.no_comments) (before_entry false) (entry_leading e.format) w.before w.kept

-- the text before an entry
gap_ends : {s : Settings} {old t gap : Text} → IsGap s old t gap → Tail (before_entry false) t → (r : Text) → ValueEnd true (gap ++ r)
gap_ends {t = t} IsGap.laid a r = rw (append_assoc t (32 ∷ []) r) (tail_ends a (32 ∷ r) (space_ends r))
gap_ends (IsGap.continued c) a r = continued_ends c r

gap_leads : {s : Settings} {old t gap : Text} → IsGap s old t gap → Tail (before_entry false) t → (r : Text) → EntryLeading (gap ++ r) r
gap_leads {t = t} IsGap.laid a r = rw (append_assoc t (32 ∷ []) r) (tail_spaced (before_entry false) a r)
gap_leads (IsGap.continued c) a r = continued_leads c r

pub entry_ends : (s : Settings) (e e' : Entry) (w : IsWrittenEntry s e e') (r : Text) → ValueEnd true (w.form.gap ++ r)
entry_ends s e e' w r = gap_ends w.form.is_gap (entry_tail s e e' w) r

pub entry_leads : (s : Settings) (e e' : Entry) (w : IsWrittenEntry s e e') (r : Text) → EntryLeading (w.form.gap ++ r) r
entry_leads s e e' w r = gap_leads w.form.is_gap (entry_tail s e e' w) r

-- an entry reads back, and so does what it keeps of its form
abbrev pub Stays : Settings → Entry → Type 0
Stays s e = EntryReads e × KeepsReading s e

-- an entry that keeps no form
pub written_reads : (s : Settings) (e e' : Entry) → IsWrittenEntry s e e' → EntryReads e'
written_reads s e e' w = record {
  begins = λ r. rw (w.form.prints.front e' refl r) (entry_ends s e e' w _);
  front = λ {r} p d. rw (w.form.prints.front e' refl r) (first_entry (entry_leads s e e' w _) (item_reads e'.name e'.ty w.form.inside w.name w.ty w.form.is_inside p) d);
  value = λ {r} x. rw (w.form.prints.value e' refl refl) (value_before e'.value w.form.word r w.form.spelled x);
  trailing = w.form.prints.trailing;
}

-- the flag is set
flagged_reads : (keep : Bool) (e : Entry) → EntryReads e → EntryReads (with_keep_if keep e)
flagged_reads false e h = h
flagged_reads true e h = go e.format h
  where
    go : (o : Option EntryFormat) → EntryReads (record e { format = o }) → EntryReads (record e { format = option_map with_keep o })
    go None h = h
    go (Some f) h = record { begins = λ r. h.begins r; front = λ p d. h.front p d; value = λ x. h.value x; trailing = h.trailing }

flagged_again : (keep : Bool) (e : Entry) → with_keep_if keep (with_keep_if keep e) ≡ with_keep_if keep e
flagged_again false e = refl
flagged_again true e = ap (λ (o : Option EntryFormat). record e { format = o }) (go e.format)
  where
    go : (o : Option EntryFormat) → option_map with_keep (option_map with_keep o) ≡ option_map with_keep o
    go None = refl
    go (Some f) = refl

pub flagged_stays : (s : Settings) (e : Entry) → Stays s e → Stays s (with_keep_if s.entry_autoformate_keep e)
flagged_stays s e h =
    (flagged_reads s.entry_autoformate_keep e h.0, λ k. let same = flagged_again s.entry_autoformate_keep e in rw same (h.1 (rw same at k)))

-- an entry that keeps its form keeps it again
flag_written : (b c : Bool) (q t : Text) → b ≡ true → WrittenUnless (b || c) (PlaceItems (before_entry false) q) tail t → t ≡ []
flag_written true c q t h k = k
flag_written false c q t h k = absurd cc

kept_formed : (e : Entry) (o : Option EntryFormat) → EntryReads (autoformatted (record e { format = option_map with_keep o })) → is_kept_format (option_map with_keep o) ≡ true
    → EntryReads (autoformatted (with_keep_if true (autoformatted (record e { format = option_map with_keep o }))))
kept_formed e None x h = absurd cc
kept_formed e (Some f) x h = rw (unspelled_twice e.ty, unspelled_twice e.name) x

after_keeps : (keep out : Bool) (e e' : Entry) (t : Text)
    → WrittenUnless (is_kept_format (with_keep_if keep e).format || out) (PlaceItems (before_entry false) (entry_leading (with_keep_if keep e).format)) tail t
    → e' ≡ following t (autoformatted (with_keep_if keep e)) → is_kept_format e'.format ≡ false
    → (is_kept_format (with_keep_if keep e).format ≡ true → EntryReads (autoformatted (with_keep_if keep e)))
    → is_kept_format (with_keep_if keep e').format ≡ true → EntryReads (autoformatted (with_keep_if keep e'))
after_keeps false out e e' t k q m h y = absurd cc
after_keeps true out e e' t k q m h y = go e.format k q h
  where
    go : (o : Option EntryFormat)
        → WrittenUnless (is_kept_format (option_map with_keep o) || out) (PlaceItems (before_entry false) (entry_leading (option_map with_keep o))) tail t
        → e' ≡ following t (autoformatted (record e { format = option_map with_keep o }))
        → (is_kept_format (option_map with_keep o) ≡ true → EntryReads (autoformatted (record e { format = option_map with_keep o })))
        → EntryReads (autoformatted (with_keep_if true e'))
    go None k q h =
        let same = q ∙ ap (λ (x : Text). following x (autoformatted (record e { format = None }))) (none_before out t k) in
        let none : e'.format ≡ None = ap (λ (x : Entry). x.format) same in
        let bad : is_kept_format (option_map with_keep None) ≡ true = subst (λ (o : Option EntryFormat). is_kept_format (option_map with_keep o) ≡ true) none y in
        absurd cc
    go (Some f) k q h =
        let same = q ∙ ap (λ (x : Text). following x (autoformatted (record e { format = Some (with_keep f) }))) k in
        subst (λ (x : Entry). EntryReads (autoformatted (with_keep_if true x))) (sym same) (kept_formed e (Some f) (h refl) refl)

-- an entry that keeps its form, and has no text kept before it
kept_reads : (b : Bool) → b ≡ true → (s : Settings) (e m : Entry) → is_kept_format (with_keep_if s.entry_autoformate_keep e).format ≡ b → IsFormattedEntry s e m → KeepsReading s e → EntryReads m
kept_reads b x s e m y (t, k, q) h =
    let f = with_keep_if s.entry_autoformate_keep e in
    let none = flag_written (is_kept_format f.format) s.no_comments (entry_leading f.format) t (y ∙ x) k in
    subst EntryReads (sym (q ∙ ap (λ (z : Text). following z (autoformatted f)) none)) (h (y ∙ x))

-- an entry that is laid out without its spelling
plain_stays : (s : Settings) (e m : Entry) → IsFormattedEntry s e m → IsWellFormedEntry (entry_data e) → Stays s e → Stays s m
plain_stays s e m f w h = (
  go (is_kept_format (with_keep_if s.entry_autoformate_keep e).format) refl,
  after_keeps s.entry_autoformate_keep s.no_comments e m f.0 f.1 f.2 (entry_keeps_none s e m f) h.1,
)
  where
    go : (b : Bool) → is_kept_format (with_keep_if s.entry_autoformate_keep e).format ≡ b → EntryReads m
    go true y = kept_reads true refl s e m y f h.1
    go false y = written_reads s e m (written_entry s Config.nothing e m m f refl y w)

-- an entry that has its spellings back is not flagged by the next layout either, unless it keeps its form
still_none : (o : Option EntryFormat) → is_kept_format (option_map with_keep o) ≡ false → o ≡ None
still_none None h = refl
still_none (Some f) h = absurd cc

formless_left : (keep : Bool) (s : Settings) (e : Entry) (o p q : Option EntryFormat) → o ≡ None → p ≡ None → KeptForm keep s e o p q → q ≡ None
formless_left keep s e _ p _ x h (KeptForm.kept y d k) = absurd cc
formless_left keep s e _ p _ x h (KeptForm.bare n k) = h
formless_left keep s e _ p _ x h (KeptForm.other n k w) = absurd cc
formless_left keep s e _ p _ x h KeptForm.formless = h

spelled_unflagged : (keep : Bool) (s : Settings) (b out : Bool) (e m e' : Entry) (t : Text)
    → WrittenUnless (is_kept_format (with_keep_if b e).format || out) (PlaceItems (before_entry false) (entry_leading (with_keep_if b e).format)) tail t
    → m ≡ following t (autoformatted (with_keep_if b e)) → is_kept_format (with_keep_if b e).format ≡ false → HasSpellings keep s e m e' → is_kept_format e'.format ≡ false → is_kept_format (with_keep_if b e').format ≡ false
spelled_unflagged keep s false out e m e' t k q n h left = left
spelled_unflagged keep s true out e m e' t k q n h left =
    let none = still_none e.format n in
    let k' = subst (λ (o : Option EntryFormat). WrittenUnless (is_kept_format (option_map with_keep o) || out) (PlaceItems (before_entry false) (entry_leading (option_map with_keep o))) tail t) none k in
    let empty = none_before out t k' in
    let q' = q ∙ ap (λ (o : Option EntryFormat). following t (autoformatted (record e { format = option_map with_keep o }))) none ∙ ap (λ (u : Text). following u (autoformatted (record e { format = None }))) empty in
    let formless = formless_left keep s e e.format m.format e'.format none (ap (λ (x : Entry). x.format) q') h.format in
    ap (λ (o : Option EntryFormat). is_kept_format (option_map with_keep o)) formless

clash : (b : Bool) → b ≡ false → b ≡ true → ⊥
clash b x y = let z = sym x ∙ y in cc

-- an entry that is laid out
pub laid_stays : (keep : Keeping) (s : Settings) (e e' : Entry) → IsSpelledEntry keep s e e' → IsWellFormedEntry (entry_data e) → Stays s e → Stays s e'
laid_stays keep s e e' (m, f, r) w h = choose (keeps_texts keep) r
  where
    go : (b : Bool) → is_kept_format (with_keep_if s.entry_autoformate_keep e).format ≡ b → HasSpellingsUnless b keep.spelling s e m e' → Stays s e'
    go true y x = subst (Stays s) (sym x) (plain_stays s e m f w h)
    go false y x =
        let k = written_entry s keep e m e' f r y w in
        let u = spelled_unflagged keep.spelling s s.entry_autoformate_keep s.no_comments e m e' f.0 f.1 f.2 y x k.form.prints.unflagged in
        (written_reads s e e' k, λ z. absurd (clash _ u z))

    choose : (b : Bool) → HasSpellingsIf b keep.spelling s e m e' → Stays s e'
    choose false x = subst (Stays s) (sym x) (plain_stays s e m f w h)
    choose true x = go (is_kept_format (with_keep_if s.entry_autoformate_keep e).format) refl x

-- entries, one by one
pub all_stay : (s : Settings) (es : List Entry) → All EntryReads es → EntriesKeepReading s es → Each (Stays s) es
all_stay s [] a k = tt
all_stay s (e ∷ es) a k = ((a zero e (omega arith), k.0), all_stay s es (λ i d h. a (suc i) d (omega arith)) k.1)

stay_reads : (s : Settings) (es : List Entry) → Each (Stays s) es → All EntryReads es
stay_reads s [] a = All-nil EntryReads
stay_reads s (e ∷ es) a = All-cons EntryReads e es a.0.0 (stay_reads s es a.1)

stay_keeps : (s : Settings) (es : List Entry) → Each (Stays s) es → EntriesKeepReading s es
stay_keeps s [] a = tt
stay_keeps s (e ∷ es) a = (a.0.1, stay_keeps s es a.1)

pub each_stays : (s : Settings) (es : List Entry) → Each (Stays s) es → All EntryReads es × EntriesKeepReading s es
each_stays s es a = (stay_reads s es a, stay_keeps s es a)
