-- Bare strings: a text begins with one at most, and the reader's cases.
use Rattle.std.proofs.Common.{◌≡◌, ℕ, ◌<◌, ◌==◌, true, false, [], ◌∷◌, ◌++◌, length, refl, sym, ap, ◌∙◌, arith, length-append, append-nil, ◌↔◌, IsTrue, Bool}
use Rattle.std.proofs.lemmas.Bool.{and_parts, false≢true}
use Rattle.std.proofs.lemmas.Bool.Decides.{nat_tests}
use Rattle.std.specs.Char.{is_ascii_alphabetic}
use Rattle.std.specs.List.{list_all}
use Rattle.std.specs.Prelude.{Some, not}
use Rattle.kdl_text.specs.Chars.{Text, is_identifier_char, is_space, is_newline_char, is_banned, is_punctuation, is_digit, is_sign, starts}
use Rattle.kdl_text.specs.Bare.{BareString, bare, is_bare, bare_form, is_excluded}
use Rattle.kdl_text.specs.Internal.Here.{Here, Looked, first}
use Rattle.kdl_text.specs.Spans.{bytes}
use Rattle.kdl_text.specs.Internal.Reading.{Costs}
use Rattle.kdl_text.specs.Strings.{Run}
use Rattle.kdl_text.proofs.Looking.MovesJoin.{bytes-append}
use Rattle.kdl_text.proofs.Looking.Runs.{length-bytes}
use Rattle.kdl_text.proofs.Looking.SliceCost.{all_of_run}
use Rattle.kdl_text.proofs.Quoted.UnitUnique.{run_same}

bare_parts : (w : Text) → is_bare w ≡ true → (list_all is_identifier_char w ≡ true) × (bare_form w ≡ true)
unfolding is_bare
bare_parts w h = and_parts (list_all is_identifier_char w) (bare_form w) h

bare_join : (w : Text) → list_all is_identifier_char w ≡ true → bare_form w ≡ true → is_bare w ≡ true
unfolding is_bare
bare_join w h k = rw (h, k) refl

-- a text begins with one bare string at most
pub bare_det : {t r s v w : Text} → BareString t r v → BareString t s w → (r ≡ s) × (v ≡ w)
bare_det {r = r} {s = s} {v = v} {w = w} (bare e h k) (bare f i l) =
    let (same, ends) = run_same is_identifier_char v w r s (bare_parts v h).0 (bare_parts w i).0 k l (sym e ∙ f) in (ends, same)

bare_front : (w r : Text) → list_all is_identifier_char w ≡ true → bare_form w ≡ true → starts is_identifier_char (w ++ r) ≡ true
bare_front [] r h k = cc
bare_front (c ∷ w) r h k = (and_parts (is_identifier_char c) _ h).0

-- a bare string begins with an identifier character
pub bare_begins : {t r w : Text} → BareString t r w → starts is_identifier_char t ≡ true
bare_begins {r = r} {w = w} (bare e h k) = let (all, form) = bare_parts w h in ap (starts is_identifier_char) e ∙ bare_front w r all form

some_form : (w : Text) → bare_form w ≡ true → 0 < length w
some_form [] h = cc
some_form (c ∷ w) h = omega arith

pub bare_shorter : {t r w : Text} → BareString t r w → length r < length t
bare_shorter {r = r} {w = w} (bare e h k) = omega (arith, some_form w (bare_parts w h).1, ap length e, length-append w r)

-- an ASCII letter is an identifier character, and begins no number
pub letter_word : (c : ℕ) → is_ascii_alphabetic c ≡ true → is_identifier_char c ≡ true
unfolding is_identifier_char is_space is_newline_char is_banned is_punctuation
letter_word c h = grind (arith, nat_tests)

pub letter_no_sign : (c : ℕ) → is_ascii_alphabetic c ≡ true → is_sign c ≡ false
letter_no_sign c h = grind (arith, nat_tests)

letter_no_point : (c : ℕ) → is_ascii_alphabetic c ≡ true → (c == 46) ≡ false
letter_no_point c h = grind (arith, nat_tests)

pub letter_no_digit : (c : ℕ) → is_ascii_alphabetic c ≡ true → is_digit c ≡ false
letter_no_digit c h = grind (arith, nat_tests)

pub letter_form : (c : ℕ) (x : Text) → first x ≡ Some c → is_ascii_alphabetic c ≡ true → bare_form x ≡ not (is_excluded x)
letter_form c [] h k = cc
letter_form c (d ∷ x) h k = let e : d ≡ c = cc in rw (e, letter_no_sign c k, letter_no_point c k, letter_no_digit c k) refl

-- a run of identifier characters begins with the letter that is there
pub letter_first : (x t r : Text) (c : ℕ) → Run is_identifier_char t r → t ≡ x ++ r → first t ≡ Some c → is_ascii_alphabetic c ≡ true → first x ≡ Some c
letter_first [] t [] c i e h k = let z = rw e at h in cc
letter_first [] t (d ∷ r) c i e h k =
    let z : d ≡ c = let y : Some d ≡ Some c = ap first (sym e) ∙ h in cc in
    absurd (false≢true (sym (rw z at i.stops) ∙ letter_word c k))
letter_first (d ∷ x) t r c i e h k = ap first (sym e) ∙ h

-- a run x of identifier characters
module _ (x t r : Text) (i : Run is_identifier_char t r) (e : t ≡ x ++ r) where
  pub past_found : bare_form x ≡ true → BareString t r x
  past_found v = bare e (bare_join x (all_of_run is_identifier_char x t r i e) v) i.stops

  pub past_only : (s w : Text) → BareString t s w → (s ≡ r) × (w ≡ x)
  past_only s w (bare f h k) =
      let (same, ends) = run_same is_identifier_char w x s r (bare_parts w h).0 (all_of_run is_identifier_char x t r i e) k i.stops (sym f ∙ e) in
      (ends, same)

  pub past_none : bare_form x ≡ false → (s w : Text) → BareString t s w → ⊥
  past_none v s w (bare f h k) =
      let (ends, same) = past_only s w (bare f h k) in
      false≢true (sym v ∙ ap bare_form (sym same) ∙ (bare_parts w h).1)

pub past_run : (t : Text) (e d : Here) → Run is_identifier_char t e.rest → Looked 3 e d → Run is_identifier_char t d.rest
past_run t e d r (n, few, s) = rw s.rest r

pub past_cost : (x : Text) (a e d : Here) → a.rest ≡ x ++ e.rest → bare_form x ≡ true → Costs 2 1 a e → Looked 3 e d → Costs 24 0 a d
past_cost x a e d t v k (m, few, s) =
    let n = some_form x v in
    record {
      most = omega (arith, n, k.most, few, s.steps, ap bytes s.rest, ap bytes t, bytes-append x e.rest, length-bytes x);
      least = omega (arith, k.least, s.steps, ap length s.rest);
    }

-- the whole text, and whether it is one
own_bare : (s : Text) → is_bare s ≡ true → BareString s [] s
own_bare s h = bare (sym (append-nil s)) h refl

pub bare_none : (s t : Text) → s ≡ t → ((r w : Text) → BareString s r w → ⊥) → false ≡ is_bare t
bare_none s t e n = rw (← e) (go (is_bare s) refl)
  where
    go : (b : Bool) → is_bare s ≡ b → false ≡ is_bare s
    go true h = absurd (n [] s (own_bare s h))
    go false h = sym h

pub bare_whole : (s t rest p : Text) (b : Bool) → s ≡ t → BareString s rest p → ((r w : Text) → BareString s r w → (r ≡ rest) × (w ≡ p)) → IsTrue b ↔ (rest ≡ []) → b ≡ is_bare t
bare_whole s t rest p true e (bare f h k) only end = let same : s ≡ p = f ∙ ap (λ z. p ++ z) (end.0 refl) ∙ append-nil p in rw (← e) (sym (ap is_bare same ∙ h))
bare_whole s t rest p false e x only end = rw (← e) (go (is_bare s) refl)
  where
    go : (b : Bool) → is_bare s ≡ b → false ≡ is_bare s
    go true h = absurd (false≢true (end.1 (sym (only [] s (own_bare s h)).0)))
    go false h = sym h
