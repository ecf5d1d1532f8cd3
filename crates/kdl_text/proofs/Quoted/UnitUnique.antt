-- Units of quoted strings: a text begins with one at most.
use Rattle.std.proofs.Common.{◌≡◌, ℕ, ◌<◌, ◌≤◌, Bool, true, false, ◌==◌, List, [], ◌∷◌, ◌++◌, length, refl, sym, ap, ◌∙◌, subst, arith, length-append}
use Rattle.std.proofs.lemmas.Bool.{and_parts, false≢true}
use Rattle.std.proofs.lemmas.Bool.Decides.{nat_tests}
use Rattle.std.specs.List.{list_all}
use Rattle.std.specs.Prelude.{Some}
use Rattle.std.specs.Str.Parse.{digits_value}
use Rattle.kdl_text.specs.Chars.{Text, is_space, is_newline_char, is_literal, starts}
use Rattle.kdl_text.specs.Strings.{StringUnit, escape, unit_value, values, is_escaped_space, is_hex, letter_escape, HexNumber, Run, IsUnit, one_literal, one_letter, one_number, one_gap, AreUnits, none, more, QuotedBody, body, QuotedString, quoted}
use Rattle.kdl_text.specs.Internal.Reading.{Goes}
use Rattle.kdl_text.proofs.Looking.ValueGoes.{goes_start, goes_then, goes_end}

-- runs of a class from one place are the same
pub run_same : (p : ℕ → Bool) (xs ys r s : Text) → list_all p xs ≡ true → list_all p ys ≡ true → starts p r ≡ false → starts p s ≡ false
    → xs ++ r ≡ ys ++ s → (xs ≡ ys) × (r ≡ s)
run_same p [] [] r s a b c d e = (refl, e)
run_same p [] (y ∷ ys) r s a b c d e = absurd (false≢true (sym c ∙ ap (starts p) e ∙ (and_parts (p y) (list_all p ys) b).0))
run_same p (x ∷ xs) [] r s a b c d e = absurd (false≢true (sym d ∙ ap (starts p) (sym e) ∙ (and_parts (p x) (list_all p xs) a).0))
run_same p (x ∷ xs) (y ∷ ys) r s a b c d e =
    let same : x ≡ y = cc in
    let rest : xs ++ r ≡ ys ++ s = cc in
    let (tails, ends) = run_same p xs ys r s (and_parts (p x) _ a).1 (and_parts (p y) _ b).1 c d rest in
    (cc, ends)

pub run_det : {p : ℕ → Bool} {t r s : Text} → Run p t r → Run p t s → r ≡ s
run_det {p = p} {r = r} {s = s} a b = (run_same p a.run b.run r s a.all b.all a.stops b.stops (sym a.text ∙ b.text)).1

pub number_det : {t r s : Text} {c d : ℕ} → HexNumber t r c → HexNumber t s d → (c ≡ d) × (r ≡ s)
number_det {r = r} {s = s} a b =
    let (same, ends) = run_same is_hex a.digits b.digits (125 ∷ r) (125 ∷ s) a.all b.all refl refl (sym a.text ∙ b.text) in
    (a.value ∙ ap (digits_value 16) same ∙ sym b.value, cc)

pub backslash : is_literal 92 ≡ false
unfolding is_literal
backslash = refl

quote : is_literal 34 ≡ false
unfolding is_literal
quote = refl

pub blank_u : is_escaped_space 117 ≡ false
unfolding is_space is_newline_char
blank_u = refl

letter_not_blank : (e c : ℕ) → letter_escape e ≡ Some c → is_escaped_space e ≡ false
unfolding is_space is_newline_char
letter_not_blank e c is = grind (arith, nat_tests)

pub unit_det : {t r s : Text} {u w : StringUnit} → IsUnit t r u → IsUnit t s w → (u ≡ w) × (r ≡ s)
unit_det (one_literal x) (one_literal y) = (refl, refl)
unit_det (one_literal x) (one_letter y) = let k = backslash in cc
unit_det (one_literal x) (one_number y) = let k = backslash in cc
unit_det (one_literal x) (one_gap y z) = let k = backslash in cc
unit_det (one_letter x) (one_literal y) = let k = backslash in cc
unit_det (one_letter x) (one_letter y) = (cc, refl)
unit_det (one_letter x) (one_number y) = cc
unit_det (one_letter x) (one_gap y z) = absurd (false≢true (sym (letter_not_blank _ _ x) ∙ y))
unit_det (one_number x) (one_literal y) = let k = backslash in cc
unit_det (one_number x) (one_letter y) = cc
unit_det (one_number x) (one_number y) = let (same, ends) = number_det x y in (ap escape same, ends)
unit_det (one_number x) (one_gap y z) = let k = blank_u in cc
unit_det (one_gap x y) (one_literal z) = let k = backslash in cc
unit_det (one_gap x y) (one_letter z) = absurd (false≢true (sym (letter_not_blank _ _ z) ∙ x))
unit_det (one_gap x y) (one_number z) = let k = blank_u in cc
unit_det (one_gap x y) (one_gap z w) = (refl, run_det y w)

-- no unit begins with a quote
pub unit_no_quote : {t r : Text} {u : StringUnit} → IsUnit (34 ∷ t) r u → ⊥
unit_no_quote (one_literal x) = let k = quote in cc

-- what begins with no literal character and no backslash begins with no unit
pub unit_front : {c : ℕ} {t r : Text} {u : StringUnit} → is_literal c ≡ false → (c ≡ 92 → ⊥) → IsUnit (c ∷ t) r u → ⊥
unit_front h k (one_literal x) = cc
unit_front h k (one_letter x) = k refl
unit_front h k (one_number x) = k refl
unit_front h k (one_gap x y) = k refl

pub unit_shorter : {t r : Text} {u : StringUnit} → IsUnit t r u → length r < length t
unit_shorter (one_literal x) = omega arith
unit_shorter (one_letter x) = omega arith
unit_shorter {r = r} (one_number x) = omega (arith, ap length x.text, length-append x.digits (125 ∷ r))
unit_shorter {r = r} (one_gap x y) = omega (arith, ap length y.text, length-append y.run r)

body_back : {t m r w : Text} {u : StringUnit} → IsUnit t m u → QuotedBody t r w → (v : Text) × (w ≡ unit_value u ++ v) × QuotedBody m r v
body_back j (body none e) = absurd (unit_no_quote j)
body_back {r = r} j (body {us = x ∷ us} (more k ks) e) =
    let (same, ends) = unit_det j k in
    (values us, e ∙ ap (λ z. unit_value z ++ values us) (sym same), body (subst (λ z. AreUnits z (34 ∷ r) us) (sym ends) ks) refl)

body_on : {t m r v : Text} {u : StringUnit} → IsUnit t m u → QuotedBody m r v → QuotedBody t r (unit_value u ++ v)
body_on {u = u} i (body us e) = body (more i us) (ap (λ z. unit_value u ++ z) e)

-- after a unit a body goes on
pub goes_unit : {t m : Text} {u : StringUnit} → IsUnit t m u → Goes QuotedBody t (unit_value u) m
goes_unit i = record { on = λ r v. body_on i; back = λ r w. body_back i }

pub goes_literals : (run r : Text) → list_all is_literal run ≡ true → Goes QuotedBody (run ++ r) run r
goes_literals [] r h = goes_start QuotedBody r
goes_literals (c ∷ run) r h = let (here, tail) = and_parts (is_literal c) (list_all is_literal run) h in goes_then (goes_unit (one_literal here)) (goes_literals run r tail)

-- the quote ends the body
pub body_done : (t : Text) → QuotedBody (34 ∷ t) t []
body_done t = body none refl

pub body_end : {t r v : Text} → QuotedBody (34 ∷ t) r v → (r ≡ t) × (v ≡ [])
body_end (body none e) = (refl, e)
body_end (body (more u us) e) = absurd (unit_no_quote u)

pub body_empty : {r v : Text} → QuotedBody [] r v → ⊥
body_empty (body (more u us) e) = elim u [ ]

pub body_unit : {t r v : Text} → QuotedBody (92 ∷ t) r v → (m : Text) × (u : StringUnit) × IsUnit (92 ∷ t) m u
body_unit (body (more u us) e) = (_, _, u)

-- where there is neither a quote nor a unit
pub body_none : {c : ℕ} {t r v : Text} → (c ≡ 34 → ⊥) → ((m : Text) (u : StringUnit) → IsUnit (c ∷ t) m u → ⊥) → QuotedBody (c ∷ t) r v → ⊥
body_none h k (body none e) = h refl
body_none h k (body (more u us) e) = k _ _ u

goes_units : {t r : Text} {us : List StringUnit} → AreUnits t r us → Goes QuotedBody t (values us) r
goes_units none = goes_start QuotedBody _
goes_units (more i is) = goes_then (goes_unit i) (goes_units is)

pub body_det : {t r s v w : Text} → QuotedBody t r v → QuotedBody t s w → (r ≡ s) × (v ≡ w)
body_det (body us e) y = let (ends, same) = (goes_end (goes_units us) (body_done _) (λ r v. body_end)).1 _ _ y in (sym ends, e ∙ sym same)

units_shorter : {t r : Text} {us : List StringUnit} → AreUnits t r us → length r ≤ length t
units_shorter none = omega arith
units_shorter (more u us) = omega (arith, unit_shorter u, units_shorter us)

-- a text begins with one quoted string at most
pub quoted_det : {t r s v w : Text} → QuotedString t r v → QuotedString t s w → (r ≡ s) × (v ≡ w)
quoted_det (quoted x) (quoted y) = body_det x y

-- a quoted string begins with a quote
pub quoted_begins : {t r v : Text} → QuotedString t r v → starts (λ c. c == 34) t ≡ true
quoted_begins (quoted x) = refl

pub quoted_shorter : {t r v : Text} → QuotedString t r v → length r < length t
quoted_shorter (quoted (body us e)) = omega (arith, units_shorter us)
