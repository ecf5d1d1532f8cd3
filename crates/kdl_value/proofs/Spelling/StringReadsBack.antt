-- The printed spelling represents the string.
use Rattle.std.proofs.Common.{◌≡◌, ℕ, zero, suc, ◌+◌, ◌<◌, ◌≤◌, ◌/◌, ◌%◌, ◌^◌, true, false, ◌||◌, ◌==◌, List, [], ◌∷◌, ◌++◌, length, refl, sym, subst, inl, inr, arith, append_assoc, append-nil, eq-eqb, ne_eqb}
use Rattle.std.specs.Prelude.{Some}
use Rattle.std.proofs.lemmas.Bool.{cases_Bool, cases_eq, and_parts}
use Rattle.std.proofs.lemmas.Bool.Decides.{nat_tests}
use Rattle.std.specs.List.{list_all}
use Rattle.std.specs.Fmt.{digits, digits_onto, digit_glyph}
use Rattle.std.proofs.Math.Nat.{pow-succ'}
use Rattle.std.specs.Str.Parse.{AllDigits}
use Rattle.std.proofs.lemmas.Fmt.{digits_is_IsNumeral}
use Rattle.kdl_text.specs.Chars.{Text, is_banned, is_newline_char, is_literal, is_scalar}
use Rattle.kdl_text.specs.Strings.{StringUnit, literal, escape, unit_value, values, letter_escape, is_hex, HexNumber, IsUnit, one_literal, one_letter, one_number, AreUnits, none, more, body, quoted}
use Rattle.kdl_text.specs.Bare.{bare, is_bare}
use Rattle.kdl_value.specs.Spelled.{escape_letter, char_text, escaped_text, prints_bare, spelled, StandsFor, SpelledReadsBack, SpelledReadsBackBefore}

-- the unit that is written for a character
record Written (c : ℕ) : Type 0 where
  unit : StringUnit
  value : unit_value unit ≡ c ∷ []
  reads : (r : Text) → IsUnit (char_text c ++ r) r unit

digits_test : (ds : Text) → AllDigits 16 ds → list_all is_hex ds ≡ true
digits_test [] h = refl
digits_test (d ∷ ds) h = rw (digits_test ds h.1) (grind (arith, nat_tests))

positive : (j m : ℕ) → m < 16 ^ j → (m ≡ 0 → ⊥) → 0 < j
positive zero m h ne = absurd (ne (omega arith))
positive (suc j) m h ne = omega arith

digits_short : (k j n : ℕ) (acc : Text) → n < 16 ^ j → 0 < j → length (digits_onto k 16 false n acc) ≤ j + length acc
digits_short zero j n acc small some = omega arith
digits_short (suc k) zero n acc small some = absurd (omega arith)
digits_short (suc k) (suc j) n acc small some =
    elim (cases_eq (n / 16) 0) [
      | inl last ↦ rw (eq-eqb _ _ last) (omega arith)
      | inr further ↦
          let front : n / 16 < 16 ^ j = omega (arith, pow-succ' 16 j) in
          let there : 0 < j = positive j (n / 16) front further in
          rw (ne_eqb _ _ further) (omega (arith, digits_short k j (n / 16) (digit_glyph false (n % 16) ∷ acc) front there))
    ]

short : (c : ℕ) → c < 65536 → length (digits 16 false c) ≤ 6
unfolding digits
short c small = omega (arith, digits_short 64 4 c [] small (omega arith))

-- the letter of a short escape represents its character
back : (c : ℕ) → (escape_letter c == 0) ≡ false → letter_escape (escape_letter c) ≡ Some c
back c h = grind (arith, nat_tests)

low : (c : ℕ) → (is_newline_char c || is_banned c) ≡ true → c < 65536
unfolding is_newline_char is_banned
low c h = grind (arith, nat_tests)

plain : (c : ℕ) → (escape_letter c == 0) ≡ true → (is_newline_char c || is_banned c) ≡ false → is_literal c ≡ true
unfolding is_literal
plain c h k = grind (arith, nat_tests)

-- the number of a character, in hexadecimal digits
coded_number : (c : ℕ) (r : Text) → is_scalar c ≡ true → c < 65536 → HexNumber ((digits 16 false c ++ (125 ∷ [])) ++ r) r c
coded_number c r ok small =
    let numeral = digits_is_IsNumeral 16 false (omega arith) (omega arith) c (omega arith) in
    record {
      digits = digits 16 false c;
      text = append_assoc (digits 16 false c) (125 ∷ []) r;
      all = digits_test _ numeral.0.1;
      some = numeral.0.0;
      few = short c small;
      value = sym numeral.1;
      scalar = ok;
    }

written : (c : ℕ) → is_scalar c ≡ true → Written c
unfolding char_text
written c ok =
    elim (cases_Bool (escape_letter c == 0)) [
      | inr letter ↦ record { unit = escape c; value = refl; reads = λ r. rw letter (one_letter (back c letter)) }
      | inl without ↦ elim (cases_Bool (is_newline_char c || is_banned c)) [
        | inl coded ↦ record { unit = escape c; value = refl; reads = λ r. rw (without, coded) (one_number (coded_number c r ok (low c coded))) }
        | inr other ↦ record { unit = literal c; value = refl; reads = λ r. rw (without, other) (one_literal (plain c without other)) }
      ]
    ]

-- the units that are written for a text
record WrittenAll (s : Text) : Type 0 where
  units : List StringUnit
  value : values units ≡ s
  reads : (r : Text) → AreUnits (escaped_text s ++ r) r units

written_all : (s : Text) → list_all is_scalar s ≡ true → WrittenAll s
written_all [] ok = record { units = []; value = refl; reads = λ r. none }
written_all (c ∷ s) ok =
    let (here, others) = and_parts (is_scalar c) (list_all is_scalar s) ok in
    let w = written c here in
    let ws = written_all s others in
    record {
      units = w.unit ∷ ws.units;
      value = rw (w.value, ws.value) refl;
      reads = λ r. rw (append_assoc (char_text c) (escaped_text s) r) (more (w.reads _) (ws.reads r));
    }

pub spelled_before : SpelledReadsBackBefore
unfolding spelled
spelled_before s r ok ends =
    elim (cases_Bool (prints_bare s)) [
      | inl is ↦ rw is (inl (bare refl (and_parts (is_bare s) _ is).0 ends))
      | inr other ↦
          let w = written_all s ok in
          let text : (escaped_text s ++ (34 ∷ [])) ++ r ≡ escaped_text s ++ (34 ∷ r) = append_assoc (escaped_text s) (34 ∷ []) r in
          rw (other, text) (inr (quoted (body (w.reads (34 ∷ r)) (sym w.value))))
    ]

pub spelled_alone : SpelledReadsBack
spelled_alone s ok = subst (λ t. StandsFor t [] s) (append-nil (spelled s)) (spelled_before s [] ok refl)
