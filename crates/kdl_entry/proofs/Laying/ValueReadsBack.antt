-- A printed value is read back, before every text with a value end.
use Rattle.std.proofs.Common.{◌≡◌, ℕ, true, false, ◌||◌, ◌==◌, [], ◌∷◌, ◌++◌, refl, sym, subst, arith, append_assoc, append-nil, inl, inr}
use Rattle.std.proofs.lemmas.Bool.{cases_Bool, and_parts}
use Rattle.std.proofs.lemmas.Bool.Decides.{nat_tests}
use Rattle.std.specs.List.{list_all}
use Rattle.kdl_text.specs.Bare.{is_bare, bare as bare_text}
use Rattle.kdl_text.specs.Chars.{Text, begins_with, starts, is_scalar, is_identifier_char, is_space, is_newline_char, is_banned, is_punctuation}
use Rattle.kdl_text.specs.MultiLine.{IsQuoted}
use Rattle.kdl_text.specs.Numbers.{FloatText, is_whole, is_decimal, keyword as is_keyword, keyword_text}
use Rattle.kdl_text.specs.Trivia.{ValueEnd}
use Rattle.kdl_text.specs.declared.numbers.Keyword.{Keyword}
use Rattle.kdl_text.specs.declared.numbers.Keyword.TheVariants.{True, False, Null, Infinity, NegativeInfinity, NotANumber}
use Rattle.kdl_text.proofs.Quoted.BareReads.{bare_begins}
use Rattle.kdl_text.proofs.Spacing.ValueEnds.{value_end_no_identifier}
use Rattle.kdl_value.specs.Data.{Value, text, integer, float, truth, null}
use Rattle.kdl_syntax.specs.Pieces.{StringPiece, bare, quoted, PlainPiece, number, keyword, keyword_value}
use Rattle.kdl_entry.specs.Entries.{IsString, string, IsPlainValue, a_string, a_plain}
use Rattle.kdl_value.specs.WellFormed.{IsWellFormed}
use Rattle.kdl_value.specs.Print.{print_value}
use Rattle.kdl_value.specs.Spelled.{char_text, escape_letter, escaped_text, prints_bare, spelled, StandsFor}
use Rattle.kdl_value.proofs.Spelling.NumberReadsBack.{printed_number}
use Rattle.kdl_syntax.proofs.Moving.PieceMoves.{move_plain_piece}
use Rattle.kdl_syntax.proofs.Moving.Puts.{same_piece}
use Rattle.kdl_value.proofs.Spelling.StringReadsBack.{spelled_alone}
use Rattle.kdl_syntax.proofs.Moving.StringMoves.{move_piece, value_end_no_quote}

no_quote : (c : ℕ) → is_identifier_char c ≡ true → (c == 34) ≡ false
unfolding is_identifier_char is_space is_newline_char is_banned is_punctuation
no_quote c h = grind (arith, nat_tests)

no_front : (s : Text) → starts is_identifier_char s ≡ true → begins_with (34 ∷ 34 ∷ 34 ∷ []) s ≡ false
no_front [] h = refl
no_front (c ∷ s) h = rw (no_quote c h) refl

letter_no_quote : (c : ℕ) → (escape_letter c == 0) ≡ true → (c == 34) ≡ false
letter_no_quote c h = grind (arith, nat_tests)

-- what is written for a character begins with no quote
char_front : (c : ℕ) (s : Text) → begins_with (34 ∷ 34 ∷ []) (char_text c ++ s) ≡ false
unfolding char_text
char_front c s =
    elim (cases_Bool (escape_letter c == 0)) [
      | inr letter ↦ rw letter refl
      | inl without ↦ elim (cases_Bool (is_newline_char c || is_banned c)) [
        | inl coded ↦ rw (without, coded) refl
        | inr other ↦ rw (without, other, letter_no_quote c without) refl
      ]
    ]

body_front : (s : Text) → begins_with (34 ∷ 34 ∷ []) (escaped_text s ++ (34 ∷ [])) ≡ false
body_front [] = refl
body_front (c ∷ s) = rw append_assoc (char_front c (escaped_text s ++ (34 ∷ [])))

-- three quotes begin no printed string
one_line : (s : Text) → list_all is_scalar s ≡ true → begins_with (34 ∷ 34 ∷ 34 ∷ []) (spelled s) ≡ false
unfolding spelled
one_line s ok =
    elim (cases_Bool (prints_bare s)) [
      | inl is ↦ rw is (no_front s (bare_begins (bare_text {w = s} (sym (append-nil s)) (and_parts (is_bare s) _ is).0 refl)))
      | inr other ↦ rw other (body_front s)
    ]

spelled_piece : (s : Text) → list_all is_scalar s ≡ true → StringPiece (spelled s) [] s
spelled_piece s ok = go (spelled s) (one_line s ok) (spelled_alone s ok)
  where
    go : (t : Text) → begins_with (34 ∷ 34 ∷ 34 ∷ []) t ≡ false → StandsFor t [] s → StringPiece t [] s
    go t h (inl b) = bare b
    go t h (inr q) = quoted (IsQuoted.on_one_line h q)

-- a printed string
pub printed_string : (s u : Text) → list_all is_scalar s ≡ true → ValueEnd true u → IsString true (spelled s ++ u) u s
printed_string s u ok e =
    let m = move_piece (spelled_piece s ok) in
    let p = m.there u (value_end_no_identifier e) (value_end_no_quote e) in
    string (subst (λ (t : Text). StringPiece t u s) (same_piece (spelled s) m.at (sym (append-nil (spelled s))) u) p) e

-- a number or a keyword that is the whole text comes before such a text too
moved : (t u : Text) (v : Value) → PlainPiece t [] v → ValueEnd true u → PlainPiece (t ++ u) u v
moved t u v p e =
    let m = move_plain_piece p in
    subst (λ (s : Text). PlainPiece s u v) (same_piece t m.at (sym (append-nil t)) u) (m.there u (value_end_no_identifier e))

word : (k : Keyword) (u : Text) → ValueEnd true u → PlainPiece (keyword_text k ++ u) u (keyword_value k)
word k u e = keyword (is_keyword refl (value_end_no_identifier e)) refl

float_word : (k : Keyword) (s u : Text) → s ≡ keyword_text k → keyword_value k ≡ float (keyword_text k) → ValueEnd true u → PlainPiece (s ++ u) u (float s)
float_word k s u h v e = rw h (subst (PlainPiece (keyword_text k ++ u) u) v (word k u e))

float_piece : (s u : Text) → FloatText s → ValueEnd true u → PlainPiece (s ++ u) u (float s)
float_piece s u (inl d) e = moved s u (float s) (number (is_decimal d) refl) e
float_piece s u (inr (inl h)) e = float_word Infinity s u h refl e
float_piece s u (inr (inr (inl h))) e = float_word NegativeInfinity s u h refl e
float_piece s u (inr (inr (inr h))) e = float_word NotANumber s u h refl e

-- a printed value
pub printed_value : (v : Value) (u : Text) → IsWellFormed v → ValueEnd true u → IsPlainValue true (print_value v ++ u) u v
printed_value (text s) u ok e = a_string (printed_string s u ok e)
printed_value (integer z) u ok e = a_plain (number (is_whole (printed_number u (value_end_no_identifier e) z ok)) refl) e
printed_value (float s) u ok e = a_plain (float_piece s u ok e) e
printed_value (truth true) u ok e = a_plain (word True u e) e
printed_value (truth false) u ok e = a_plain (word False u e) e
printed_value null u ok e = a_plain (word Null u e) e
