-- What the definitions of reports do not allow: for each of them something that is no instance.
use Rattle.std.proofs.Common.{◌≡◌, ℕ, Bool, true, false, List, [], ◌∷◌, ap, get_or, length, None, arith}
use Rattle.std.specs.List.{list_any}
use Rattle.std.specs.Str.{chars}
use Rattle.kdl_text.specs.Chars.{Text, is_newline_char}
use Rattle.kdl_text.specs.declared.span.Severity.TheVariants.{Advice, Warning, Error}
use Rattle.kdl_report.specs.Picture.{gap, labelled, note, paint, spaced, style_of}
use Rattle.kdl_report.specs.Places.{IsLine, before, between, first_line, from, last_line, line_number}
use Rattle.kdl_report.specs.Rows.{first_row, has_last_row}
use Rattle.kdl_report.specs.Said.{word_of}

-- the text before a byte ends neither inside a CR LF nor inside a character, and the rest begins in neither
pub no_half : before 1 (13 ∷ 10 ∷ []) ≡ 13 ∷ [] → ⊥
unfolding is_newline_char
no_half e = cc e

pub no_tail : from 1 (233 ∷ 97 ∷ []) ≡ 97 ∷ [] → ⊥
no_tail e = cc e

-- a text ends at its second byte
pub no_more : between 0 1 (97 ∷ 98 ∷ []) ≡ 97 ∷ 98 ∷ [] → ⊥
no_more e = cc e

-- a line goes past no newline
pub no_line_before : last_line (97 ∷ 10 ∷ 98 ∷ []) ≡ 97 ∷ 10 ∷ 98 ∷ [] → ⊥
unfolding is_newline_char
no_line_before e = cc e

pub no_line_after : first_line (97 ∷ 10 ∷ 98 ∷ []) ≡ 97 ∷ 10 ∷ 98 ∷ [] → ⊥
unfolding is_newline_char
no_line_after e = cc e

pub no_two_lines : (t piece : Text) (n : ℕ) → list_any is_newline_char piece ≡ true → IsLine t piece n → ⊥
no_two_lines t piece n e is = cc (e, is.single)

-- the byte after a newline is in the second line
pub no_first_line : line_number 2 (97 ∷ 10 ∷ 98 ∷ []) ≡ 1 → ⊥
unfolding is_newline_char
no_first_line e = omega (arith, e)

-- the mark in the first line stops at its end
pub no_mark_beyond : (first_row (record { offset = 0; len = 3 }) (97 ∷ 10 ∷ 98 ∷ [])).marked ≡ 97 ∷ 10 ∷ 98 ∷ [] → ⊥
unfolding is_newline_char
no_mark_beyond e = cc e

-- a line in which nothing is marked is not shown
pub no_empty_row : has_last_row (record { offset = 0; len = 2 }) (97 ∷ 10 ∷ 98 ∷ []) ≡ true → ⊥
unfolding is_newline_char
no_empty_row e = cc e

-- without colours there is no escape, and an error has the style of no warning
pub no_escape : paint false (27 ∷ []) ≡ 27 ∷ [] → ⊥
no_escape e = cc e

pub no_same_style : style_of Error ≡ style_of Warning → ⊥
no_same_style e = absurd (omega (arith, ap (λ (s : List ℕ). get_or s 5 0) e))

pub no_same_word : word_of Error ≡ word_of Advice → ⊥
unfolding chars
no_same_word e = absurd (omega (arith, ap (λ (s : Text). length s) e))

-- nothing is written for no text
pub no_space : spaced [] ≡ 32 ∷ [] → ⊥
no_space e = cc e

pub no_colon : labelled None ≡ 58 ∷ [] → ⊥
no_colon e = cc e

pub no_note : (color : Bool) (w : ℕ) (kind : List ℕ) → note color w kind None ≡ 10 ∷ [] → ⊥
no_note color w kind e = cc e

-- no gap is shown between two lines that follow each other
pub no_gap : (line left marked line' left' marked' : Text) → gap (record { number = 1; line = line; left = left; marked = marked }) (record { number = 2; line = line'; left = left'; marked = marked' }) ≡ 46 ∷ [] → ⊥
no_gap line left marked line' left' marked' e = cc e
