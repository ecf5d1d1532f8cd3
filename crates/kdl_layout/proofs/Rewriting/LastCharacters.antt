-- No string, number, keyword, entry, block or block comment ends with CR.
use Rattle.kdl_layout.proofs.Common.{◌≡◌, ℕ, zero, suc, ◌≤◌, ◌<◌, Bool, true, false, ◌||◌, ◌==◌, List, [], ◌∷◌, ◌++◌, Option, Some, None, refl, sym, ap, ◌∙◌, append_assoc, arith, and_parts, nat_tests, list_all, if◌then◌else◌, Text, times, Parts, block, Ws, Keyword, True, Value, StringPiece, IsString, IsPlainValue, a_string, a_plain, IsValue, value, IsEntry, property, argument, end_spaces, end_type, Put, IsBlock, braces, move_nodes, is_identifier_char, is_space, is_newline_char, is_banned, is_punctuation, is_bare}
use Rattle.kdl_text.specs.Dedent.{LineUnit}
use Rattle.kdl_text.specs.Chars.{space as a_space}
use Rattle.kdl_text.specs.Bare.{BareString, bare as bare_text}
use Rattle.kdl_text.specs.MultiLine.{ContentUnit, Content, MultiLineBody, multi_line, IsQuoted}
use Rattle.kdl_text.specs.Numbers.{is_digit_of, base_of, base_prefix, BasePrefix, Digits, Integer, integer, whole, Fraction, Exponent, DecimalPart, part, decimal, IsNumber, is_whole, is_decimal, NumberValue, IsKeyword, keyword as a_keyword, keyword_text}
use Rattle.kdl_text.specs.Raw.{RawUnit, RawUnits, RawContent, content, MultiLineRawBody, IsRaw}
use Rattle.kdl_text.specs.Strings.{StringUnit, IsUnit, one_literal, one_letter, one_number, one_gap, AreUnits, body, quoted as quoted_text}
use Rattle.kdl_text.specs.Trivia.{close, nested}
use Rattle.kdl_text.specs.declared.numbers.Keyword.TheVariants.{False, Null, Infinity, NegativeInfinity, NotANumber}
use Rattle.kdl_text.proofs.Looking.Ends.{End, here, also, then as following, past, end_newline}
use Rattle.kdl_text.proofs.Spacing.SpacePieces.{parts_end}
use Rattle.kdl_entry.specs.Data.{Entry}
use Rattle.kdl_syntax.specs.Pieces.{bare, quoted, raw, number, keyword}
use Rattle.kdl_entry.specs.Entries.{string}
use Rattle.kdl_syntax.proofs.Lexing.TokenUnique.{end_of}
use Rattle.kdl_entry.proofs.Moving.EntryEnds.{end_string}
use Rattle.kdl_syntax.proofs.Moving.LeafEnds.{integer_end, base_end, sign_end}
use Rattle.kdl_grammar.specs.Data.{Nodes}

-- the character that is in s directly before r is not CR
pub record Last (s r : Text) : Type 0 where
  pub front : Text
  pub char : ℕ
  pub text : s ≡ front ++ (char ∷ r)
  pub other : (char == 13) ≡ false

pub last_here : (c : ℕ) → (c == 13) ≡ false → {r : Text} → Last (c ∷ r) r
last_here c h = record { front = []; char = c; text = refl; other = h }

pub last_after : {s t r : Text} → End s t → Last t r → Last s r
last_after {r = r} e l = record { front = e.piece ++ l.front; char = l.char; text = e.text ∙ ap (λ (u : Text). e.piece ++ u) l.text ∙ sym (append_assoc e.piece l.front (l.char ∷ r)); other = l.other }

pub last_also : (c : ℕ) {s r : Text} → Last s r → Last (c ∷ s) r
last_also c l = last_after (also c here) l

pub last_end : {s r : Text} → Last s r → End s r
last_end {r = r} l = record { piece = l.front ++ (l.char ∷ []); text = l.text ∙ sym (append_assoc l.front (l.char ∷ []) r) }

pub put_end : {s r : Text} → Put s r → End s r
put_end {r = r} p = record { piece = p.piece; text = p.here ∙ p.text r }

last_same : {s t r : Text} → s ≡ t → Last t r → Last s r
last_same e l = record { front = l.front; char = l.char; text = e ∙ l.text; other = l.other }

-- numbers
digit_other : (k c : ℕ) → k ≤ 36 → is_digit_of k c ≡ true → (c == 13) ≡ false
unfolding is_digit_of
digit_other k c b h = grind (arith, nat_tests)

module _ (k : ℕ) (small : k ≤ 36) where
  digits_last : (c : ℕ) → (c == 13) ≡ false → {s r w : Text} → Digits k s r w → Last (c ∷ s) r
  digits_last c h (Digits.stop x) = last_here c h
  digits_last c h (Digits.digit {c = d} x ds) = last_also c (digits_last d (digit_other k d small x) ds)
  digits_last c h (Digits.underscore ds) = last_also c (digits_last 95 refl ds)

  integer_last : {s r w : Text} → Integer k s r w → Last s r
  integer_last (integer {c = c} x d) = digits_last c (digit_other k c small x) d

base_small : (d k : ℕ) → base_of d ≡ Some k → k ≤ 36
base_small d k h = go (d == 120 || d == 88) (d == 111 || d == 79) (d == 98 || d == 66) h
  where
    go : (a b e : Bool) → (if a then Some 16 else if b then Some 8 else if e then Some 2 else None) ≡ Some k → k ≤ 36
    go true b e h = let f : 16 ≡ k = cc in omega (arith, f)
    go false true e h = let f : 8 ≡ k = cc in omega (arith, f)
    go false false true h = let f : 2 ≡ k = cc in omega (arith, f)
    go false false false h = cc

prefix_small : (c d k : ℕ) (s : Text) → base_prefix (c ∷ d ∷ s) ≡ Some k → k ≤ 36
prefix_small c d k s h = go (c == 48) h
  where
    go : (b : Bool) → (if b then base_of d else None) ≡ Some k → k ≤ 36
    go true h = base_small d k h
    go false h = cc

read_base_small : {s r : Text} {k : ℕ} → BasePrefix s r k → k ≤ 36
read_base_small (BasePrefix.ten x) = omega arith
read_base_small (BasePrefix.other {c = c} {d = d} {radix = k} {r = r} x) = prefix_small c d k r x

ten_last : {s r w : Text} → Integer 10 s r w → Last s r
ten_last i = integer_last 10 (omega arith) i

part_last : {s r : Text} → DecimalPart s r → Last s r
part_last (part (Fraction.none x) (Exponent.exponent {c = c} y g i) z e) = last_also c (last_after (sign_end g) (ten_last i))
part_last (part (Fraction.fraction i) (Exponent.none y) z e) = last_also 46 (ten_last i)
part_last (part (Fraction.fraction i) (Exponent.exponent {c = c} y g j) z e) = last_also 46 (last_after (integer_end i) (last_also c (last_after (sign_end g) (ten_last j))))
part_last (part (Fraction.none x) (Exponent.none y) z e) = absurd cc

number_last : {s r : Text} {n : NumberValue} → IsNumber s r n → Last s r
number_last (is_whole (whole {radix = k} g m i x y e)) = last_after (following (sign_end g) (base_end m)) (integer_last k (read_base_small m) i)
number_last (is_decimal (decimal p g i d e f)) = last_after (following (sign_end g) (integer_end i)) (part_last d)

keyword_last : {s r : Text} {k : Keyword} → IsKeyword s r k → Last s r
keyword_last {r = r} {k = k} (a_keyword e n) = last_same e (go k)
  where
    go : (k : Keyword) → Last (keyword_text k ++ r) r
    go True = record { front = 35 ∷ 116 ∷ 114 ∷ 117 ∷ []; char = 101; text = refl; other = refl }
    go False = record { front = 35 ∷ 102 ∷ 97 ∷ 108 ∷ 115 ∷ []; char = 101; text = refl; other = refl }
    go Null = record { front = 35 ∷ 110 ∷ 117 ∷ 108 ∷ []; char = 108; text = refl; other = refl }
    go Infinity = record { front = 35 ∷ 105 ∷ 110 ∷ []; char = 102; text = refl; other = refl }
    go NegativeInfinity = record { front = 35 ∷ 45 ∷ 105 ∷ 110 ∷ []; char = 102; text = refl; other = refl }
    go NotANumber = record { front = 35 ∷ 110 ∷ 97 ∷ []; char = 110; text = refl; other = refl }

-- strings
identifier_other : (c : ℕ) → is_identifier_char c ≡ true → (c == 13) ≡ false
unfolding is_identifier_char is_space is_newline_char is_banned is_punctuation
identifier_other c h = grind (arith, nat_tests)

word_last : (c : ℕ) (w r : Text) → list_all is_identifier_char (c ∷ w) ≡ true → Last (c ∷ (w ++ r)) r
word_last c [] r h = last_here c (identifier_other c (and_parts (is_identifier_char c) (list_all is_identifier_char []) h).0)
word_last c (d ∷ w) r h = last_also c (word_last d w r (and_parts (is_identifier_char c) (list_all is_identifier_char (d ∷ w)) h).1)

bare_word : (w r : Text) → is_bare w ≡ true → Last (w ++ r) r
unfolding is_bare
bare_word [] r h = cc
bare_word (c ∷ w) r h = word_last c w r (and_parts (list_all is_identifier_char (c ∷ w)) _ h).0

bare_last : {s r v : Text} → BareString s r v → Last s r
bare_last {r = r} (bare_text {w = w} e h n) = last_same e (bare_word w r h)

unit_end : {s r : Text} {u : StringUnit} → IsUnit s r u → End s r
unit_end (one_literal {c = c} x) = also c here
unit_end (one_letter {e = e} x) = also 92 (also e here)
unit_end (one_number h) = also 92 (also 117 (also 123 (past (record { piece = h.digits; text = h.text }))))
unit_end (one_gap {e = e} x gap) = also 92 (also e (record { piece = gap.run; text = gap.text }))

units_end : {s r : Text} {us : List StringUnit} → AreUnits s r us → End s r
units_end AreUnits.none = here
units_end (AreUnits.more u us) = following (unit_end u) (units_end us)

content_unit_end : {s r : Text} {us : List LineUnit} → ContentUnit s r us → End s r
content_unit_end (ContentUnit.quote x) = also 34 here
content_unit_end (ContentUnit.line n) = end_newline n
content_unit_end (ContentUnit.unit u e) = unit_end u

content_last : {s r : Text} {us : List LineUnit} → Content s r us → Last s r
content_last Content.close = last_also 34 (last_also 34 (last_here 34 refl))
content_last (Content.more u c e) = last_after (content_unit_end u) (content_last c)

quoted_last : {s r v : Text} → IsQuoted s r v → Last s r
quoted_last (IsQuoted.on_one_line x (quoted_text (body us e))) = last_also 34 (last_after (units_end us) (last_here 34 refl))
quoted_last (IsQuoted.on_many_lines (multi_line (MultiLineBody.lines n c d))) = last_also 34 (last_also 34 (last_also 34 (last_after (end_newline n) (content_last c))))

signs_last : (n : ℕ) → 0 < n → (r : Text) → Last (times n 35 ++ r) r
signs_last zero h r = absurd (omega (arith, h))
signs_last (suc zero) h r = last_here 35 refl
signs_last (suc (suc n)) h r = last_also 35 (signs_last (suc n) (omega arith) r)

raw_unit_end : {p s r : Text} {u : LineUnit} → RawUnit p s r u → End s r
raw_unit_end (RawUnit.char {c = c} x y) = also c here
raw_unit_end (RawUnit.line n) = end_newline n

raw_units_end : {p s r : Text} {us : List LineUnit} → RawUnits p s r us → End s r
raw_units_end RawUnits.none = here
raw_units_end (RawUnits.more u us) = following (raw_unit_end u) (raw_units_end us)

raw_content_last : {p s r : Text} {us : List LineUnit} → Last (p ++ r) r → RawContent p s r us → Last s r
raw_content_last l (content us e) = last_after (raw_units_end us) (last_same e l)

raw_body_last : {n : ℕ} {s r v : Text} → 0 < n → MultiLineRawBody n s r v → Last s r
raw_body_last {n = n} {r = r} h (MultiLineRawBody.lines k c d) = last_after (end_newline k) (raw_content_last (last_also 34 (last_also 34 (last_also 34 (signs_last n h r)))) c)

raw_last : {s r v : Text} → IsRaw s r v → Last s r
raw_last {r = r} (IsRaw.on_one_line x) = last_after (record { piece = times x.signs 35; text = x.text }) (last_also 34 (raw_content_last (last_also 34 (signs_last x.signs x.some r)) x.content))
raw_last (IsRaw.on_many_lines x) = last_after (record { piece = times x.signs 35; text = x.text }) (last_also 34 (last_also 34 (last_also 34 (raw_body_last x.some x.is_body))))

string_last : {s r v : Text} → StringPiece s r v → Last s r
string_last (bare x) = bare_last x
string_last (quoted x) = quoted_last x
string_last (raw x) = raw_last x

pub is_string_last : {s r v : Text} → IsString true s r v → Last s r
is_string_last (string p e) = string_last p

-- values and entries
plain_last : {s r : Text} {v : Value} → IsPlainValue true s r v → Last s r
plain_last (a_string d) = is_string_last d
plain_last (a_plain (number n f) e) = number_last n
plain_last (a_plain (keyword k f) e) = keyword_last k

value_last : {s r : Text} {y : Option Text} {v : Value} → IsValue true s r y v → Last s r
value_last (value y d) = last_after (end_type y) (plain_last d)

pub entry_last : {s r : Text} {x : Entry} → IsEntry true s r x → Last s r
entry_last (argument v) = value_last v
entry_last (property k ss us v) = last_after (following (end_string k) (following (past (end_spaces ss)) (end_spaces us))) (value_last v)

-- blocks, spaces and block comments
pub block_last : {s r : Text} {xs : Nodes} → IsBlock true s r xs → Last s r
block_last (braces ns) = let m = move_nodes ns in last_also 123 (last_after (put_end m.at) (last_here 125 refl))

pub space_other : (c : ℕ) → is_space c ≡ true → (c == 13) ≡ false
unfolding is_space
space_other c h = grind (arith, nat_tests)

parts_last : {s r : Text} → Parts s r → Last s r
parts_last close = last_also 42 (last_here 47 refl)
parts_last (nested p q) = last_also 47 (last_also 42 (last_after (end_of (parts_end p)) (parts_last q)))
parts_last (Parts.other {c = c} x y p) = last_also c (parts_last p)

pub ws_last : {s r : Text} → Ws s r → Last s r
ws_last (Ws.space (a_space {c = c} x)) = last_here c (space_other c x)
ws_last (Ws.comment (block p)) = last_also 47 (last_also 42 (parts_last p))
