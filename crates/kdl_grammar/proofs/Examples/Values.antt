-- Small texts with decimals, strings between quotes and keywords that are documents, and such that are none.
use Rattle.std.proofs.Common.{◌≡◌, ℕ, zero, suc, ◌<◌, true, false, List, [], ◌∷◌, ◌++◌, None, refl, ap, arith}
use Rattle.std.proofs.lemmas.Bool.{and_parts, true≢false}
use Rattle.std.specs.List.{list_all}
use Rattle.std.specs.Prelude.{pos}
use Rattle.kdl_text.specs.Bare.{bare as bare_text, is_bare, bare_form}
use Rattle.kdl_text.specs.Chars.{Text, starts, times, begins_two, begins_with, one, is_identifier_char, is_space, is_newline_char, is_banned, is_punctuation, is_literal}
use Rattle.kdl_text.specs.Chars.Space.{space as a_space}
use Rattle.kdl_text.specs.MultiLine.{IsQuoted}
use Rattle.kdl_text.specs.Numbers.{is_digit_of, Sign, BasePrefix, Digits, integer as an_integer, whole, is_whole, Fraction, Exponent, part, Decimal, decimal, is_decimal, keyword as a_keyword, keyword_text}
use Rattle.kdl_text.specs.Strings.{QuotedString, quoted as quoted_text, body, AreUnits, one_literal, one_letter}
use Rattle.kdl_text.specs.Trivia.{Parts, BlockComment, block, NodeSpace, Ws, Break, ValueEnd}
use Rattle.kdl_text.specs.declared.numbers.Keyword.{Keyword}
use Rattle.kdl_text.specs.declared.numbers.Keyword.TheVariants.{True, False, Null, Infinity, NegativeInfinity, NotANumber}
use Rattle.kdl_text.proofs.Quoted.BareReads.{bare_begins}
use Rattle.kdl_text.proofs.Numeric.DecimalUnique.{number_begins}
use Rattle.kdl_text.proofs.Quoted.StringUnique.{is_quoted_begins, is_raw_begins, is_raw_front}
use Rattle.kdl_value.specs.Data.{text, integer, float, truth, null}
use Rattle.kdl_syntax.specs.Pieces.{StringPiece, bare, quoted, raw, PlainPiece, number, keyword, keyword_value}
use Rattle.kdl_entry.specs.Entries.{IsPlainValue, a_plain}
use Rattle.kdl_syntax.specs.Tokens.{Token, string, value, BeginsToken, t_space, t_newline, t_string, t_value}
use Rattle.kdl_syntax.proofs.Lexing.TokenUnique.{no_slash}
use Rattle.kdl_syntax.proofs.Lexing.StringUnique.{keyword_front}
use Rattle.kdl_grammar.specs.Data.{Nodes}
use Rattle.kdl_grammar.specs.Grammar.{IsDocument}
use Rattle.kdl_grammar.proofs.Examples.Tokens.{Cut, end, next, derived, refused, blank, letter, equals_sign, argument, keyed, name, just}
use Rattle.kdl_grammar.proofs.Reading.NoToken.{here, then, faulty}

a_decimal : {s r w : Text} {ks : List (Token × Text)} → Decimal s r w → Cut r ks → Cut s ((value (float w), r) ∷ ks)
a_decimal d l = next (t_value (PlainPiece.number (is_decimal d) refl)) l

a_string : {s r v : Text} {ks : List (Token × Text)} → begins_with (34 ∷ 34 ∷ 34 ∷ []) s ≡ false → QuotedString s r v → Cut r ks → Cut s ((string v, r) ∷ ks)
a_string h q l = next (t_string (StringPiece.quoted (IsQuoted.on_one_line h q))) l

a_word : (k : Keyword) {r : Text} {ks : List (Token × Text)} → starts is_identifier_char r ≡ false → Cut r ks → Cut (keyword_text k ++ r) ((value (keyword_value k), r) ∷ ks)
a_word k h l = next (t_value (PlainPiece.keyword {k = k} (a_keyword refl h) refl)) l

-- a quoted string with one character, with a space in it, with an escape in it
one_char : (c : ℕ) {r : Text} → is_literal c ≡ true → QuotedString (34 ∷ c ∷ 34 ∷ r) r (c ∷ [])
one_char c h = quoted_text (body (AreUnits.more (one_literal h) AreUnits.none) refl)

-- `n 1.5`
a_fraction : IsDocument (110 ∷ 32 ∷ 49 ∷ 46 ∷ 53 ∷ []) (just (name 110 (argument (float (49 ∷ 46 ∷ 53 ∷ [])) ∷ [])))
unfolding is_bare is_identifier_char is_space is_newline_char is_banned is_punctuation is_digit_of is_literal
a_fraction = derived (letter 110 refl refl (blank (a_decimal (decimal (49 ∷ 46 ∷ 53 ∷ []) (Sign.none refl) (an_integer refl (Digits.stop refl)) (part (Fraction.fraction (an_integer refl (Digits.stop refl))) (Exponent.none refl) refl refl) refl refl) end))) (just (name 110 (argument (float (49 ∷ 46 ∷ 53 ∷ [])) ∷ []))) refl

-- `n -2e10`
an_exponent : IsDocument (110 ∷ 32 ∷ 45 ∷ 50 ∷ 101 ∷ 49 ∷ 48 ∷ []) (just (name 110 (argument (float (45 ∷ 50 ∷ 101 ∷ 49 ∷ 48 ∷ [])) ∷ [])))
unfolding is_bare is_identifier_char is_space is_newline_char is_banned is_punctuation is_digit_of is_literal
an_exponent = derived (letter 110 refl refl (blank (a_decimal (decimal (45 ∷ 50 ∷ 101 ∷ 49 ∷ 48 ∷ []) (Sign.minus) (an_integer refl (Digits.stop refl)) (part (Fraction.none refl) (Exponent.exponent refl (Sign.none refl) (an_integer refl (Digits.digit refl (Digits.stop refl)))) refl refl) refl refl) end))) (just (name 110 (argument (float (45 ∷ 50 ∷ 101 ∷ 49 ∷ 48 ∷ [])) ∷ []))) refl

-- `n 1_0.5E+3`
an_underscore : IsDocument (110 ∷ 32 ∷ 49 ∷ 95 ∷ 48 ∷ 46 ∷ 53 ∷ 69 ∷ 43 ∷ 51 ∷ []) (just (name 110 (argument (float (49 ∷ 48 ∷ 46 ∷ 53 ∷ 69 ∷ 43 ∷ 51 ∷ [])) ∷ [])))
unfolding is_bare is_identifier_char is_space is_newline_char is_banned is_punctuation is_digit_of is_literal
an_underscore = derived (letter 110 refl refl (blank (a_decimal (decimal (49 ∷ 95 ∷ 48 ∷ 46 ∷ 53 ∷ 69 ∷ 43 ∷ 51 ∷ []) (Sign.none refl) (an_integer refl (Digits.underscore (Digits.digit refl (Digits.stop refl)))) (part (Fraction.fraction (an_integer refl (Digits.stop refl))) (Exponent.exponent refl (Sign.plus) (an_integer refl (Digits.stop refl))) refl refl) refl refl) end))) (just (name 110 (argument (float (49 ∷ 48 ∷ 46 ∷ 53 ∷ 69 ∷ 43 ∷ 51 ∷ [])) ∷ []))) refl

-- `n "a\nb"`
an_escape : IsDocument (110 ∷ 32 ∷ 34 ∷ 97 ∷ 92 ∷ 110 ∷ 98 ∷ 34 ∷ []) (just (name 110 (argument (text (97 ∷ 10 ∷ 98 ∷ [])) ∷ [])))
unfolding is_bare is_identifier_char is_space is_newline_char is_banned is_punctuation is_digit_of is_literal
an_escape = derived (letter 110 refl refl (blank (a_string refl (quoted_text (body (AreUnits.more (one_literal refl) (AreUnits.more (one_letter refl) (AreUnits.more (one_literal refl) AreUnits.none))) refl)) end))) (just (name 110 (argument (text (97 ∷ 10 ∷ 98 ∷ [])) ∷ []))) refl

-- `"a b" k="v"`
quoted_name : IsDocument (34 ∷ 97 ∷ 32 ∷ 98 ∷ 34 ∷ 32 ∷ 107 ∷ 61 ∷ 34 ∷ 118 ∷ 34 ∷ []) (just (Rattle.kdl_grammar.specs.Data.node None (97 ∷ 32 ∷ 98 ∷ []) (keyed 107 (text (118 ∷ [])) ∷ []) Rattle.kdl_grammar.specs.Data.no_children))
unfolding is_bare is_identifier_char is_space is_newline_char is_banned is_punctuation is_digit_of is_literal
quoted_name = derived (a_string refl (quoted_text (body (AreUnits.more (one_literal refl) (AreUnits.more (one_literal refl) (AreUnits.more (one_literal refl) AreUnits.none))) refl)) (blank (letter 107 refl refl (equals_sign (a_string refl (one_char 118 refl) end))))) (just (Rattle.kdl_grammar.specs.Data.node None (97 ∷ 32 ∷ 98 ∷ []) (keyed 107 (text (118 ∷ [])) ∷ []) Rattle.kdl_grammar.specs.Data.no_children)) refl

-- `n "k"=#false`
quoted_key : IsDocument (110 ∷ 32 ∷ 34 ∷ 107 ∷ 34 ∷ 61 ∷ 35 ∷ 102 ∷ 97 ∷ 108 ∷ 115 ∷ 101 ∷ []) (just (name 110 (keyed 107 (truth false) ∷ [])))
unfolding is_bare is_identifier_char is_space is_newline_char is_banned is_punctuation is_digit_of is_literal
quoted_key = derived (letter 110 refl refl (blank (a_string refl (one_char 107 refl) (equals_sign (a_word False refl end))))) (just (name 110 (keyed 107 (truth false) ∷ []))) refl

-- `n #null`
a_null : IsDocument (110 ∷ 32 ∷ 35 ∷ 110 ∷ 117 ∷ 108 ∷ 108 ∷ []) (just (name 110 (argument (null) ∷ [])))
unfolding is_bare is_identifier_char is_space is_newline_char is_banned is_punctuation is_digit_of is_literal
a_null = derived (letter 110 refl refl (blank (a_word Null refl end))) (just (name 110 (argument (null) ∷ []))) refl

-- `n #inf`
an_infinity : IsDocument (110 ∷ 32 ∷ 35 ∷ 105 ∷ 110 ∷ 102 ∷ []) (just (name 110 (argument (float (35 ∷ 105 ∷ 110 ∷ 102 ∷ [])) ∷ [])))
unfolding is_bare is_identifier_char is_space is_newline_char is_banned is_punctuation is_digit_of is_literal
an_infinity = derived (letter 110 refl refl (blank (a_word Infinity refl end))) (just (name 110 (argument (float (35 ∷ 105 ∷ 110 ∷ 102 ∷ [])) ∷ []))) refl

-- `n #-inf`
a_negative_infinity : IsDocument (110 ∷ 32 ∷ 35 ∷ 45 ∷ 105 ∷ 110 ∷ 102 ∷ []) (just (name 110 (argument (float (35 ∷ 45 ∷ 105 ∷ 110 ∷ 102 ∷ [])) ∷ [])))
unfolding is_bare is_identifier_char is_space is_newline_char is_banned is_punctuation is_digit_of is_literal
a_negative_infinity = derived (letter 110 refl refl (blank (a_word NegativeInfinity refl end))) (just (name 110 (argument (float (35 ∷ 45 ∷ 105 ∷ 110 ∷ 102 ∷ [])) ∷ []))) refl

-- `n #nan`
not_a_number : IsDocument (110 ∷ 32 ∷ 35 ∷ 110 ∷ 97 ∷ 110 ∷ []) (just (name 110 (argument (float (35 ∷ 110 ∷ 97 ∷ 110 ∷ [])) ∷ [])))
unfolding is_bare is_identifier_char is_space is_newline_char is_banned is_punctuation is_digit_of is_literal
not_a_number = derived (letter 110 refl refl (blank (a_word NotANumber refl end))) (just (name 110 (argument (float (35 ∷ 110 ∷ 97 ∷ 110 ∷ [])) ∷ []))) refl

-- not `n "a"b`
letter_after_quote : (x : Nodes) → IsDocument (110 ∷ 32 ∷ 34 ∷ 97 ∷ 34 ∷ 98 ∷ []) x → ⊥
unfolding is_bare is_identifier_char is_space is_newline_char is_banned is_punctuation is_digit_of is_literal
letter_after_quote x i = refused (letter 110 refl refl (blank (a_string refl (one_char 97 refl) (letter 98 refl refl end)))) refl refl x i

-- not `1.5`
decimal_as_name : (x : Nodes) → IsDocument (49 ∷ 46 ∷ 53 ∷ []) x → ⊥
unfolding is_bare is_identifier_char is_space is_newline_char is_banned is_punctuation is_digit_of is_literal
decimal_as_name x i = refused (a_decimal (decimal (49 ∷ 46 ∷ 53 ∷ []) (Sign.none refl) (an_integer refl (Digits.stop refl)) (part (Fraction.fraction (an_integer refl (Digits.stop refl))) (Exponent.none refl) refl refl) refl refl) end) refl refl x i

-- not `n 1.5"a"`
decimals_joined : (x : Nodes) → IsDocument (110 ∷ 32 ∷ 49 ∷ 46 ∷ 53 ∷ 34 ∷ 97 ∷ 34 ∷ []) x → ⊥
unfolding is_bare is_identifier_char is_space is_newline_char is_banned is_punctuation is_digit_of is_literal
decimals_joined x i = refused (letter 110 refl refl (blank (a_decimal (decimal (49 ∷ 46 ∷ 53 ∷ []) (Sign.none refl) (an_integer refl (Digits.stop refl)) (part (Fraction.fraction (an_integer refl (Digits.stop refl))) (Exponent.none refl) refl refl) refl refl) (a_string refl (one_char 97 refl) end)))) refl refl x i

-- a point before a digit begins no bare string
no_bare_point : (w r : Text) → 46 ∷ 53 ∷ [] ≡ w ++ r → is_bare w ≡ true → starts is_identifier_char r ≡ false → ⊥
unfolding is_bare is_identifier_char is_space is_newline_char is_banned is_punctuation
no_bare_point [] r e h n = cc
no_bare_point (c ∷ []) r e h n = let f : r ≡ 53 ∷ [] = cc in let g : starts is_identifier_char (53 ∷ []) ≡ false = rw f at n in cc
no_bare_point (c ∷ d ∷ w) r e h n =
    let f : c ≡ 46 = cc in let g : d ≡ 53 = cc in
    let x : bare_form (46 ∷ 53 ∷ w) ≡ true = rw (f, g) at (and_parts (list_all is_identifier_char (c ∷ d ∷ w)) (bare_form (c ∷ d ∷ w)) h).1 in
    cc

no_token_at_point : {r : Text} {k : Token} → BeginsToken (46 ∷ 53 ∷ []) k r → ⊥
unfolding is_space is_newline_char
no_token_at_point (t_space (NodeSpace.ws (Ws.space (a_space x)))) = cc
no_token_at_point (t_space (NodeSpace.ws (Ws.comment p))) = elim p [ ]
no_token_at_point (t_space (NodeSpace.escline p)) = elim p [ ]
no_token_at_point (t_newline (Break.newline (one x y))) = cc
no_token_at_point (t_newline (Break.comment p)) = elim p [ ]
no_token_at_point {r = r} (t_string (bare (bare_text {w = w} e h n))) = no_bare_point w r e h n
no_token_at_point (t_string (quoted q)) = let x = is_quoted_begins q in cc
no_token_at_point (t_string (raw q)) = let x = is_raw_begins q in cc
no_token_at_point (t_value (number n e)) = let x = number_begins n in cc
no_token_at_point (t_value (keyword n e)) = let x = keyword_front n in cc

-- not `n .5`
point_first : (x : Nodes) → IsDocument (110 ∷ 32 ∷ 46 ∷ 53 ∷ []) x → ⊥
unfolding is_bare is_identifier_char is_space is_newline_char is_banned is_punctuation
point_first x i = faulty (then (t_string (bare (bare_text {w = 110 ∷ []} refl refl refl))) (then (t_space (NodeSpace.ws (Ws.space (a_space refl)))) here)) (λ e. cc) (λ k t b. no_token_at_point b) x i

no_true : (k : Keyword) (r : Text) → 35 ∷ 116 ∷ 114 ∷ 117 ∷ 101 ∷ 49 ∷ [] ≡ keyword_text k ++ r → starts is_identifier_char r ≡ false → ⊥
unfolding is_identifier_char is_space is_newline_char is_banned is_punctuation
no_true True r e n = let f : r ≡ 49 ∷ [] = cc in let g : starts is_identifier_char (49 ∷ []) ≡ false = rw f at n in cc
no_true False r e n = true≢false (ap (begins_two 35 116) e)
no_true Null r e n = true≢false (ap (begins_two 35 116) e)
no_true Infinity r e n = true≢false (ap (begins_two 35 116) e)
no_true NegativeInfinity r e n = true≢false (ap (begins_two 35 116) e)
no_true NotANumber r e n = true≢false (ap (begins_two 35 116) e)

no_raw_true : (n : ℕ) (m s : Text) → 0 < n → 35 ∷ 116 ∷ s ≡ times n 35 ++ 34 ∷ m → ⊥
no_raw_true zero m s h e = absurd (omega arith)
no_raw_true (suc zero) m s h e = true≢false (ap (begins_two 35 116) e)
no_raw_true (suc (suc n)) m s h e = true≢false (ap (begins_two 35 116) e)

no_token_at_true : {r : Text} {k : Token} → BeginsToken (35 ∷ 116 ∷ 114 ∷ 117 ∷ 101 ∷ 49 ∷ []) k r → ⊥
unfolding is_identifier_char is_space is_newline_char is_banned is_punctuation
no_token_at_true (t_space (NodeSpace.ws (Ws.space (a_space x)))) = cc
no_token_at_true (t_space (NodeSpace.ws (Ws.comment p))) = elim p [ ]
no_token_at_true (t_space (NodeSpace.escline p)) = elim p [ ]
no_token_at_true (t_newline (Break.newline (one x y))) = cc
no_token_at_true (t_newline (Break.comment p)) = elim p [ ]
no_token_at_true (t_string (bare b)) = let x = bare_begins b in cc
no_token_at_true (t_string (quoted q)) = let x = is_quoted_begins q in cc
no_token_at_true (t_string (raw q)) = let x = is_raw_front q in no_raw_true x.0 x.1 (114 ∷ 117 ∷ 101 ∷ 49 ∷ []) x.2 x.3
no_token_at_true (t_value (number n e)) = let x = number_begins n in cc
no_token_at_true {r = r} (t_value (keyword (a_keyword {k = k} e n) f)) = no_true k r e n

-- not `n #true1`
word_and_digit : (x : Nodes) → IsDocument (110 ∷ 32 ∷ 35 ∷ 116 ∷ 114 ∷ 117 ∷ 101 ∷ 49 ∷ []) x → ⊥
unfolding is_bare is_identifier_char is_space is_newline_char is_banned is_punctuation
word_and_digit x i = faulty (then (t_string (bare (bare_text {w = 110 ∷ []} refl refl refl))) (then (t_space (NodeSpace.ws (Ws.space (a_space refl)))) here)) (λ e. cc) (λ k t b. no_token_at_true b) x i

-- `1` before a comment that is not closed
one_open : PlainPiece (49 ∷ 47 ∷ 42 ∷ 120 ∷ []) (47 ∷ 42 ∷ 120 ∷ []) (integer (pos 1))
unfolding is_identifier_char is_space is_newline_char is_banned is_punctuation is_digit_of
one_open = PlainPiece.number (is_whole (whole (Sign.none refl) (BasePrefix.ten refl) (an_integer refl (Digits.stop refl)) refl refl refl)) refl

-- `1` is a value before `/*x`
value_before_open_comment : IsPlainValue true (49 ∷ 47 ∷ 42 ∷ 120 ∷ []) (47 ∷ 42 ∷ 120 ∷ []) (integer (pos 1))
value_before_open_comment = a_plain one_open ValueEnd.block_comment

never_closed : {r : Text} → BlockComment (47 ∷ 42 ∷ 120 ∷ []) r → ⊥
never_closed (block (Parts.other x y p)) = elim p [ ]

-- not `n 1/*x`
open_comment : (x : Nodes) → IsDocument (110 ∷ 32 ∷ 49 ∷ 47 ∷ 42 ∷ 120 ∷ []) x → ⊥
unfolding is_bare is_identifier_char is_space is_newline_char is_banned is_punctuation
open_comment x i =
    faulty (then (t_string (bare (bare_text {w = 110 ∷ []} refl refl refl))) (then (t_space (NodeSpace.ws (Ws.space (a_space refl)))) (then (t_value one_open) here)))
    (λ e. cc) (λ k t b. no_slash (42 ∷ 120 ∷ []) (λ r p. never_closed p) (λ r p. elim p [ ]) refl t k b) x i
