-- From what the readers return to the tokens of the whole language.
use Rattle.std.proofs.Common.{◌≡◌, ℕ, zero, suc, ◌≤◌, ◌<◌, Bool, true, false, [], ◌∷◌, ◌++◌, length, refl, sym, subst, ap, ◌∙◌, ◌==◌, ◌||◌, arith, length-append, ℤ, of_z, to_z, lit<, inl, inr}
use Rattle.std.proofs.lemmas.Bool.{and_parts, eqb-true}
use Rattle.std.proofs.lemmas.Bool.Decides.{nat_tests}
use Rattle.std.proofs.lemmas.Str.{len_utf8_bounds, chars-IsAscii}
use borrow.Author.Tests.{ltb-true}
use Rattle.std.specs.Char.{is_ascii_alphabetic}
use Rattle.std.specs.Int.{w128}
use Rattle.std.specs.Prelude.{Some, None, Option, Result, Ok, Err, IfOk, string_bytes, String, codes, nat_lt}
use Rattle.std.specs.List.{list_all}
use Rattle.std.specs.Str.{chars, IsAscii}
use Rattle.std.specs.declared.alloc.Global.{Global}
use Rattle.kdl_text.specs.Chars.{Text, Newline, Star, Plus, Space, is_space, is_newline_char, is_identifier_char, is_banned, is_punctuation, begins_two, starts, times, is_digit, is_sign}
use Rattle.kdl_text.specs.Chars.Star.{none, more}
use Rattle.kdl_text.specs.Chars.Newline.{one as newline_one}
use Rattle.kdl_text.specs.Chars.Plus.{plus}
use Rattle.kdl_text.specs.Chars.Space.{space as space_char}
use Rattle.kdl_text.specs.Bare.{BareString}
use Rattle.kdl_text.specs.Internal.Here.{Here, Skips, first, tail, Took}
use Rattle.kdl_text.specs.Spans.{bytes}
use Rattle.kdl_text.specs.MultiLine.{IsQuoted}
use Rattle.kdl_text.specs.Internal.NumberReading.{ReadsNumber, ReadsKeyword, number_value}
use Rattle.kdl_text.specs.Numbers.{IsNumber, is_whole, is_decimal, NumberValue, whole_value, decimal_text, IsKeyword, begins_number, Decimal, FloatText}
use Rattle.kdl_text.specs.Raw.{IsRaw}
use Rattle.kdl_text.specs.Internal.Reading.{Moves, Costs, Reads, ReadsNewline}
use Rattle.kdl_text.specs.Trivia.{BlockComment, LineComment, Escline}
use Rattle.kdl_text.specs.Trivia.LineComment.{line}
use Rattle.kdl_text.specs.Trivia.Ws.{space as ws_space, comment as ws_comment}
use Rattle.kdl_text.specs.Trivia.NodeSpace.{ws, escline as node_escline}
use Rattle.kdl_text.specs.Trivia.Break.{newline as break_newline, comment as break_comment}
use Rattle.kdl_text.specs.Internal.TriviaReading.{PieceCosts, Opens}
use Rattle.kdl_text.specs.declared.numbers.Keyword.{Keyword}
use Rattle.kdl_text.specs.declared.numbers.Number.{Number}
use Rattle.kdl_text.specs.declared.numbers.Number.TheVariants.{Integer as IntegerNumber, Decimal as DecimalNumber}
use Rattle.kdl_text.specs.declared.strings.StringFailure.{StringFailure}
use Rattle.kdl_text.specs.declared.strings.StringFailure.TheVariants.{Fault as StringFaulty, Memory as StringMemory}
use Rattle.kdl_text.proofs.Looking.Stars.{star_map}
use Rattle.kdl_text.proofs.Looking.MovesJoin.{moves_one, bytes-append, fewer_bytes}
use Rattle.kdl_text.proofs.Numeric.KeywordUnique.{keyword_begins}
use Rattle.kdl_text.proofs.Quoted.BareReads.{bare_begins, letter_no_digit, letter_no_sign, letter_word}
use Rattle.kdl_text.proofs.Quoted.StringUnique.{is_quoted_begins, is_raw_begins}
use Rattle.kdl_text.proofs.Spacing.NewlineUnique.{newline_there}
use Rattle.kdl_text.proofs.Looking.Runs.{length-bytes}
use Rattle.kdl_text.proofs.Looking.SliceCost.{moves_ran}
use Rattle.kdl_text.proofs.Spacing.SpacePieces.{break_shorter}
use Rattle.kdl_text.proofs.Numeric.NumberUnique.{number_not_bare}
use Rattle.kdl_text.proofs.Numeric.DecimalUnique.{number_begins}
use Rattle.kdl_value.specs.Data.{Value, integer, float}
use Rattle.kdl_value.specs.Tree.{value_tree}
use Rattle.kdl_value.specs.declared.value.KdlValue.{KdlValue}
use Rattle.kdl_syntax.specs.Pieces.{StringPiece, bare, quoted, raw, PlainPiece, number, keyword, keyword_value}
use Rattle.kdl_syntax.specs.Pieces as entries
use Rattle.kdl_syntax.specs.Internal.Handed.{Alone, Cuts, one, spaces, ReadsKind, KindCosts, Passes, IsPunctuation, is_single, kind_view, begins_apart}
use Rattle.kdl_syntax.specs.Tokens.{Token, BeginsToken, space, newline, slashdash, string, value, t_space, t_newline, t_slashdash, t_string, t_value, NoToken}
use Rattle.kdl_syntax.specs.declared.lexer.LexFailure.{LexFailure}
use Rattle.kdl_syntax.specs.declared.lexer.LexFailure.TheVariants.{Faulty, Memory}
use Rattle.kdl_syntax.specs.declared.lexer.TokenKind.{TokenKind}
use Rattle.kdl_syntax.proofs.Lexing.TokenUnique.{no_piece, no_slash, no_backslash, no_alien, Alien}
use Rattle.kdl_syntax.proofs.Fitting.{number_fits}
use Rattle.kdl_value.proofs.Floating.DecimalTexts.{decimal_float as read_float}
use Rattle.kdl_syntax.proofs.Lexing.StringUnique.{begins_piece, keyword_front, at_identifier, number_front, quote_identifier, sign_identifier}
use Rattle.kdl_syntax.proofs.Lexing.TokenCost.{first_is, clash, fewer, plain_costs, more_costs}

-- no token, where no string, number or keyword begins with a character of theirs
alone : (s : Text) → starts begins_piece s ≡ true → ((r v : Text) → StringPiece s r v → ⊥) → ((r : Text) (v : Value) → PlainPiece s r v → ⊥) → NoToken s
alone [] h f g = cc
alone (c ∷ s) h f g = record { begun = λ e. cc; none = no_piece c s h f g }

-- a token that is read alone, or a run of spaces
pub read_alone : (s r : Text) (k : Token) → BeginsToken s k r → Alone s k r
read_alone s r k t = Alone.token t

pub cut_alone : (s r : Text) (k : Token) → Alone s k r → Cuts s k r
cut_alone s r k (Alone.token t) = one t
cut_alone s r k (Alone.run (plus p ps)) = spaces (plus (ws (ws_space p)) (star_map (λ u v q. ws (ws_space q)) ps))

-- bare strings
pub a_bare_here : (s r p v : Text) → BareString s r p → v ≡ p → BeginsToken s (string v) r
a_bare_here s r p v b e = t_string (bare (rw e b))

no_bare : (s : Text) → starts is_identifier_char s ≡ true → begins_number s ≡ false → ((r v : Text) → BareString s r v → ⊥) → NoToken s
no_bare s h k n = alone s (at_identifier s h) strings plains
  where
    strings : (r v : Text) → StringPiece s r v → ⊥
    strings r v (bare b) = n r v b
    strings r v (quoted q) = quote_identifier s (is_quoted_begins q) h
    strings r v (raw q) = sign_identifier s (is_raw_begins q) h

    plains : (r : Text) (v : Value) → PlainPiece s r v → ⊥
    plains r v (number m e) = clash (begins_number s) (number_begins m) k
    plains r v (keyword m e) = sign_identifier s (keyword_front m) h

pub no_bare_here : (s r : Text) → starts is_identifier_char s ≡ true → begins_number s ≡ false → ((r v : Text) → BareString s r v → ⊥) → ReadsKind s (Err Faulty) r
no_bare_here s r h k n = no_bare s h k n

-- quoted strings
pub a_quoted_here : (s r v : Text) → IsQuoted s r v → BeginsToken s (string v) r
a_quoted_here s r v q = t_string (quoted q)

at_quote : (s : Text) → first s ≡ Some 34 → starts begins_piece s ≡ true
unfolding is_identifier_char is_space is_newline_char is_banned is_punctuation
at_quote s h = rw (first_is s 34 h) refl

quote_here : (s : Text) → first s ≡ Some 34 → starts (λ c. c == 34) s ≡ true
quote_here s h = rw (first_is s 34 h) refl

quote_sign : (s : Text) → first s ≡ Some 34 → starts (λ c. c == 35) s ≡ true → ⊥
quote_sign s h k = let e = rw (first_is s 34 h) at k in cc

no_quoted : (s : Text) → first s ≡ Some 34 → ((r v : Text) → IsQuoted s r v → ⊥) → NoToken s
no_quoted s h n = alone s (at_quote s h) strings plains
  where
    strings : (r v : Text) → StringPiece s r v → ⊥
    strings r v (bare b) = quote_identifier s (quote_here s h) (bare_begins b)
    strings r v (quoted q) = n r v q
    strings r v (raw q) = quote_sign s h (is_raw_begins q)

    plains : (r : Text) (v : Value) → PlainPiece s r v → ⊥
    plains r v (number m e) = quote_identifier s (quote_here s h) (number_front s (number_begins m))
    plains r v (keyword m e) = quote_sign s h (keyword_front m)

pub no_quoted_here : (s r : Text) (f : StringFailure) (e : LexFailure) → first s ≡ Some 34 → ((r v : Text) → IsQuoted s r v → f ≡ StringMemory) → Passes f e → ReadsKind s (Err e) r
no_quoted_here s r (StringFaulty f) Faulty h n x = no_quoted s h (λ r v q. let z = n r v q in cc)
no_quoted_here s r StringMemory Faulty h n x = cc
no_quoted_here s r f Memory h n x = tt

-- raw strings and keywords, by the character after the number sign
abbrev pub looks_raw : Text → Bool
looks_raw s = starts (λ c. c == 34 || c == 35) (tail s)

pub a_raw_here : (s r v : Text) → IsRaw s r v → BeginsToken s (string v) r
a_raw_here s r v q = t_string (raw q)

at_sign : (s : Text) → first s ≡ Some 35 → starts begins_piece s ≡ true
unfolding is_identifier_char is_space is_newline_char is_banned is_punctuation
at_sign s h = rw (first_is s 35 h) refl

sign_here : (s : Text) → first s ≡ Some 35 → starts (λ c. c == 35) s ≡ true
sign_here s h = rw (first_is s 35 h) refl

sign_quote : (s : Text) → first s ≡ Some 35 → starts (λ c. c == 34) s ≡ true → ⊥
sign_quote s h k = let e = rw (first_is s 35 h) at k in cc

raw_front : (n : ℕ) (b : Text) → 0 < n → looks_raw (times n 35 ++ 34 ∷ b) ≡ true
raw_front zero b h = absurd (omega arith)
raw_front (suc zero) b h = refl
raw_front (suc (suc n)) b h = refl

raw_looks : (s r v : Text) → IsRaw s r v → looks_raw s ≡ true
raw_looks s r v (IsRaw.on_one_line x) = rw x.text (raw_front x.signs x.body x.some)
raw_looks s r v (IsRaw.on_many_lines x) = rw x.text (raw_front x.signs (34 ∷ 34 ∷ x.body) x.some)

no_second : (c : ℕ) → is_identifier_char c ≡ true → (c == 34 || c == 35) ≡ false
unfolding is_identifier_char is_space is_newline_char is_banned is_punctuation
no_second c h = grind (arith, nat_tests)

keyword_looks : (s r : Text) (k : Keyword) → IsKeyword s r k → looks_raw s ≡ false
keyword_looks s r k x = let (c, t, e, i) = keyword_begins x in rw e (no_second c i)

no_sign : (s : Text) → first s ≡ Some 35 → ((r v : Text) → IsRaw s r v → ⊥) → ((r : Text) (k : Keyword) → IsKeyword s r k → ⊥) → NoToken s
no_sign s h n m = alone s (at_sign s h) strings plains
  where
    strings : (r v : Text) → StringPiece s r v → ⊥
    strings r v (bare b) = sign_identifier s (sign_here s h) (bare_begins b)
    strings r v (quoted q) = sign_quote s h (is_quoted_begins q)
    strings r v (raw q) = n r v q

    plains : (r : Text) (v : Value) → PlainPiece s r v → ⊥
    plains r v (number x e) = sign_identifier s (sign_here s h) (number_front s (number_begins x))
    plains r v (keyword {k = k} x e) = m r k x

pub no_raw_here : (s r : Text) (f : StringFailure) (e : LexFailure) → first s ≡ Some 35 → looks_raw s ≡ true → ((r v : Text) → IsRaw s r v → f ≡ StringMemory) → Passes f e → ReadsKind s (Err e) r
no_raw_here s r (StringFaulty f) Faulty h k n x = no_sign s h (λ r v q. let z = n r v q in cc) (λ r w q. clash (looks_raw s) k (keyword_looks s r w q))
no_raw_here s r StringMemory Faulty h k n x = cc
no_raw_here s r f Memory h k n x = tt

pub a_keyword_here : (s r : Text) (k : Keyword) (v : Value) → ReadsKeyword (Some k) s r → v ≡ keyword_value k → BeginsToken s (value v) r
a_keyword_here s r k v h e = t_value (keyword ((h r k).1 (refl, refl)) e)

pub no_keyword_here : (s t r : Text) → first s ≡ Some 35 → looks_raw s ≡ false → ReadsKeyword None s t → ReadsKind s (Err Faulty) r
no_keyword_here s t r h k n = no_sign s h (λ r v q. clash (looks_raw s) (raw_looks s r v q) k) n

pub keyword_costs : (k : Keyword) (a b : Here) → ReadsKeyword (Some k) a.rest b.rest → Moves a b → Costs 20 0 a b → PieceCosts 21 a b
keyword_costs k a b h m c = more_costs a b (plain_costs a b (keyword_value k) (keyword ((h b.rest k).1 (refl, refl)) refl) m c)

-- numbers
int_fits : (s r : Text) (n : ℤ) → IsNumber s r (whole_value n) → to_z w128 (of_z w128 n) ≡ n
int_fits s r n (is_whole w) = number_fits s r n w

pub integer_here : (s r : Text) (n : ℤ) → ReadsNumber (Ok (IntegerNumber n)) s r → BeginsToken s (value (integer (to_z w128 (of_z w128 n)))) r
integer_here s r n h = let x : IsNumber s r (whole_value n) = (h r (whole_value n)).1 (refl, refl) in t_value (number x (ap integer (int_fits s r n x)))

decimal_of : (s r w : Text) → IsNumber s r (decimal_text w) → Decimal s r w
decimal_of s r w (is_decimal d) = d

pub decimal_float : (s r : Text) (x : String Global) → ReadsNumber (Ok (DecimalNumber x)) s r → FloatText (chars (string_bytes x))
decimal_float s r x h = read_float (decimal_of s r (chars (string_bytes x)) ((h r (decimal_text (chars (string_bytes x)))).1 (refl, refl)))

pub decimal_here : (s r w : Text) (x : String Global) → ReadsNumber (Ok (DecimalNumber x)) s r → w ≡ chars (string_bytes x) → BeginsToken s (value (float w)) r
decimal_here s r w x h e = t_value (number ((h r (decimal_text (chars (string_bytes x)))).1 (refl, refl)) (ap float e))

no_number : (s : Text) → begins_number s ≡ true → ((r : Text) (v : NumberValue) → IsNumber s r v → ⊥) → NoToken s
no_number s h n = alone s (at_identifier s (number_front s h)) strings plains
  where
    strings : (r v : Text) → StringPiece s r v → ⊥
    strings r v (bare b) = number_not_bare h b
    strings r v (quoted q) = quote_identifier s (is_quoted_begins q) (number_front s h)
    strings r v (raw q) = sign_identifier s (is_raw_begins q) (number_front s h)

    plains : (r : Text) (v : Value) → PlainPiece s r v → ⊥
    plains r v (number {n = z} m e) = n r z m
    plains r v (keyword m e) = sign_identifier s (keyword_front m) (number_front s h)

pub no_number_here : (s r : Text) → begins_number s ≡ true → ((r : Text) (v : NumberValue) → IsNumber s r v → ⊥) → ReadsKind s (Err Faulty) r
no_number_here s r h n = no_number s h n

pub number_costs : (x : Number) (a b : Here) → ReadsNumber (Ok x) a.rest b.rest → Moves a b → Costs 20 0 a b → PieceCosts 20 a b
number_costs x a b h m c = plain_costs a b (entries.number_value (number_value x)) (number ((h b.rest (number_value x)).1 (refl, refl)) refl) m c

-- slashes
pub a_block_here : (s r : Text) → Reads BlockComment true s r → BeginsToken s space r
a_block_here s r h = t_space (ws (ws_comment ((h r).1 refl)))

pub a_line_here : (s r : Text) → Reads LineComment true s r → BeginsToken s newline r
a_line_here s r h = t_newline (break_comment ((h r).1 refl))

pub a_dash_here : (s r : Text) → s ≡ 47 ∷ 45 ∷ r → BeginsToken s slashdash r
a_dash_here s r e = rw e t_slashdash

no_slash_at : (s : Text) → first s ≡ Some 47 → ((r : Text) → BlockComment s r → ⊥) → ((r : Text) → LineComment s r → ⊥) → begins_two 47 45 s ≡ false → NoToken s
no_slash_at [] h f g k = cc
no_slash_at (c ∷ s) h f g k =
    let e : c ≡ 47 = cc in
    rw e (record { begun = λ x. cc; none = no_slash s (subst (λ (z : ℕ). (r : Text) → BlockComment (z ∷ s) r → ⊥) e f) (subst (λ (z : ℕ). (r : Text) → LineComment (z ∷ s) r → ⊥) e g) (subst (λ (z : ℕ). begins_two 47 45 (z ∷ s) ≡ false) e k) })

no_line_at : (s r : Text) → begins_two 47 47 s ≡ false → LineComment s r → ⊥
no_line_at s r h (line l) = cc

no_block_at : (s r : Text) → begins_two 47 42 s ≡ false → BlockComment s r → ⊥
no_block_at s r h (BlockComment.block p) = cc

second_is : (c d : ℕ) (s : Text) → begins_two 47 c s ≡ true → (c == d) ≡ false → begins_two 47 d s ≡ false
second_is c d [] h n = refl
second_is c d (a ∷ []) h n = grind (arith, nat_tests)
second_is c d (a ∷ b ∷ s) h n = let e : b ≡ c = eqb-true b c (and_parts (a == 47) (b == c) h).1 in rw ((and_parts (a == 47) (b == c) h).0, e, n) refl

pub unclosed_here : (s r : Text) → first s ≡ Some 47 → Opens s → ReadsKind s (Err Faulty) r
unclosed_here s r h o = no_slash_at s h o.unclosed (λ r. no_line_at s r (second_is 42 47 s o.opens refl)) (second_is 42 45 s o.opens refl)

pub no_slash_here : (s r : Text) → first s ≡ Some 47 → begins_two 47 42 s ≡ false → begins_two 47 47 s ≡ false → begins_two 47 45 s ≡ false → ReadsKind s (Err Faulty) r
no_slash_here s r h a b c = no_slash_at s h (λ r. no_block_at s r a) (λ r. no_line_at s r b) c

-- esclines
pub an_escline_here : (s r : Text) → Reads Escline true s r → BeginsToken s space r
an_escline_here s r h = t_space (node_escline ((h r).1 refl))

pub no_escline_here : (s t r : Text) → first s ≡ Some 92 → Reads Escline false s t → ReadsKind s (Err Faulty) r
no_escline_here s t r h n = rw (first_is s 92 h) (record { begun = λ y. cc; none = no_backslash (tail s) (subst (λ (z : Text). (r : Text) → Escline z r → ⊥) (first_is s 92 h) n) })

-- words, spaces, newlines and tokens of one character
pub word_here : (c : ℕ) (s : Text) → first s ≡ Some c → is_identifier_char c ≡ true → starts is_identifier_char s ≡ true
word_here c s h k = rw (first_is s c h) k

pub digit_here : (c : ℕ) (s : Text) → first s ≡ Some c → is_digit c ≡ true → begins_number s ≡ true
digit_here c s h k = rw (first_is s c h) (rw k refl)

pub no_digit_here : (c : ℕ) (s : Text) → first s ≡ Some c → is_digit c ≡ false → is_sign c ≡ false → begins_number s ≡ false
no_digit_here c s h k m = rw (first_is s c h) (rw (k, m) refl)

-- a letter begins a word and no number
pub letter_here : (c : ℕ) (s : Text) → first s ≡ Some c → is_ascii_alphabetic c ≡ true → starts is_identifier_char s ≡ true
letter_here c s h k = word_here c s h (letter_word c k)

pub no_digit_letter : (c : ℕ) (s : Text) → first s ≡ Some c → is_ascii_alphabetic c ≡ true → begins_number s ≡ false
no_digit_letter c s h k = no_digit_here c s h (letter_no_digit c k) (letter_no_sign c k)

pub few_costs : {A : Type 0} (r : Result A LexFailure) (a b : Here) → Moves a b → KindCosts 20 r a b → KindCosts 22 r a b
few_costs (Ok x) a b v p = record { fewer = p.fewer; costs = record { most = omega (arith, p.costs.most, p.fewer); least = p.costs.least } }
few_costs (Err Faulty) a b v p = record { most = omega (arith, p.most, fewer_bytes v); least = p.least }
few_costs (Err Memory) a b v p = tt

spaces_of : (p r : Text) → list_all is_space p ≡ true → Star Space (p ++ r) r
spaces_of [] r h = none
spaces_of (c ∷ p) r h = let k = and_parts (is_space c) _ h in more (space_char k.0) (spaces_of p r k.1)

some_spaces : (c : ℕ) (p s r : Text) → c ∷ s ≡ p ++ r → is_space c ≡ true → list_all is_space p ≡ true → starts is_space r ≡ false → Plus Space (c ∷ s) r
some_spaces c [] s r e h k n = absurd (clash (starts is_space r) (rw (← e) h) n)
some_spaces c (d ∷ p) s r e h k n = rw e (let x = and_parts (is_space d) _ k in plus (space_char x.0) (spaces_of p r x.1))

pub spaces_alone : (c : ℕ) (a b : Here) → first a.rest ≡ Some c → is_space c ≡ true → Skips is_space a b → Alone a.rest space b.rest
spaces_alone c a b h w (u, k) = let f = first_is a.rest c h in rw f (Alone.run (some_spaces c u (tail a.rest) b.rest (sym f ∙ k.text) w k.all k.stops))

some_run : (c : ℕ) (u s r : Text) → c ∷ s ≡ u ++ r → is_space c ≡ true → starts is_space r ≡ false → 1 ≤ length u
some_run c [] s r e h n = absurd (clash (starts is_space r) (rw (← e) h) n)
some_run c (d ∷ u) s r e h n = omega arith

pub spaces_costs : (c : ℕ) (a b : Here) → first a.rest ≡ Some c → is_space c ≡ true → Skips is_space a b → PieceCosts 22 a b
spaces_costs c a b h w (u, k) =
    let some = some_run c u (tail a.rest) b.rest (sym (first_is a.rest c h) ∙ k.text) w k.stops in
    record {
      fewer = omega (arith, some, ap bytes k.text, bytes-append u b.rest, length-bytes u);
      costs = record { most = omega (arith, some, k.steps, ap bytes k.text, bytes-append u b.rest, length-bytes u); least = omega (arith, k.steps, ap length k.text, length-append u b.rest) };
    }

pub spaces_apart : (c : ℕ) (a b : Here) → first a.rest ≡ Some c → is_space c ≡ true → Skips is_space a b → (starts is_space a.rest ≡ true) × (starts is_space b.rest ≡ false)
spaces_apart c a b h w (u, k) = (rw (first_is a.rest c h) w, k.stops)

pub letter_there : (c : ℕ) (a : Here) → first a.rest ≡ Some c → is_ascii_alphabetic c ≡ true → starts is_ascii_alphabetic a.rest ≡ true
letter_there c a h w = rw (first_is a.rest c h) w

pub not_apart : (c : ℕ) (a : Here) → first a.rest ≡ Some c → is_space c ≡ false → (c == 10) ≡ false → is_ascii_alphabetic c ≡ false → starts begins_apart a.rest ≡ false
not_apart c a h x y z = rw (first_is a.rest c h, x, y) z

pub skip_moves : (a b : Here) → Skips is_space a b → Moves a b
skip_moves a b (u, k) = moves_ran k

read_newline : (v : Bool) (c : ℕ) (s : Text) (a b : Here) → a.rest ≡ c ∷ s → is_newline_char c ≡ true → ReadsNewline v a b → Newline a.rest b.rest
read_newline true c s a b f w n = n
read_newline false c s a b f w n = let t = newline_there c s w in absurd (n.1 t.0 (subst (λ (z : Text). Newline z t.0) (sym f) t.1))

pub newline_here : (c : ℕ) (v : Bool) (a b : Here) → first a.rest ≡ Some c → is_newline_char c ≡ true → ReadsNewline v a b → BeginsToken a.rest newline b.rest
newline_here c v a b h w n = t_newline (break_newline (read_newline v c (tail a.rest) a b (first_is a.rest c h) w n))

pub newline_costs : (c : ℕ) (v : Bool) (a b : Here) → first a.rest ≡ Some c → is_newline_char c ≡ true → ReadsNewline v a b → Moves a b → Costs 2 1 a b → PieceCosts 22 a b
newline_costs c v a b h w n m k =
    let less = fewer m (break_shorter (break_newline (read_newline v c (tail a.rest) a b (first_is a.rest c h) w n))) in
    record { fewer = less; costs = record { most = omega (arith, k.most, less); least = k.least } }

took_here : (c : ℕ) (o : Option ℕ) (a b : Here) → first a.rest ≡ Some c → Took o a b → Took (Some c) a b
took_here c None a b h (x, y) = let z : first a.rest ≡ None = ap first x in cc
took_here c (Some d) a b h (x, y, z, w) = let e : d ≡ c = let f : first a.rest ≡ Some d = ap first x in cc in subst (λ (v : ℕ). Took (Some v) a b) e (x, y, z, w)

pub punctuation_here : (c : ℕ) (k : TokenKind) (o : Option ℕ) (a b : Here) → first a.rest ≡ Some c → IsPunctuation c (Some k) → Took o a b → BeginsToken a.rest (kind_view k) b.rest
punctuation_here c k o a b h i t = rw (took_here c o a b h t).0 (i b.rest)

line_feed : (s : Text) → Newline (10 ∷ s) s
unfolding is_newline_char
line_feed s = newline_one refl refl

pub line_feed_here : (c : ℕ) (o : Option ℕ) (a b : Here) → first a.rest ≡ Some c → c ≡ 10 → Took o a b → BeginsToken a.rest newline b.rest
line_feed_here c o a b h e t = rw ((took_here c o a b h t).0, e) (t_newline (break_newline (line_feed b.rest)))

pub take_moves : (c : ℕ) (o : Option ℕ) (a b : Here) → first a.rest ≡ Some c → Took o a b → Moves a b
take_moves c o a b h t = moves_one (took_here c o a b h t)

pub punctuation_costs : (c : ℕ) (o : Option ℕ) (a b : Here) → first a.rest ≡ Some c → Took o a b → PieceCosts 22 a b
punctuation_costs c o a b h t =
    let (x, y, z, w) = took_here c o a b h t in
    let one = (len_utf8_bounds c).0 in
    record { fewer = omega (arith, ap bytes x, one); costs = record { most = omega (arith, ap bytes x, one, z); least = omega (arith, ap length x, z) } }

-- another character
pub other_here : (c : ℕ) (s r : Text) → first s ≡ Some c → ((c == 34 || c == 35) || c == 92) ≡ false → (c == 47) ≡ false → is_identifier_char c ≡ false → is_space c ≡ false → is_newline_char c ≡ false → is_single c ≡ false → ReadsKind s (Err Faulty) r
other_here c s r h p q w x y m = rw (first_is s c h) (record { begun = λ f. cc; none = no_alien c (tail s) (alien c p q w x y m) })
  where
    alien : (c : ℕ) → ((c == 34 || c == 35) || c == 92) ≡ false → (c == 47) ≡ false → is_identifier_char c ≡ false → is_space c ≡ false → is_newline_char c ≡ false → is_single c ≡ false → Alien c
    alien c p q w x y m = record { space = x; newline = y; piece = rw w (grind (arith, nat_tests)); punctuation = grind (arith, nat_tests) }

-- the text of the keyword of a number
ascii : (s : Text) → list_all (λ c. nat_lt c 128) s ≡ true → IsAscii s
ascii [] h i = lit< tt
ascii (c ∷ s) h zero = ltb-true c 128 (and_parts (nat_lt c 128) (list_all (λ c. nat_lt c 128) s) h).0
ascii (c ∷ s) h (suc i) = ascii s (and_parts (nat_lt c 128) (list_all (λ c. nat_lt c 128) s) h).1 i

pub infinity_text : chars (codes "#inf") ≡ codes "#inf"
infinity_text = chars-IsAscii (codes "#inf") (ascii (codes "#inf") refl)

pub negative_infinity_text : chars (codes "#-inf") ≡ codes "#-inf"
negative_infinity_text = chars-IsAscii (codes "#-inf") (ascii (codes "#-inf") refl)

pub not_a_number_text : chars (codes "#nan") ≡ codes "#nan"
not_a_number_text = chars-IsAscii (codes "#nan") (ascii (codes "#nan") refl)

pub infinity_float : FloatText (chars (codes "#inf"))
infinity_float = inr (inl infinity_text)

pub negative_infinity_float : FloatText (chars (codes "#-inf"))
negative_infinity_float = inr (inr (inl negative_infinity_text))

pub not_a_number_float : FloatText (chars (codes "#nan"))
not_a_number_float = inr (inr (inr not_a_number_text))

pub float_same : {E : Type 0} (o : Result KdlValue E) (t u : Text) → t ≡ u → IfOk o (λ v. value_tree v ≡ float t) → IfOk o (λ v. value_tree v ≡ float u)
float_same (Ok v) t u e h = h ∙ ap float e
float_same (Err x) t u e h = tt
