-- Strings in any spelling, numbers and keywords: a text begins with one at most, and what each begins with.
use Rattle.std.proofs.Common.{◌≡◌, ℕ, zero, suc, ◌<◌, Bool, true, false, ◌||◌, ◌==◌, [], ◌∷◌, ◌++◌, length, refl, sym, ap, ◌∙◌, arith}
use Rattle.std.proofs.lemmas.Bool.{eqb-true}
use Rattle.kdl_text.specs.Chars.{Text, is_identifier_char, starts, times}
use Rattle.kdl_text.specs.Raw.{IsRaw}
use Rattle.kdl_text.specs.Bare.{bare as bare_text}
use Rattle.kdl_text.specs.Numbers.{IsNumber, NumberValue, IsKeyword, keyword as a_keyword, keyword_text, begins_number}
use Rattle.kdl_text.specs.declared.numbers.Keyword.{Keyword}
use Rattle.kdl_text.specs.declared.numbers.Keyword.TheVariants.{True, False, Null, Infinity, NegativeInfinity, NotANumber}
use Rattle.kdl_text.proofs.Quoted.BareReads.{bare_det, bare_begins, bare_shorter}
use Rattle.kdl_text.proofs.Numeric.DecimalUnique.{number_det, number_shorter, number_begins}
use Rattle.kdl_text.proofs.Looking.Ends.{End}
use Rattle.kdl_text.proofs.Numeric.KeywordUnique.{keyword_det, keyword_begins}
use Rattle.kdl_text.proofs.Quoted.StringUnique.{is_quoted_det, is_quoted_begins, is_quoted_shorter, is_raw_det, is_raw_begins, is_raw_shorter}
use Rattle.kdl_text.proofs.Numeric.NumberUnique.{number_not_bare}
use Rattle.kdl_value.specs.Data.{Value}
use Rattle.kdl_syntax.specs.Pieces.{StringPiece, bare, quoted, raw, PlainPiece, number, keyword, number_value, keyword_value}
use Rattle.kdl_syntax.proofs.Lexing.FirstCharacters.{no_quote, number_identifier}
use Rattle.kdl_syntax.proofs.Moving.LeafEnds.{any_number_end, keyword_end}
use Rattle.kdl_text.proofs.Quoted.StringEnds.{is_quoted_end, is_raw_end}

-- an identifier character, a quote or a number sign
abbrev pub begins_piece : ℕ → Bool
begins_piece c = is_identifier_char c || (c == 34 || c == 35)

or_true : (b : Bool) → (b || true) ≡ true
or_true true = refl
or_true false = refl

pub at_identifier : (s : Text) → starts is_identifier_char s ≡ true → starts begins_piece s ≡ true
at_identifier [] h = h
at_identifier (c ∷ s) h = rw h refl

at_quote : (s : Text) → starts (λ c. c == 34) s ≡ true → starts begins_piece s ≡ true
at_quote [] h = h
at_quote (c ∷ s) h = rw (h, or_true (is_identifier_char c)) refl

at_sign : (s : Text) → starts (λ c. c == 35) s ≡ true → starts begins_piece s ≡ true
at_sign [] h = h
at_sign (c ∷ s) h = rw (h, or_true (c == 34), or_true (is_identifier_char c)) refl

pub number_front : (s : Text) → begins_number s ≡ true → starts is_identifier_char s ≡ true
number_front [] h = h
number_front (c ∷ s) h = number_identifier c s h

pub keyword_front : {s r : Text} {k : Keyword} → IsKeyword s r k → starts (λ c. c == 35) s ≡ true
keyword_front {r = r} {k = k} (a_keyword e n) = ap (starts (λ c. c == 35)) e ∙ go k
  where
    go : (k : Keyword) → starts (λ c. c == 35) (keyword_text k ++ r) ≡ true
    go True = refl
    go False = refl
    go Null = refl
    go Infinity = refl
    go NegativeInfinity = refl
    go NotANumber = refl

-- no character is an identifier character and a quote, or a number sign, or both of these
pub quote_identifier : (s : Text) → starts (λ c. c == 34) s ≡ true → starts is_identifier_char s ≡ true → ⊥
quote_identifier [] h k = cc
quote_identifier (c ∷ s) h k = no_quote c k (eqb-true c 34 h)

sign_punctuation : is_identifier_char 35 ≡ false
unfolding is_identifier_char Rattle.kdl_text.specs.Chars.is_space Rattle.kdl_text.specs.Chars.is_newline_char Rattle.kdl_text.specs.Chars.is_banned Rattle.kdl_text.specs.Chars.is_punctuation
sign_punctuation = refl

quote_no_identifier : is_identifier_char 34 ≡ false
unfolding is_identifier_char Rattle.kdl_text.specs.Chars.is_space Rattle.kdl_text.specs.Chars.is_newline_char Rattle.kdl_text.specs.Chars.is_banned Rattle.kdl_text.specs.Chars.is_punctuation
quote_no_identifier = refl

pub sign_identifier : (s : Text) → starts (λ c. c == 35) s ≡ true → starts is_identifier_char s ≡ true → ⊥
sign_identifier [] h k = cc
sign_identifier (c ∷ s) h k = let e : is_identifier_char c ≡ is_identifier_char 35 = ap is_identifier_char (eqb-true c 35 h) in let m = sign_punctuation in cc

pub quote_sign : (s : Text) → starts (λ c. c == 34) s ≡ true → starts (λ c. c == 35) s ≡ true → ⊥
quote_sign [] h k = cc
quote_sign (c ∷ s) h k = let a : c ≡ 34 = eqb-true c 34 h in let b : c ≡ 35 = eqb-true c 35 k in absurd cc

-- a text begins with one string at most
pub string_det : {s r t v w : Text} → StringPiece s r v → StringPiece s t w → (r ≡ t) × (v ≡ w)
string_det (bare x) (bare y) = bare_det x y
string_det (quoted x) (quoted y) = is_quoted_det x y
string_det (bare x) (quoted y) = absurd (quote_identifier _ (is_quoted_begins y) (bare_begins x))
string_det (raw x) (raw y) = is_raw_det x y
string_det (bare x) (raw y) = absurd (sign_identifier _ (is_raw_begins y) (bare_begins x))
string_det (raw x) (bare y) = absurd (sign_identifier _ (is_raw_begins x) (bare_begins y))
string_det {s = s} (quoted x) (raw y) = absurd (quote_sign s (is_quoted_begins x) (is_raw_begins y))
string_det {s = s} (raw x) (quoted y) = absurd (quote_sign s (is_quoted_begins y) (is_raw_begins x))
string_det (quoted x) (bare y) = absurd (quote_identifier _ (is_quoted_begins x) (bare_begins y))

pub string_begins : {s r v : Text} → StringPiece s r v → starts begins_piece s ≡ true
string_begins (bare x) = at_identifier _ (bare_begins x)
string_begins (quoted x) = at_quote _ (is_quoted_begins x)
string_begins (raw x) = at_sign _ (is_raw_begins x)

pub string_end : {s r v : Text} → StringPiece s r v → End s r
string_end (bare (bare_text {w = w} e x y)) = record { piece = w; text = e }
string_end (quoted x) = is_quoted_end x
string_end (raw x) = is_raw_end x

pub string_shorter : {s r v : Text} → StringPiece s r v → length r < length s
string_shorter (bare x) = bare_shorter x
string_shorter (quoted x) = is_quoted_shorter x
string_shorter (raw x) = is_raw_shorter x

-- no text begins with a string and a number, or with a string and a keyword
string_number : {s r t v : Text} {n : NumberValue} → StringPiece s r v → IsNumber s t n → ⊥
string_number (bare x) n = number_not_bare (number_begins n) x
string_number {s = s} (raw x) n = sign_identifier s (is_raw_begins x) (number_front s (number_begins n))
string_number {s = s} (quoted x) n = quote_identifier s (is_quoted_begins x) (number_front s (number_begins n))

-- after the first number sign of a raw string is another one, or a quote
pub raw_second : (n : ℕ) (b : Text) → 0 < n → (c : ℕ) (t : Text) → times n 35 ++ 34 ∷ b ≡ 35 ∷ c ∷ t → is_identifier_char c ≡ false
raw_second zero b h c t e = absurd (omega arith)
raw_second (suc zero) b h c t e = let d : 34 ≡ c = cc in ap is_identifier_char (sym d) ∙ quote_no_identifier
raw_second (suc (suc n)) b h c t e = let d : 35 ≡ c = cc in ap is_identifier_char (sym d) ∙ sign_punctuation

raw_keyword : {s r t v : Text} {k : Keyword} → IsRaw s r v → IsKeyword s t k → ⊥
raw_keyword x k = go x (keyword_begins k)
  where
    go : {s r v : Text} → IsRaw s r v → (c : ℕ) × (u : Text) × (s ≡ 35 ∷ c ∷ u) × (is_identifier_char c ≡ true) → ⊥
    go (IsRaw.on_one_line x) (c, u, e, h) = let z = raw_second x.signs x.body x.some c u (sym x.text ∙ e) in cc
    go (IsRaw.on_many_lines x) (c, u, e, h) = let z = raw_second x.signs (34 ∷ 34 ∷ x.body) x.some c u (sym x.text ∙ e) in cc

string_keyword : {s r t v : Text} {k : Keyword} → StringPiece s r v → IsKeyword s t k → ⊥
string_keyword {s = s} (bare x) k = sign_identifier s (keyword_front k) (bare_begins x)
string_keyword (raw x) k = raw_keyword x k
string_keyword {s = s} (quoted x) k = quote_sign s (is_quoted_begins x) (keyword_front k)

pub string_or_plain : {s r t v : Text} {w : Value} → StringPiece s r v → PlainPiece s t w → ⊥
string_or_plain p (number n e) = string_number p n
string_or_plain p (keyword k e) = string_keyword p k

number_keyword : {s r t : Text} {n : NumberValue} {k : Keyword} → IsNumber s r n → IsKeyword s t k → ⊥
number_keyword {s = s} n k = sign_identifier s (keyword_front k) (number_front s (number_begins n))

-- a text begins with one number or keyword at most
pub plain_det : {s r t : Text} {v w : Value} → PlainPiece s r v → PlainPiece s t w → (r ≡ t) × (v ≡ w)
plain_det (number n e) (number m f) = let d = number_det n m in (d.0, e ∙ ap number_value d.1 ∙ sym f)
plain_det (keyword n e) (keyword m f) = let d = keyword_det n m in (d.0, e ∙ ap keyword_value d.1 ∙ sym f)
plain_det (number n e) (keyword k f) = absurd (number_keyword n k)
plain_det (keyword k e) (number n f) = absurd (number_keyword n k)

pub plain_begins : {s r : Text} {v : Value} → PlainPiece s r v → starts begins_piece s ≡ true
plain_begins {s = s} (number n e) = at_identifier s (number_front s (number_begins n))
plain_begins (keyword k e) = at_sign _ (keyword_front k)

pub plain_end : {s r : Text} {v : Value} → PlainPiece s r v → End s r
plain_end (number n e) = any_number_end n
plain_end (keyword k e) = keyword_end k

keyword_shorter : {s r : Text} {k : Keyword} → IsKeyword s r k → length r < length s
keyword_shorter {r = r} {k = k} (a_keyword e n) = go k e
  where
    go : {s : Text} (k : Keyword) → s ≡ keyword_text k ++ r → length r < length s
    go True e = omega (arith, ap length e)
    go False e = omega (arith, ap length e)
    go Null e = omega (arith, ap length e)
    go Infinity e = omega (arith, ap length e)
    go NegativeInfinity e = omega (arith, ap length e)
    go NotANumber e = omega (arith, ap length e)

pub plain_shorter : {s r : Text} {v : Value} → PlainPiece s r v → length r < length s
plain_shorter (number n e) = number_shorter n
plain_shorter (keyword k e) = keyword_shorter k
