-- The first two characters of a token tell which tokens are refused with it.
use Rattle.std.proofs.Common.{◌≡◌, ℕ, Bool, true, false, ◌==◌, [], ◌∷◌, ◌++◌, take, refl, sym, ap, subst, ◌∙◌}
use Rattle.std.proofs.lemmas.Bool.{eqb-true}
use Rattle.kdl_text.specs.Chars.{Text, is_identifier_char, is_digit, is_sign}
use Rattle.kdl_text.specs.Numbers.{begins_number}
use Rattle.kdl_text.proofs.Numeric.DecimalUnique.{number_begins}
use Rattle.kdl_text.proofs.Numeric.KeywordUnique.{keyword_begins}
use Rattle.kdl_text.proofs.Numeric.NumberUnique.{number_not_bare}
use Rattle.kdl_text.proofs.Quoted.BareReads.{bare_begins}
use Rattle.kdl_text.proofs.Quoted.StringUnique.{is_quoted_begins, is_raw_begins, is_raw_front}
use Rattle.kdl_value.specs.Data.{Value}
use Rattle.kdl_syntax.specs.Pieces.{StringPiece, bare, quoted, raw, PlainPiece, number, keyword}
use Rattle.kdl_syntax.specs.Tokens.{Token, space, newline, slashdash, string, value, left, right, opening, closing, equals, semicolon, bom, BeginsToken, t_string, t_value}
use Rattle.kdl_syntax.proofs.Lexing.FirstCharacters.{number_identifier}
use Rattle.kdl_syntax.proofs.Lexing.StringUnique.{quote_identifier, sign_identifier, quote_sign, raw_second}
use Rattle.kdl_syntax.proofs.Lexing.TokenUnique.{kind_of, kind_is, kind_front, kind_first, no_token, no_slash}

-- where the first token may not come, nor may the second: it is of the same kind, or a number or keyword in place of a string
abbrev pub RefusedWith : Token → Token → Type 0
RefusedWith (string v) (string w) = Unit {0}
RefusedWith (string v) (value w) = Unit {0}
RefusedWith (value v) (value w) = Unit {0}
RefusedWith (string v) j = ⊥
RefusedWith (value v) j = ⊥
RefusedWith k j = k ≡ j

-- a value is not refused with a string
abbrev pub Fills : Token → Token → Type 0
Fills (value v) (string w) = ⊥
Fills k j = Unit {0}

of_kind : (k j : Token) → kind_of k ≡ kind_of j → Fills k j → RefusedWith k j
unfolding kind_of
of_kind space space e n = refl
of_kind newline newline e n = refl
of_kind slashdash slashdash e n = refl
of_kind left left e n = refl
of_kind right right e n = refl
of_kind opening opening e n = refl
of_kind closing closing e n = refl
of_kind equals equals e n = refl
of_kind semicolon semicolon e n = refl
of_kind bom bom e n = refl
of_kind (string v) (string w) e n = tt
of_kind (string v) (value w) e n = tt
of_kind (value v) (value w) e n = tt
of_kind (value v) (string w) e n = absurd n
of_kind _ _ e n = absurd cc

-- no string begins as a number does
pub number_no_string : {c : ℕ} {s r v : Text} → begins_number (c ∷ s) ≡ true → StringPiece (c ∷ s) r v → ⊥
number_no_string h (bare x) = number_not_bare h x
number_no_string {c = c} {s = s} h (quoted x) = quote_identifier (c ∷ s) (is_quoted_begins x) (number_identifier c s h)
number_no_string {c = c} {s = s} h (raw x) = sign_identifier (c ∷ s) (is_raw_begins x) (number_identifier c s h)

-- nor as a keyword does
pub keyword_no_string : {c d : ℕ} {s r v : Text} → c ≡ 35 → is_identifier_char d ≡ true → StringPiece (c ∷ d ∷ s) r v → ⊥
keyword_no_string {c = c} {d = d} {s = s} e h (bare x) = sign_identifier (c ∷ d ∷ s) (rw e refl) (bare_begins x)
keyword_no_string {c = c} {d = d} {s = s} e h (quoted x) = quote_sign (c ∷ d ∷ s) (is_quoted_begins x) (rw e refl)
keyword_no_string {c = c} {d = d} {s = s} e h (raw x) =
    let (n, m, some, f) = is_raw_front x in
    let g = raw_second n m some d s (sym f ∙ ap (λ z. z ∷ d ∷ s) e) in
    absurd cc

-- nor after two characters that a number or a keyword begins with
two_no_string : {c d : ℕ} {s u r t w : Text} {v : Value} → PlainPiece (c ∷ d ∷ s) r v → StringPiece (c ∷ d ∷ u) t w → ⊥
two_no_string (number n e) p = number_no_string (number_begins n) p
two_no_string {c = c} {d = d} (keyword k e) p =
    let (x, y, f, h) = keyword_begins k in
    let a : c ≡ 35 = cc in let b : d ≡ x = cc in keyword_no_string a (rw b h) p

one_digit : (c : ℕ) → begins_number (c ∷ []) ≡ true → (u : Text) → begins_number (c ∷ u) ≡ true
one_digit c h u = go (is_digit c) (is_sign c) refl refl
  where
    go : (a b : Bool) → is_digit c ≡ a → is_sign c ≡ b → begins_number (c ∷ u) ≡ true
    go true b e f = rw e refl
    go false true e f = let x = rw (e, f) at h in cc
    go false false e f = let x = rw (e, f) at h in cc

one_no_string : {c : ℕ} {u r t w : Text} {v : Value} → PlainPiece (c ∷ []) r v → StringPiece (c ∷ u) t w → ⊥
one_no_string {c = c} {u = u} (number n e) p = number_no_string (one_digit c (number_begins n) u) p
one_no_string (keyword k e) p = let (x, y, f, h) = keyword_begins k in absurd cc

two_fill : {c d : ℕ} {s u r t : Text} {k j : Token} → BeginsToken (c ∷ d ∷ s) k r → BeginsToken (c ∷ d ∷ u) j t → Fills k j
two_fill (t_value p) (t_string q) = two_no_string p q
two_fill _ _ = tt

one_fill : {c : ℕ} {u r t : Text} {k j : Token} → BeginsToken (c ∷ []) k r → BeginsToken (c ∷ u) j t → Fills k j
one_fill (t_value p) (t_string q) = one_no_string p q
one_fill _ _ = tt

slash_alone : {r : Text} {k : Token} (c : ℕ) → BeginsToken (c ∷ []) k r → (c == 47) ≡ false
slash_alone {r = r} {k = k} c b = go (c == 47) refl
  where
    go : (b : Bool) → (c == 47) ≡ b → b ≡ false
    go true e = let f : c ≡ 47 = eqb-true c 47 e in absurd (no_slash [] (λ r x. elim x [ ]) (λ r x. elim x [ ]) refl r k (subst (λ (z : ℕ). BeginsToken (z ∷ []) k r) f b))
    go false e = refl

-- each token that begins with the same two characters is refused with it
pub refused_with : (s u : Text) {r t : Text} {k j : Token} → BeginsToken s k r → BeginsToken (take 2 s ++ u) j t → RefusedWith k j
refused_with [] u b b' = absurd (no_token b)
refused_with (c ∷ []) u {k = k} {j = j} b b' = of_kind k j (sym (kind_is b) ∙ kind_first c [] u (slash_alone c b) ∙ kind_is b') (one_fill b b')
refused_with (c ∷ d ∷ s) u {k = k} {j = j} b b' = of_kind k j (sym (kind_is b) ∙ kind_front c d s u ∙ kind_is b') (two_fill b b')
