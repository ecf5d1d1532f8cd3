-- What the first characters of a token tell.
use Rattle.std.proofs.Common.{◌≡◌, ℕ, Bool, true, false, not, ◌∷◌, refl, sym, ap, ◌∙◌, ◌||◌, arith}
use Rattle.std.proofs.lemmas.Bool.{and_parts}
use Rattle.std.proofs.lemmas.Bool.Decides.{nat_tests}
use Rattle.kdl_text.specs.Chars.{Text, is_space, is_newline_char, is_banned, is_punctuation, is_identifier_char, is_digit, is_sign, starts}
use Rattle.kdl_text.specs.Numbers.{begins_number}

or_false : (a b : Bool) → not (a || b) ≡ true → (a ≡ false) × (b ≡ false)
or_false true b h = cc
or_false false true h = cc
or_false false false h = (refl, refl)

not_both : (a : Bool) → a ≡ true → a ≡ false → ⊥
not_both a h k = cc

-- an identifier character is no space, no newline and no punctuation
pub record Plain (c : ℕ) : Type 0 where
  pub space : is_space c ≡ false
  pub newline : is_newline_char c ≡ false
  pub punctuation : is_punctuation c ≡ false

pub plain : (c : ℕ) → is_identifier_char c ≡ true → Plain c
unfolding is_identifier_char
plain c h =
    let a = or_false ((is_space c || is_newline_char c) || is_banned c) (is_punctuation c) h in
    let b = or_false (is_space c || is_newline_char c) (is_banned c) (ap not a.0) in
    let d = or_false (is_space c) (is_newline_char c) (ap not b.0) in
    record { space = d.0; newline = d.1; punctuation = a.1 }

punctuation_34 : is_punctuation 34 ≡ true
unfolding is_punctuation
punctuation_34 = refl

pub no_quote : (c : ℕ) → is_identifier_char c ≡ true → c ≡ 34 → ⊥
no_quote c h e = not_both (is_punctuation 34) punctuation_34 (ap is_punctuation (sym e) ∙ (plain c h).punctuation)

pub digit_identifier : (c : ℕ) → is_digit c ≡ true → is_identifier_char c ≡ true
unfolding is_identifier_char is_space is_newline_char is_banned is_punctuation
digit_identifier c h = grind (arith, nat_tests)

pub sign_identifier : (c : ℕ) → is_sign c ≡ true → is_identifier_char c ≡ true
unfolding is_identifier_char is_space is_newline_char is_banned is_punctuation
sign_identifier c h = grind (arith, nat_tests)

pub number_identifier : (c : ℕ) (s : Text) → begins_number (c ∷ s) ≡ true → is_identifier_char c ≡ true
number_identifier c s h = go (is_digit c) refl
  where
    go : (b : Bool) → is_digit c ≡ b → is_identifier_char c ≡ true
    go true e = digit_identifier c e
    go false e = sign_identifier c (and_parts (is_sign c) (starts is_digit s) (rw e at h)).0
