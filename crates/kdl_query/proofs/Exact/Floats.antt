-- The texts of floats are decimals, but for three keywords.
use Rattle.std.proofs.Common.{◌≡◌, ℕ, true, false, inl, inr, List, [], ◌∷◌, Some, None, ltb-true, refl, sym, ap, subst, ◌∙◌}
use Rattle.std.proofs.lemmas.Bool.{false_from_ne_true, and_parts}
use Rattle.std.proofs.lemmas.Slice.Eq.{bytes_eq-Decides}
use Rattle.std.proofs.lemmas.Str.{encodes-chars}
use Rattle.std.proofs.lemmas.Str.Ascii.{encodes-IsAscii, IsAscii-nil, IsAscii-cons}
use Rattle.std.specs.List.{list_all}
use Rattle.std.specs.Prelude.{codes, nat_lt}
use Rattle.std.specs.Str.{chars, bytes_eq, IsUtf8, IsAscii, encode_utf8_all}
use Rattle.kdl_text.specs.Chars.{Text}
use Rattle.kdl_text.specs.Numbers.{Decimal, FloatText}
use Rattle.kdl_value.specs.Tree.{float_text_of}
use Rattle.kdl_value.specs.declared.float.KdlFloat.{KdlFloat}
use Rattle.kdl_value.specs.declared.value.KdlValue.TheVariants.{Float as FloatValue}
use Rattle.kdl_value.proofs.WellFormed.{other_value}
use Rattle.kdl_query.specs.Decimal.{float_number, rational_of, finite, infinity, negative_infinity}
use Rattle.kdl_query.proofs.Exact.Shapes.{decimal_bytes}

text_is_float : (f : KdlFloat) → FloatText (float_text_of f)
text_is_float f = other_value (FloatValue f) (λ z e. cc)

small_bytes : (w : List ℕ) → list_all (λ c. nat_lt c 128) w ≡ true → IsAscii w
small_bytes [] h = IsAscii-nil
small_bytes (c ∷ w) h = let (x, y) = and_parts (nat_lt c 128) (list_all (λ c. nat_lt c 128) w) h in IsAscii-cons c w (ltb-true c 128 x) (small_bytes w y)

-- the bytes of a text are those of a keyword if its characters are
bytes_of : (s w : List ℕ) → IsUtf8 s → list_all (λ c. nat_lt c 128) w ≡ true → chars s ≡ w → s ≡ w
bytes_of s w u k e = sym (encodes-chars s u) ∙ ap encode_utf8_all e ∙ encodes-IsAscii w (small_bytes w k)

module _ (f : KdlFloat) (s : List ℕ) (u : IsUtf8 s) (e : chars s ≡ float_text_of f) where
  pub is_infinity : s ≡ codes "#inf" → Some infinity ≡ float_number (float_text_of f)
  unfolding chars
  is_infinity h = let t : float_text_of f ≡ codes "#inf" = sym e ∙ ap chars h in rw t refl

  pub is_negative_infinity : s ≡ codes "#-inf" → Some negative_infinity ≡ float_number (float_text_of f)
  unfolding chars
  is_negative_infinity h = let t : float_text_of f ≡ codes "#-inf" = sym e ∙ ap chars h in rw t refl

  pub is_no_number : s ≡ codes "#nan" → None ≡ float_number (float_text_of f)
  unfolding chars
  is_no_number h = let t : float_text_of f ≡ codes "#nan" = sym e ∙ ap chars h in rw t refl

  module _ (a : s ≡ codes "#inf" → ⊥) (b : s ≡ codes "#-inf" → ⊥) (c : s ≡ codes "#nan" → ⊥) where
    in_chars : Decimal (chars s) [] (chars s)
    in_chars = go (subst FloatText (sym e) (text_is_float f))
      where
        go : FloatText (chars s) → Decimal (chars s) [] (chars s)
        go (inl d) = d
        go (inr (inl k)) = absurd (a (bytes_of s (codes "#inf") u refl k))
        go (inr (inr (inl k))) = absurd (b (bytes_of s (codes "#-inf") u refl k))
        go (inr (inr (inr k))) = absurd (c (bytes_of s (codes "#nan") u refl k))

    as_bytes : chars s ≡ s
    as_bytes = decimal_bytes s u in_chars

    pub is_decimal : Decimal s [] s
    is_decimal = subst (λ (t : Text). Decimal t [] t) as_bytes in_chars

    differs : (w : Text) → (s ≡ w → ⊥) → bytes_eq s w ≡ false
    differs w n = false_from_ne_true (bytes_eq s w) (λ k. n ((bytes_eq-Decides s w).0 k))

    pub float_is : Some (finite (rational_of s)) ≡ float_number (float_text_of f)
    float_is =
        let t : float_text_of f ≡ s = sym e ∙ as_bytes in
        rw (t, differs (codes "#inf") a, differs (codes "#-inf") b, differs (codes "#nan") c) refl
