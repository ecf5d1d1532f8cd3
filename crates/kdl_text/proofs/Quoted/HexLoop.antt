-- The loop over the digits of an escape.
use Rattle.std.proofs.Common.{◌≡◌, ℕ, zero, suc, ◌+◌, ◌*◌, ◌<◌, ◌≤◌, ◌^◌, true, false, [], ◌∷◌, ◌++◌, length, refl, sym, ap, subst, ◌∙◌, arith, append_assoc, append-nil, length-append, lt-ltb, add-one, ◌⊎◌, inl, inr}
use Rattle.std.proofs.lemmas.Bool.{and_parts, false≢true}
use Rattle.std.proofs.lemmas.Bool.Decides.{nat_tests}
use Rattle.std.proofs.Math.Nat.{pow-succ'}
use Rattle.std.proofs.lemmas.List.Folds.{list_all-append}
use Rattle.std.specs.List.{list_all}
use Rattle.std.specs.Prelude.{Option, Some, None, IfSome, IfNone}
use Rattle.std.specs.Option.{SomeIff}
use Rattle.std.specs.Char.{digit_value, IsScalar}
use Rattle.std.specs.Str.Parse.{digits_value}
use Rattle.kdl_text.specs.Chars.{Text, is_scalar}
use Rattle.kdl_text.specs.Internal.Here.{Here, Took}
use Rattle.kdl_text.specs.Internal.Reading.{Past}
use Rattle.kdl_text.specs.Strings.{HexNumber, is_hex}
use Rattle.kdl_text.proofs.Numeric.NumberReads.{value_after}
use Rattle.kdl_text.proofs.Looking.SliceCost.{past_then, past_more, past_took, past_look}

brace : is_hex 125 ≡ false
brace = refl

-- digits at the front of a number are the front of its digits
hex_same : (ds a ks r : Text) → ds ++ a ≡ ks ++ 125 ∷ r → list_all is_hex ds ≡ true → (es : Text) × (ks ≡ ds ++ es) × (a ≡ es ++ 125 ∷ r)
hex_same [] a ks r e h = (ks, refl, e)
hex_same (d ∷ ds) a [] r e h = let same : d ≡ 125 = cc in absurd (false≢true (sym brace ∙ ap is_hex (sym same) ∙ (and_parts (is_hex d) _ h).0))
hex_same (d ∷ ds) a (k ∷ ks) r e h =
    let head : d ≡ k = cc in
    let tail : ds ++ a ≡ ks ++ 125 ∷ r = cc in
    let (es, is, rest) = hex_same ds a ks r tail (and_parts (is_hex d) _ h).1 in
    (es, ap (λ z. z ∷ ks) (sym head) ∙ ap (λ z. d ∷ z) is, rest)

-- after them is the brace, or another digit
next_is : (d : ℕ) (s es r : Text) → d ∷ s ≡ es ++ 125 ∷ r → list_all is_hex es ≡ true → ((es ≡ []) × (d ≡ 125) × (s ≡ r)) ⊎ ((is_hex d ≡ true) × (0 < length es))
next_is d s [] r e h = inl (refl, cc, cc)
next_is d s (x ∷ es) r e h = let same : d ≡ x = cc in inr (ap is_hex same ∙ (and_parts (is_hex x) _ h).0, omega arith)

no_end : (es r : Text) → [] ≡ es ++ 125 ∷ r → ⊥
no_end [] r e = cc
no_end (x ∷ es) r e = cc

room : (k v : ℕ) → k < 6 → v < 16 ^ k → v < 1048576
room zero v h low = omega arith
room (suc zero) v h low = omega arith
room (suc (suc zero)) v h low = omega arith
room (suc (suc (suc zero))) v h low = omega arith
room (suc (suc (suc (suc zero)))) v h low = omega arith
room (suc (suc (suc (suc (suc zero))))) v h low = omega arith
room (suc (suc (suc (suc (suc (suc k)))))) v h low = omega arith

pow_more : (k v d : ℕ) → v < 16 ^ k → d < 16 → v * 16 + d < 16 ^ (k + 1)
pow_more k v d h l = rw add-one (omega (arith, pow-succ' 16 k))

digit_fails : (d : ℕ) → (digit_value d < 16 → ⊥) → is_hex d ≡ false
digit_fails d h = grind (arith, nat_tests)

scalar_is : (c : ℕ) → IsScalar c → is_scalar c ≡ true
scalar_is c h = grind (arith, nat_tests)

is_scalar-IsScalar : (c : ℕ) → is_scalar c ≡ true → IsScalar c
is_scalar-IsScalar c h = grind (arith, nat_tests)

-- the digits read so far
pub record Digits (f a : Here) (value count : ℕ) : Type 0 where
  pub digits : Text
  pub text : f.rest ≡ digits ++ a.rest
  pub all : list_all is_hex digits ≡ true
  pub value_is : value ≡ digits_value 16 digits
  pub count_is : count ≡ length digits
  pub few : count ≤ 6
  pub low : value < 16 ^ count
  pub past : Past 1 0 f a

-- where there is no number
pub record NoHex (f b : Here) : Type 0 where
  pub none : (r : Text) (c : ℕ) → HexNumber f.rest r c → ⊥
  pub past : Past 1 1 f b

module _ (f a b : Here) (value count : ℕ) (i : Digits f a value count) where
  rest_of : (r : Text) (c : ℕ) (n : HexNumber f.rest r c) → (es : Text) × (n.digits ≡ i.digits ++ es) × (a.rest ≡ es ++ 125 ∷ r)
  rest_of r c n = hex_same i.digits a.rest n.digits r (sym i.text ∙ n.text) i.all

  pub digits_end : Took None a b → NoHex f b
  digits_end t = record { none = λ r c n. let (es, is, rest) = rest_of r c n in no_end es r (sym t.0 ∙ rest); past = past_then i.past (past_look t.1) }

  -- a character more
  module _ (d : ℕ) (t : Took (Some d) a b) where
    pub digits_past : Past 1 1 f b
    digits_past = past_more (omega arith) (past_then i.past (past_took t))

    at_next : (r : Text) (c : ℕ) (n : HexNumber f.rest r c) → ((n.digits ≡ i.digits) × (d ≡ 125) × (b.rest ≡ r)) ⊎ ((is_hex d ≡ true) × (count < length n.digits))
    at_next r c n =
        let (es, is, rest) = rest_of r c n in
        let all : list_all is_hex es ≡ true = (and_parts (list_all is_hex i.digits) _ (sym (list_all-append is_hex i.digits es) ∙ ap (list_all is_hex) (sym is) ∙ n.all)).1 in
        elim (next_is d b.rest es r (sym t.0 ∙ rest) all) [
          | inl (nil, here, ends) ↦ inl (is ∙ ap (λ z. i.digits ++ z) nil ∙ append-nil i.digits, here, ends)
          | inr (hex, more) ↦ inr (hex, omega (arith, i.count_is, ap length is, length-append i.digits es, more))
        ]

    refused : ((r : Text) (c : ℕ) (n : HexNumber f.rest r c) → n.digits ≡ i.digits → d ≡ 125 → ⊥) → ((r : Text) (c : ℕ) (n : HexNumber f.rest r c) → is_hex d ≡ true → count < length n.digits → ⊥) → NoHex f b
    refused h k = record { none = λ r c n. elim (at_next r c n) [ inl (same, here, ends) ↦ h r c n same here | inr (hex, more) ↦ k r c n hex more ]; past = digits_past }

    no_brace : d ≡ 125 → is_hex d ≡ true → ⊥
    no_brace e h = false≢true (sym brace ∙ ap is_hex (sym e) ∙ h)

    pub digits_none : d ≡ 125 → count ≡ 0 → NoHex f b
    digits_none e z = refused (λ r c n same here. omega (arith, n.some, ap length same, i.count_is, z)) (λ r c n hex more. no_brace e hex)

    unscalar : d ≡ 125 → (IsScalar value → ⊥) → NoHex f b
    unscalar e h = refused (λ r c n same here. h (is_scalar-IsScalar value (subst (λ x. is_scalar x ≡ true) (n.value ∙ ap (digits_value 16) same ∙ sym i.value_is) n.scalar))) (λ r c n hex more. no_brace e hex)

    pub digits_other : (d ≡ 125 → ⊥) → (digit_value d < 16 → ⊥) → NoHex f b
    digits_other ne fails = refused (λ r c n same. ne) (λ r c n hex more. false≢true (sym (digit_fails d fails) ∙ hex))

    pub digits_long : (d ≡ 125 → ⊥) → count ≡ 6 → NoHex f b
    digits_long ne six = refused (λ r c n same. ne) (λ r c n hex more. omega (arith, n.few, more, six))

    pub digits_found : (o : Option ℕ) → d ≡ 125 → (count ≡ 0 → ⊥) → SomeIff o (IsScalar value) value → IfSome o (λ c. HexNumber f.rest b.rest c)
    digits_found None is some h = tt
    digits_found (Some c) is some h = record {
      digits = i.digits;
      text = i.text ∙ ap (λ z. i.digits ++ z) (t.0 ∙ ap (λ z. z ∷ b.rest) is);
      all = i.all;
      some = omega (arith, i.count_is, some);
      few = omega (arith, i.count_is, i.few);
      value = h.1 ∙ i.value_is;
      scalar = scalar_is c (subst IsScalar (sym h.1) h.0);
    }

    pub digits_unfound : (o : Option ℕ) → d ≡ 125 → SomeIff o (IsScalar value) value → IfNone o ((r : Text) (c : ℕ) → HexNumber f.rest r c → ⊥)
    digits_unfound None is h = (unscalar is h).none
    digits_unfound (Some c) is h = tt

    pub digits_turn : (x : ℕ) → digit_value d < 16 → x ≡ digit_value d → (count ≡ 6 → ⊥) → Digits f b (value * 16 + x) (count + 1)
    digits_turn x fits is ne =
        let hex : is_hex d ≡ true = lt-ltb _ _ fits in
        record {
          digits = i.digits ++ d ∷ [];
          text = i.text ∙ ap (λ z. i.digits ++ z) t.0 ∙ sym (append_assoc i.digits (d ∷ []) b.rest);
          all = rw (list_all-append is_hex i.digits (d ∷ []), i.all, hex) refl;
          value_is = rw (is, i.value_is) (sym (value_after 16 i.digits (d ∷ []) 0));
          count_is = omega (arith, i.count_is, length-append i.digits (d ∷ []));
          few = omega (arith, i.few);
          low = rw is (pow_more count value (digit_value d) i.low fits);
          past = past_then i.past (past_took t);
        }

  pub digits_room : (count ≡ 6 → ⊥) → value < 1048576
  digits_room ne = room count value (omega (arith, i.few)) i.low
