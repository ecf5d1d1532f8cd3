-- Values in memory are well formed.
use Rattle.std.proofs.Common.{◌≡◌, ℕ, true, [], ◌∷◌, List, String, string_bytes, refl, Global, arith, ℤ}
use Rattle.std.proofs.Math.Utf8.{scalars}
use Rattle.std.proofs.lemmas.Bool.{and_parts}
use Rattle.std.proofs.lemmas.Bool.Decides.{nat_tests}
use Rattle.std.proofs.lemmas.Str.{IsUtf8-string_bytes, scalars-chars}
use Rattle.std.specs.List.{list_all}
use lib.Utf8.{scalar}
use Rattle.kdl_text.specs.Chars.{is_scalar}
use Rattle.kdl_value.specs.Tree.{text_of, value_tree}
use Rattle.kdl_value.specs.WellFormed.{IsWellFormed}
use Rattle.kdl_value.specs.declared.value.KdlValue.{KdlValue}
use Rattle.kdl_value.specs.declared.value.KdlValue.TheVariants.{String as StringValue, Integer, Float as FloatValue, Bool as BoolValue, Null}
use Rattle.kdl_value.proofs.Floating.TextDecided.{float_of}

scalar_test : (c : ℕ) → scalar c ≡ true → is_scalar c ≡ true
scalar_test c h = grind (arith, nat_tests)

scalar_tests : (s : List ℕ) → scalars s ≡ true → list_all is_scalar s ≡ true
scalar_tests [] h = refl
scalar_tests (c ∷ s) h = let (x, y) = and_parts (scalar c) (scalars s) h in rw (scalar_test c x, scalar_tests s y) refl

pub text_scalars : (s : String Global) → list_all is_scalar (text_of s) ≡ true
text_scalars s = scalar_tests (text_of s) (scalars-chars (string_bytes s) (IsUtf8-string_bytes s))

-- of a whole number its own type says that it fits
pub other_value : (v : KdlValue) → ((z : ℤ) → v ≡ Integer z → ⊥) → IsWellFormed (value_tree v)
other_value (StringValue s) h = text_scalars s
other_value (Integer z) h = absurd (h z refl)
other_value (FloatValue f) h = float_of (text_of f.text) f.is_float
other_value (BoolValue b) h = tt
other_value Null h = tt
