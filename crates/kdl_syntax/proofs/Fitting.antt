-- A whole number is one of 128 bits.
use Rattle.std.proofs.Common.{◌≡◌, ℕ, ℤ, Bool, true, false, sym, subst, arith}
use Rattle.std.proofs.Common.{zero, suc, lit<, of_z, to_z}
use Rattle.std.specs.Int.{w128}
use Rattle.std.proofs.Math.Facts.{to_z-of_z}
use Rattle.std.proofs.lemmas.Bool.Decides.{nat_tests}
use Rattle.std.specs.Prelude.{FitsSigned}
use Rattle.std.specs.Str.Parse.{digits_value}
use Rattle.kdl_text.specs.Chars.{Text}
use Rattle.kdl_text.specs.Numbers.{WholeNumber, whole, fits, signed}

in_range : (b : Bool) (n : ℕ) → fits b n ≡ true → FitsSigned w128 (signed b n)
in_range false n h = record { sfits = grind (arith, nat_tests) }
in_range true zero h = record { sfits = lit< tt }
in_range true (suc n) h = record { sfits = grind (arith, nat_tests) }

pub number_fits : (s r : Text) (z : ℤ) → WholeNumber s r z → to_z w128 (of_z w128 z) ≡ z
number_fits s r z (whole {w = w} {negative = b} {radix = k} g m i x y e) = to_z-of_z (subst (λ (u : ℤ). FitsSigned w128 u) (sym e) (in_range b (digits_value k w) y))
