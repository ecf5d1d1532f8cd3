-- What the order is on worked examples.
use Rattle.std.proofs.Common.{◌≡◌, refl, Some, None, pos, negsuc}
use Rattle.std.specs.Prelude.{codes}
use Rattle.std.specs.declared.cmp.Ordering.TheVariants.{Less, Equal, Greater}
use Rattle.kdl_value.specs.Data.{integer, float, null}
use Rattle.kdl_query.specs.Decimal.{exact_order, rational_of}

-- the number that a text writes
written : rational_of (codes "-12.50e-3") ≡ record { numerator = negsuc 1249; denominator = 100000 }
written = refl

raised_written : rational_of (codes "+0.5E2") ≡ record { numerator = pos 500; denominator = 10 }
raised_written = refl

-- zeros at the end of a fraction are not counted
trailing_zero : exact_order (float (codes "1.50")) (float (codes "1.5")) ≡ Some Equal
unfolding exact_order
trailing_zero = refl

-- a whole number and a decimal
whole_decimal : exact_order (float (codes "2.0")) (integer (pos 2)) ≡ Some Equal
unfolding exact_order
whole_decimal = refl

power_whole : exact_order (float (codes "1e2")) (integer (pos 100)) ≡ Some Equal
unfolding exact_order
power_whole = refl

power_fraction : exact_order (integer (pos 12)) (float (codes "1.2E+01")) ≡ Some Equal
unfolding exact_order
power_fraction = refl

-- a decimal is not read as a binary float
beyond_floats : exact_order (float (codes "0.1")) (float (codes "0.10000000000000000000001")) ≡ Some Less
unfolding exact_order
beyond_floats = refl

large_powers : exact_order (float (codes "1e400")) (float (codes "1e401")) ≡ Some Less
unfolding exact_order
large_powers = refl

same_power : exact_order (float (codes "10e399")) (float (codes "0.1e401")) ≡ Some Equal
unfolding exact_order
same_power = refl

small_power : exact_order (float (codes "1e-5")) (float (codes "1e5")) ≡ Some Less
unfolding exact_order
small_power = refl

negative_zero : exact_order (float (codes "-0.0")) (integer (pos 0)) ≡ Some Equal
unfolding exact_order
negative_zero = refl

negatives : exact_order (float (codes "-1e5")) (float (codes "-1e-5")) ≡ Some Less
unfolding exact_order
negatives = refl

negative_whole : exact_order (integer (negsuc 1)) (float (codes "-20.0e-1")) ≡ Some Equal
unfolding exact_order
negative_whole = refl

-- the infinities, and what has no place
above_all : exact_order (float (codes "#inf")) (float (codes "1e99")) ≡ Some Greater
unfolding exact_order
above_all = refl

above_itself : exact_order (float (codes "#inf")) (float (codes "#-inf")) ≡ Some Greater
unfolding exact_order
above_itself = refl

below_all : exact_order (float (codes "#-inf")) (float (codes "-1e99")) ≡ Some Less
unfolding exact_order
below_all = refl

itself : exact_order (float (codes "#inf")) (float (codes "#inf")) ≡ Some Equal
unfolding exact_order
itself = refl

not_a_number : exact_order (float (codes "#nan")) (float (codes "#nan")) ≡ None
unfolding exact_order
not_a_number = refl

not_above : exact_order (float (codes "#nan")) (float (codes "#-inf")) ≡ None
unfolding exact_order
not_above = refl

no_number : exact_order null (integer (pos 0)) ≡ None
unfolding exact_order
no_number = refl
