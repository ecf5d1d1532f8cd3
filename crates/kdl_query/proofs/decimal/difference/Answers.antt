use Rattle.std.proofs.Common.{◌-◌, ◌^◌, pos, neg_ℤ, ◌-ℤ◌, ◌≤ℤ◌}
use Rattle.kdl_query.specs.DecimalParts.{cut_at}
use Rattle.std.proofs.Common.{arith}
use Rattle.std.proofs.lemmas.Int.{ints}
use Rattle.kdl_query.proofs.Exact.Parts.{next_difference, last_difference}
use Rattle.kdl_query.proofs.decimal.difference.Goals as goal

-- src/decimal.rt:126:5
pub loop-place-preserved : goal.loop-place-preserved
loop-place-preserved c = let place = c.loop-place.place in
    let k = c.lengthened-difference.ensures.clamps (cut_at c.args.a place -ℤ cut_at c.args.b place) c.loop-place.invariant.1 in
    let low : neg_ℤ (pos (2 ^ 104)) ≤ℤ c.lengthened-difference.result = c.lengthened-difference.ensures.fits.0 in
    let high : c.lengthened-difference.result ≤ℤ pos (2 ^ 104) = c.lengthened-difference.ensures.fits.1 in
    ((omega (arith, ints), omega (arith, ints)), next_difference c.args.a c.args.b place (place - 1) c.lengthened-difference.result _ c.digit.result c.digit-in-loop-place.result _ (omega (arith, ints)) (omega arith) c.digit.ensures.step c.digit-in-loop-place.ensures.step k (omega (arith, ints)))

-- src/decimal.rt:118:1
pub returns-clause-clamps : goal.returns-clause-clamps
returns-clause-clamps c = last_difference c.args.a c.args.b c.loop-place.place _ c.loop-place-test.false c.loop-place.invariant.1
