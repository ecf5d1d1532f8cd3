use Rattle.std.proofs.Common.{◌^◌, ◌-ℤ◌}
use Rattle.kdl_query.specs.DecimalParts.{whole_of, Clamps, exponent}
use Rattle.std.proofs.Common.{arith}
use Rattle.std.proofs.lemmas.Int.{ints}
use Rattle.kdl_query.proofs.Exact.Parts.{shift_is}
use Rattle.kdl_query.proofs.decimal.shift.Goals as goal

-- src/decimal.rt:205:1
pub returns-clause-clamps : goal.returns-clause-clamps
returns-clause-clamps c = let h : Clamps (2 ^ 100) c.difference.result (whole_of (exponent c.args.a) -ℤ whole_of (exponent c.args.b)) = rw (c.exponent.ensures, c.exponent-2.ensures) at c.difference.ensures.clamps in
    shift_is c.args.a c.args.b c.difference.result _ h c.requires.a.scale c.requires.b.scale (omega (arith, ints))
