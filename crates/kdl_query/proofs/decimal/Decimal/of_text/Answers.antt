use Rattle.kdl_query.specs.Decimal as exact
use Rattle.kdl_text.specs.Numbers.{is_exponent_letter}
use Rattle.kdl_query.proofs.Exact.Shapes.{IsCut, cut_decimal}
use Rattle.std.proofs.Common.{arith, refl}
use Rattle.kdl_query.proofs.decimal.Decimal.of_text.Goals as goal

-- src/decimal.rt:147:5
pub returns-clause-known : goal.returns-clause-known
returns-clause-known c = let m = c.cut.ensures in
    let n = c.cut-2.ensures in
    let k : IsCut c.cut-2.result.0.now c.cut-2.result.1.now c.unsigned-lowers.result.1.now = cut_decimal c.args.text.now c.unsigned-negative.result.1.now c.cut.result.0.now c.cut.result.1.now _ _ _
    c.requires.text c.requires.short c.unsigned-negative.ensures.rest (m.before is_exponent_letter c.letter.ensures.is) (m.after is_exponent_letter c.letter.ensures.is)
    (n.before exact.is_point c.point.ensures.is) (n.after exact.is_point c.point.ensures.is) c.unsigned-lowers.ensures.rest in
    record { digits = (k.whole, k.fraction, k.short); scale = let h = k.short in omega arith; power = (k.power, refl, let h = k.power_short in omega arith) }
