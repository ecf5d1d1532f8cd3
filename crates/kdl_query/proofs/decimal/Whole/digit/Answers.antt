use Rattle.std.proofs.Common.{arith}
use Rattle.std.proofs.lemmas.Int.{ints}
use Rattle.kdl_query.proofs.Exact.Parts.{zero_more, digit_more}
use Rattle.kdl_query.proofs.decimal.Whole.digit.Goals as goal

-- src/decimal.rt:93:13
pub returns-then-place-self-clause-step : goal.returns-then-place-self-clause-step
returns-then-place-self-clause-step c = zero_more c.args.self c.args.place c.if-place-self.true

-- src/decimal.rt:86:5
pub returns-then-self-clause-step : goal.returns-then-self-clause-step
returns-then-self-clause-step c = digit_more c.args.self c.args.place c.digit.result _ c.if-place-self.false c.digit.ensures (rw c.if-self.true (omega (arith, ints)))

-- src/decimal.rt:86:5
pub returns-else-self-clause-step : goal.returns-else-self-clause-step
returns-else-self-clause-step c = digit_more c.args.self c.args.place c.digit.result _ c.if-place-self.false c.digit.ensures (rw c.if-self.false (omega (arith, ints)))
