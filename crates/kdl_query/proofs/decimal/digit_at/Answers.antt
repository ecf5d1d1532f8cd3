use Rattle.kdl_query.proofs.Exact.Digits.{digit_there, digit_absent}
use Rattle.kdl_query.proofs.decimal.digit_at.Goals as goal

-- src/decimal.rt:57:1
pub returns-then-place-digits : goal.returns-then-place-digits
returns-then-place-digits c = digit_there c.args.digits.now c.args.place c.requires c.if-place-digits.true

-- src/decimal.rt:57:1
pub returns-else-place-digits : goal.returns-else-place-digits
returns-else-place-digits c = digit_absent c.args.digits.now c.args.place c.requires c.if-place-digits.false
