use Rattle.std.proofs.Common.{arith}
use Rattle.kdl_text.proofs.Numeric.DigitRuns.{no_integer, run_integer, run_more}
use Rattle.kdl_text.proofs.numbers.decimal_integer.Goals as goal

pub returns-then-count-eq0 : goal.returns-then-count-eq0
returns-then-count-eq0 c = no_integer _ _ _ _ _ _ c.skip_digits-count.ensures.1 c.if-count-eq0.true

pub returns-then-more : goal.returns-then-more
returns-then-more c = run_more _ _ _ _ _ _ c.skip_digits-count.ensures.1 _ c.digits.new.cursor c.if-count-eq0.false (omega arith) (rw c.from.ensures at c.digits.ensures)

pub returns : goal.returns
returns c = rw c.from-2.ensures (run_integer _ _ _ _ _ _ c.skip_digits-count.ensures.1 c.if-count-eq0.false c.if-more.false (omega arith))
