use Rattle.std.proofs.Common.{refl}
use Rattle.unicode_width.specs.Width.{char_width}
use Rattle.kdl_report.proofs.shown.columns_of.Goals as goal

pub returns-then-c-eq9-clause-value : goal.returns-then-c-eq9-clause-value
unfolding char_width
returns-then-c-eq9-clause-value c = rw c.if-c-eq9.true refl
