use Rattle.std.proofs.Common.{ap, subst, sym}
use Rattle.std.specs.Str.{chars}
use Rattle.kdl_path.specs.Internal.Laid.{EndsLine}
use Rattle.kdl_path.proofs.laid.make_ends.Goals as goal

pub returns : goal.returns
returns c = λ h. record { before = c.in_ok-spaces.ensures; terminator = subst EndsLine (sym (ap chars c.in_ok-from_str.ensures.ok)) h; after = c.in_ok-spaces-2.ensures }
