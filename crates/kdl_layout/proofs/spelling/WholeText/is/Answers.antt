use Rattle.kdl_layout.proofs.Common.{Decides-at}
use Rattle.kdl_value.proofs.Comparing.Equality.{value_decides}
use Rattle.kdl_layout.proofs.spelling.WholeText.is.Goals as goal

pub returns-in-Value : goal.returns-in-Value
returns-in-Value c = rw c.in-Value.is (Decides-at _ _ c.eq.ensures (value_decides c.in-Value.read c.args.value.now))
