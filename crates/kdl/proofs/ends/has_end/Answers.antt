use Rattle.kdl.proofs.Common.{ap, ◌∙◌, chars}
use Rattle.kdl.proofs.Putting.PutReads.{some_text}
use Rattle.kdl.proofs.ends.has_end.Goals as goal

pub returns : goal.returns
returns c = some_text _ _ (λ h. c.if-is_empty.ensures (ap chars c.deref.ensures ∙ h))
