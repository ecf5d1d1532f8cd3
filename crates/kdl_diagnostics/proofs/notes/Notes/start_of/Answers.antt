use Rattle.kdl_diagnostics.proofs.NotedSpans.{same_lies}
use Rattle.kdl_diagnostics.proofs.notes.Notes.start_of.Goals as goal

pub returns-in-Type : goal.returns-in-Type
returns-in-Type c text x s = same_lies text _ _ c.copied.ensures x.left

pub returns-in_default : goal.returns-in_default
returns-in_default c text x s = same_lies text _ _ c.copied-in_default.ensures s
