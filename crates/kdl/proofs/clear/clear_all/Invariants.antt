use Rattle.kdl.proofs.Common.{cleared_document, document_tree}
use Rattle.kdl.proofs.Clearing.{Walk, left_of}
use Rattle.kdl.proofs.clear.clear_all.Given as goal

abbrev pub invariant-due : goal.invariant-due
invariant-due l = Walk l.here l.above l.at (cleared_document (document_tree l.fn.here))

abbrev pub decreases-due : goal.decreases-due
decreases-due l = left_of l.here l.above l.at
