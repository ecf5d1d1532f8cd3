use Rattle.std.proofs.Common.{◌≡◌}
use Rattle.kdl.specs.Words.{document_tree}
use Rattle.c_calls.specs.Internal.Opened.{plugged}
use Rattle.c_calls.proofs.opened.Opened.close.Given as goal

-- the whole is the same
abbrev pub invariant-loop-last : goal.invariant-loop-last
invariant-loop-last l = plugged l.above.items (document_tree l.block) ≡ plugged l.fn.self.above.items (document_tree l.fn.self.block)

abbrev pub decreases-loop-last : goal.decreases-loop-last
decreases-loop-last l = l.above.len
