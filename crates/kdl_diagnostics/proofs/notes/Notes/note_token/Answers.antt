use Rattle.std.proofs.Common.{arith}
use Rattle.kdl_diagnostics.proofs.FrontEnds.{popped, untold_less}
use Rattle.kdl_diagnostics.proofs.NotedSpans.{opened_less, opened_more, same_lies}
use Rattle.kdl_diagnostics.proofs.notes.Notes.note_token.Goals as goal

pub returns-in-Left-clause-keeps : goal.returns-in-Left-clause-keeps
returns-in-Left-clause-keeps c = record {
  notes = λ text x u. (record { whole = x.whole; left = same_lies text _ _ c.copied-self.ensures u.1; faults = x.faults; blocks = x.blocks; candidates = x.candidates });
  grows = omega arith;
}

pub returns-in_ok-push-in-Opening-clause-keeps : goal.returns-in_ok-push-in-Opening-clause-keeps
returns-in_ok-push-in-Opening-clause-keeps c = record {
  notes = λ text x u. (record { whole = x.whole; left = x.left; faults = x.faults; blocks = opened_more text _ _ _ c.in_ok-push-in-Opening.ensures.items x.blocks (c.span-span.ensures text x u.0 u.0); candidates = x.candidates });
  grows = omega arith;
}

pub returns-in-Closing-clause-keeps : goal.returns-in-Closing-clause-keeps
returns-in-Closing-clause-keeps c = record {
  notes = λ text x u. (record { whole = x.whole; left = x.left; faults = x.faults; blocks = (opened_less text _ _ _ c.pop.ensures.items x.blocks).0; candidates = x.candidates });
  grows = omega arith;
}

pub returns-in-Closing-clause-blocks : goal.returns-in-Closing-clause-blocks
returns-in-Closing-clause-blocks c u =
    (rw c.in-Closing.is (omega (arith, popped _ _ _ c.pop.ensures.cases, c.args.self.now.blocks.ok.0, c.pop.new.self.ok.0)), (untold_less _ _ _ c.pop.ensures.items u).0)
