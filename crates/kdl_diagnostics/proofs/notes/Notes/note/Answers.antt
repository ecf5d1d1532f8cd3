use Rattle.std.proofs.Common.{length, rules, ap, arith}
use Rattle.kdl_diagnostics.proofs.FrontEnds.{pushed}
use Rattle.kdl_diagnostics.proofs.NotedSpans.{noted_more, noted_same}
use Rattle.kdl_diagnostics.proofs.notes.Notes.note.Goals as goal

pub returns-in_err-push : goal.returns-in_err-push
returns-in_err-push c = record {
  keeps = record {
    notes = λ text x u. (record { whole = x.whole; left = x.left; faults = noted_same text _ _ c.in_err-push.ensures.items x.faults; blocks = x.blocks; candidates = x.candidates });
    grows = omega (arith, ap length c.in_err-push.ensures.items);
  };
  noted = search rules;
}

pub returns : goal.returns
returns c = record {
  keeps = record {
    notes = λ text x u. (record { whole = x.whole; left = x.left; faults = noted_more text _ _ _ c.in_ok-push.ensures.items x.faults (c.span-span.ensures text x u.0 u.1); blocks = x.blocks; candidates = x.candidates });
    grows = omega (arith, pushed _ _ _ c.in_ok-push.ensures.items);
  };
  noted = omega (arith, pushed _ _ _ c.in_ok-push.ensures.items);
}
