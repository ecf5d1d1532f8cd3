use Rattle.std.proofs.Common.{◌≡◌, ◌++◌}
use Rattle.kdl_text.specs.Chars.{times}
use Rattle.kdl_report.specs.Shown.{text_of}
use Rattle.kdl_report.proofs.shown.put_times.Given as goal

abbrev pub invariant-loop-k : goal.invariant-loop-k
invariant-loop-k l = text_of l.out ≡ text_of l.initial.out ++ times l._k l.c
