use Rattle.std.proofs.Common.{◌≡◌, ◌==◌, ◌++◌}
use Rattle.kdl_text.specs.Chars.{times}
use Rattle.kdl_report.specs.Shown.{columns, shown, text_of}
use Rattle.kdl_report.proofs.shown.put_columns.Given as goal

abbrev pub invariant-loop-c : goal.invariant-loop-c
invariant-loop-c l =
    (l.bare ≡ (columns (shown l.yielded) == 0)) × (text_of l.out ≡ text_of l.initial.out ++ times (columns (shown l.yielded)) l.mark)
