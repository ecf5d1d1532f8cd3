use Rattle.kdl_layout.proofs.Common.{◌≡◌, ◌++◌, times, text_of}
use Rattle.kdl_layout.proofs.blank.push_empty_lines.Given as goal

abbrev pub invariant-loop-line : goal.invariant-loop-line
invariant-loop-line l = text_of l.out ≡ text_of l.initial.out ++ times l._line 10
