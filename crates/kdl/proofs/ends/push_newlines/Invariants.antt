use Rattle.kdl.proofs.Common.{◌≡◌, ◌++◌, text_of, newlines}
use Rattle.kdl.proofs.ends.push_newlines.Given as goal

abbrev pub invariant-loop-newline : goal.invariant-loop-newline
invariant-loop-newline l = text_of l.text ≡ text_of l.initial.text ++ newlines l._newline
