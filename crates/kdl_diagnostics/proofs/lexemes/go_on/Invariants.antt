use Rattle.std.proofs.Common.{◌≡◌, ◌+◌, ◌-◌, ◌≤◌, ◌++◌}
use Rattle.kdl_text.specs.Chars.{Text}
use Rattle.kdl_text.specs.Spans.{bytes}
use Rattle.kdl_text.specs.Internal.Reading.{Moves}
use Rattle.kdl_diagnostics.proofs.lexemes.go_on.Given as goal

abbrev pub invariant-chars : goal.invariant-chars
invariant-chars l = record {
  moves : Moves l.fn.cursor l.cursor;
  on : l.start ≤ l.cursor.at;
  steps : l.cursor.steps ≤ l.fn.cursor.steps + (l.cursor.at - l.start);
  most : l.cursor.steps ≤ l.fn.cursor.steps + l.by;
  last : (p : Text) × (l.fn.cursor.rest ≡ p ++ l.last.rest);
}

abbrev pub decreases-chars : goal.decreases-chars
decreases-chars l = bytes l.cursor.rest
