use Rattle.std.proofs.Common.{◌≡◌, ◌+◌, ◌-◌, ◌≤◌, ◌++◌}
use Rattle.kdl_text.specs.Chars.{Text, times}
use Rattle.kdl_text.specs.Spans.{raise}
use Rattle.kdl_text.proofs.strings.raw.after_quotes.Given as goal

abbrev pub invariant-loop : goal.invariant-loop
invariant-loop l = record {
  following : (t : Text) → l.place.rest ≡ times l.count 34 ++ t → l.cursor.rest ≡ times (l.count - l.counter) 34 ++ t;
  most : l.cursor.steps ≤ l.fn.cursor.steps + l.counter;
  counts : raise l.fn.cursor.steps 0 ≤ raise l.cursor.steps 0;
  same : l.cursor.text ≡ l.fn.cursor.text;
}
