use Rattle.std.proofs.Common.{◌+◌, ◌≤◌, length, false}
use Rattle.kdl.specs.Words.{Text}
use Rattle.c_calls.specs.Internal.Places.{IsAfter, line_of}
use Rattle.c_calls.proofs.place.place_after.Given as goal

-- the place is after the characters so far, and no further than there are characters
abbrev pub invariant-loop-c : goal.invariant-loop-c
invariant-loop-c l = record {
  after : (r : Text) → IsAfter l.yielded r l.place;
  line : line_of l.place false ≤ length l.yielded + 1;
  column : l.place.column ≤ length l.yielded + 1;
  least : 1 ≤ l.place.column;
}
