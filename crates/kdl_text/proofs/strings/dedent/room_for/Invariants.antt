use Rattle.std.proofs.Common.{◌≤◌, take}
use Rattle.kdl_text.specs.Internal.Lines.{lines_room}
use Rattle.kdl_text.proofs.strings.dedent.room_for.Given as goal

abbrev pub invariant-loop-line : goal.invariant-loop-line
invariant-loop-line l = l.room ≤ lines_room (take l.line-index l.lines)
