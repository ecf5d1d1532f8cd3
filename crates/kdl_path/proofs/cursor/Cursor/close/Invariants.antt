use Rattle.std.proofs.Common.{◌≡◌, length}
use Rattle.kdl_path.specs.Internal.Cursor.{whole}
use Rattle.kdl_path.proofs.cursor.Cursor.close.Given as goal

-- the document is the same
abbrev pub invariant-loop-cursor : goal.invariant-loop-cursor
invariant-loop-cursor l = whole l.cursor ≡ whole l.fn.self

abbrev pub decreases-loop-cursor : goal.decreases-loop-cursor
decreases-loop-cursor l = length l.cursor.above.items
