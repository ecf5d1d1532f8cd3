use Rattle.std.proofs.Common.{◌≡◌, ◌-◌, ◌≤◌, drop, length}
use Rattle.lsp_text.specs.Positions.{from_line}
use Rattle.lsp_text.proofs.offset.after_ends.Given as goal

abbrev pub invariant-loop-left : goal.invariant-loop-left
invariant-loop-left l = (l.at ≤ length l.bytes) × (from_line l.left (drop l.at l.bytes) ≡ from_line l.count (drop l.from l.bytes))

abbrev pub decreases-loop-left : goal.decreases-loop-left
decreases-loop-left l = length l.bytes - l.at
