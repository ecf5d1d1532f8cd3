use Rattle.std.proofs.Common.{◌≡◌, ℕ, ◌-◌, ◌<◌, ◌≤◌, false, length, get_or}
use Rattle.kdl_text.specs.Internal.Marks.{is_mark}
use Rattle.kdl_text.proofs.marks.unmarked_len.Given as goal

abbrev pub invariant-vectors : goal.invariant-vectors
invariant-vectors l = (l.count ≤ length l.bytes) × ((k : ℕ) → k < l.count → is_mark l.marks (get_or l.bytes k 0) ≡ false)

abbrev pub decreases-vectors : goal.decreases-vectors
decreases-vectors l = length l.bytes - l.count

abbrev pub invariant-rest : goal.invariant-rest
invariant-rest l = (l.count ≤ length l.bytes) × ((k : ℕ) → k < l.count → is_mark l.marks (get_or l.bytes k 0) ≡ false)

abbrev pub decreases-rest : goal.decreases-rest
decreases-rest l = length l.bytes - l.count
