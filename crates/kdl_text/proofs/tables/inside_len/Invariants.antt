use Rattle.std.proofs.Common.{◌≡◌, ℕ, ◌-◌, ◌<◌, ◌≤◌, false, length, get_or}
use Rattle.kdl_text.specs.Internal.Tables.{outside}
use Rattle.kdl_text.proofs.tables.inside_len.Given as goal

abbrev pub invariant-vectors : goal.invariant-vectors
invariant-vectors l = (l.count ≤ length l.bytes) × ((k : ℕ) → k < l.count → outside l.table (get_or l.bytes k 0) ≡ false)

abbrev pub decreases-vectors : goal.decreases-vectors
decreases-vectors l = length l.bytes - l.count
