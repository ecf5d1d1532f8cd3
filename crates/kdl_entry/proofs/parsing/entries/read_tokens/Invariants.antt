use Rattle.std.proofs.Common.{◌≡◌, length}
use Rattle.kdl_entry.specs.Internal.EntryReading.{state_view}
use Rattle.kdl_entry.proofs.Reading.EntryLoop.{Going}
use Rattle.kdl_entry.proofs.parsing.entries.read_tokens.Given as goal

abbrev pub invariant-tokens : goal.invariant-tokens
invariant-tokens l = Going (state_view l.state) l.cursor l.fn.cursor.text × (l.cursor.text ≡ l.fn.cursor.text)

abbrev pub decreases-tokens : goal.decreases-tokens
decreases-tokens l = length l.cursor.rest
