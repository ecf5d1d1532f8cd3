-- The lemmas that the functions of a file cite.
use Rattle.kdl_parts.proofs.PrintedEntries.{pieces_written}
use Rattle.kdl_parts.proofs.Utf8Parts.{spaces_more, writes}

-- for src/print.rt
pub ruleset printed = (writes, spaces_more, pieces_written)
