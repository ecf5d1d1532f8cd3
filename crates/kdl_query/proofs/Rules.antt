-- The lemmas that the functions of a file cite.
use Rattle.kdl_text.proofs.Looking.Returns.{moves_returned}
use Rattle.kdl_text.proofs.Looking.MovesJoin.{stays, moves_then, moves_one, moves_two, moves_stayed, stayed_looked, took_from}
use Rattle.kdl_text.proofs.Looking.SliceCost.{moves_ran}
use Rattle.kdl_parts.proofs.Utf8Parts.{writes}
use Rattle.kdl_query.proofs.Reading.{took_ok, took_none, closes, moves_back, ate_begin, ate_more, ate_all, ate_not}
use Rattle.kdl_query.proofs.Copying.{copied, steps_copied}
use Rattle.kdl_query.proofs.Printing.Written.{piece_written, step_written}
use Rattle.kdl_query.proofs.Spacing.{one_more_space, all_spaces, all_ws, reads_shorter, shorter_ws}

-- for src/parse
pub ruleset parse = (stays, moves_then, moves_one, moves_two, moves_stayed, stayed_looked, took_from, moves_ran, moves_returned, moves_back, took_ok, took_none, closes, ate_begin, ate_more, ate_all, ate_not, one_more_space, all_spaces, all_ws, reads_shorter, shorter_ws)

-- for src/print.rt
pub ruleset print = (writes, piece_written, step_written)

-- for src/clone.rt
pub ruleset clone = (copied, steps_copied)
