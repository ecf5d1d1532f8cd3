-- The lemmas that the functions of a file cite.
use Rattle.kdl_text.proofs.Looking.MovesJoin.{stays, moves_then, moves_one, moves_two, moves_stayed, stayed_looked, took_from}
use Rattle.kdl_path.proofs.PathReads.{all_digits, digit_shorter, moves_ate, took_ok}

-- for src/parse.rt
pub ruleset parse = (stays, moves_then, moves_one, moves_two, moves_stayed, stayed_looked, took_from, moves_ate, took_ok, all_digits, digit_shorter)
