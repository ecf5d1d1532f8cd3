use Rattle.kdl_text.proofs.Looking.MovesJoin.{moves_then, moves_one}
use Rattle.kdl_query.specs.Tree.{type_test_says}
use Rattle.kdl_query.proofs.Reading.{any_type, named_type, no_type_name, no_type_end, passed_on, past_spaces}
use Rattle.kdl_query.proofs.parse.names.read_type.Goals as goal

pub returns-then-eat : goal.returns-then-eat
returns-then-eat c = record { returns = any_type _ _ _ c.skip_spaces.ensures.spaces c.if-eat.ensures.0; moves = moves_then c.skip_spaces.ensures.moves (moves_one c.if-eat.ensures) }

pub returns-in_err-name : goal.returns-in_err-name
returns-in_err-name c =
    let p = past_spaces 41 _ _ _ c.skip_spaces.ensures.spaces c.skip_spaces.ensures.moves c.if-eat.ensures in
    passed_on type_test_says _ _ _ _ c.from_residual.ensures.1 c.in_err-name.ensures (moves_then p.moves c.read_name.ensures.moves) (no_type_name _ _ p.spaces p.other)

pub returns-in_err-close : goal.returns-in_err-close
returns-in_err-close c =
    let p = past_spaces 41 _ _ _ c.skip_spaces.ensures.spaces c.skip_spaces.ensures.moves c.if-eat.ensures in
    passed_on type_test_says _ _ _ _ c.from_residual-in_err-close.ensures.1 c.in_err-close.ensures (moves_then p.moves (moves_then c.read_name.ensures.moves c.close.ensures.moves)) (no_type_end _ _ _ _ p.spaces c.in_ok-name.ensures.returns)

pub returns : goal.returns
returns c =
    let p = past_spaces 41 _ _ _ c.skip_spaces.ensures.spaces c.skip_spaces.ensures.moves c.if-eat.ensures in
    record { returns = named_type _ _ _ _ _ p.spaces c.in_ok-name.ensures.returns c.in_ok-close.ensures.returns; moves = moves_then p.moves (moves_then c.read_name.ensures.moves c.close.ensures.moves) }
