use Rattle.kdl_text.proofs.Looking.MovesJoin.{moves_one, moves_then}
use Rattle.kdl_query.specs.QueryText.{IsLiteral}
use Rattle.kdl_query.specs.Tree.{literal_says}
use Rattle.kdl_query.proofs.Reading.{passed_on}
use Rattle.kdl_query.proofs.Testing.{no_type_literal}
use Rattle.kdl_query.proofs.parse.literals.literal_here.Goals as goal

pub returns-in_err-read_type : goal.returns-in_err-read_type
returns-in_err-read_type c =
    passed_on literal_says c.from_residual.result c.in_err-read_type.field-0.0 _ _ c.from_residual.ensures.1 c.in_err-read_type.ensures (moves_then (moves_one c.if-eat.ensures) c.in_err-read_type.ensures.moves) (no_type_literal _ _ c.if-eat.ensures.0)

pub returns-then-eat : goal.returns-then-eat
returns-then-eat c = record { returns = rw c.if-eat.ensures.0 (IsLiteral.typed c.in_ok-read_type.ensures.returns); moves = moves_then (moves_one c.if-eat.ensures) c.in_ok-read_type.ensures.moves }
