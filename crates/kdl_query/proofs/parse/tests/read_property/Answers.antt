use Rattle.kdl_text.proofs.Looking.MovesJoin.{moves_then}
use Rattle.kdl_query.specs.QueryText.{IsAccessor}
use Rattle.kdl_query.specs.Tree.{accessor_says}
use Rattle.kdl_query.proofs.Reading.{passed_on}
use Rattle.kdl_query.proofs.Testing.{no_property, no_property_end}
use Rattle.kdl_query.proofs.parse.tests.read_property.Goals as goal

pub returns-in_err-name : goal.returns-in_err-name
returns-in_err-name c =
    passed_on accessor_says c.from_residual.result c.in_err-name.field-0.0 _ _ c.from_residual.ensures.1 c.in_err-name.ensures (moves_then c.skip_spaces.ensures.moves c.in_err-name.ensures.moves) (no_property _ _ c.skip_spaces.ensures.spaces)

pub returns-in_err-close : goal.returns-in_err-close
returns-in_err-close c =
    passed_on accessor_says c.from_residual-in_err-close.result c.in_err-close.field-0.0 _ _ c.from_residual-in_err-close.ensures.1 c.in_err-close.ensures (moves_then c.skip_spaces.ensures.moves (moves_then c.in_ok-name.ensures.moves c.in_err-close.ensures.moves))
    (no_property_end _ _ _ _ c.skip_spaces.ensures.spaces c.in_ok-name.ensures.returns)

pub returns : goal.returns
returns c = record {
  returns = IsAccessor.prop c.skip_spaces.ensures.spaces c.in_ok-name.ensures.returns c.in_ok-close.ensures.returns;
  moves = moves_then c.skip_spaces.ensures.moves (moves_then c.in_ok-name.ensures.moves c.in_ok-close.ensures.moves);
}
