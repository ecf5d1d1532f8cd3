use Rattle.kdl_value.specs.Tree.{text_of, value_tree}
use Rattle.kdl_query.specs.QueryText.{IsLiteral}
use Rattle.kdl_query.proofs.Keys.{no_string, still_looks}
use Rattle.kdl_query.proofs.Reading.{after_still, still_then}
use Rattle.kdl_query.proofs.parse.literals.value_here.Goals as goal

pub returns-in_err-read_name : goal.returns-in_err-read_name
returns-in_err-read_name c =
    no_string value_tree c.from_residual.result c.in_err-read_name.field-0.0 _ _ _ _ (still_looks c.if-begins_number.ensures.stayed) (record { rest = c.if-begins_keyword.ensures.rest; moves = c.if-begins_keyword.ensures.moves })
    c.if-begins_number.ensures.result c.if-begins_keyword.ensures.result c.from_residual.ensures.1 c.in_err-read_name.ensures

pub returns : goal.returns
returns c =
    let name = after_still text_of _ _ _ _ (still_then (still_looks c.if-begins_number.ensures.stayed) (record { rest = c.if-begins_keyword.ensures.rest; moves = c.if-begins_keyword.ensures.moves })) c.in_ok-read_name.ensures in
    record { returns = IsLiteral.string name.returns; moves = name.moves }
