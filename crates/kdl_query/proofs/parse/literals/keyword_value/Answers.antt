use Rattle.kdl_syntax.proofs.Lexing.TokenReads.{infinity_text, negative_infinity_text, not_a_number_text, infinity_float, negative_infinity_float, not_a_number_float, float_same}
use Rattle.kdl_query.proofs.parse.literals.keyword_value.Goals as goal

pub float_of-requires : goal.float_of-requires
float_of-requires c = infinity_float

pub float_of-requires-in-NegativeInfinity : goal.float_of-requires-in-NegativeInfinity
float_of-requires-in-NegativeInfinity c = negative_infinity_float

pub float_of-requires-in-NotANumber : goal.float_of-requires-in-NotANumber
float_of-requires-in-NotANumber c = not_a_number_float

pub returns-in-Infinity : goal.returns-in-Infinity
returns-in-Infinity c = rw c.in-Infinity.is (float_same _ _ _ infinity_text c.float_of.ensures)

pub returns-in-NegativeInfinity : goal.returns-in-NegativeInfinity
returns-in-NegativeInfinity c = rw c.in-NegativeInfinity.is (float_same _ _ _ negative_infinity_text c.float_of-in-NegativeInfinity.ensures)

pub returns-in-NotANumber : goal.returns-in-NotANumber
returns-in-NotANumber c = rw c.in-NotANumber.is (float_same _ _ _ not_a_number_text c.float_of-in-NotANumber.ensures)
