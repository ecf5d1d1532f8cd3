use Rattle.std.proofs.Common.{arith}
use Rattle.kdl_text.proofs.Looking.SliceCost.{past_then, past_took, past_look, past_more, past_start}
use Rattle.kdl_text.proofs.Quoted.EscapeReads.{number_found, number_none, brace_none, letter_found, letter_none}
use Rattle.kdl_text.proofs.strings.escaped_char.Goals as goal

pub returns-then-letter-ne117 : goal.returns-then-letter-ne117
returns-then-letter-ne117 c = record {
  found = letter_found _ _ _ c.letter_escape.ensures;
  none = λ b. letter_none _ _ _ c.letter_escape.ensures c.if-letter-ne117.true b;
  past = past_more (omega arith) past_start;
}

pub returns-then-not-eat : goal.returns-then-not-eat
returns-then-not-eat c = record { found = tt; none = λ b r u i. brace_none _ _ r u c.if-letter-ne117.false c.if-not-eat.ensures.0 i; past = past_look c.if-not-eat.ensures.1 }

pub returns : goal.returns
returns c = record {
  found = number_found _ _ _ _ _ c.if-letter-ne117.false c.if-not-eat.ensures.0 c.hex_number.ensures.found;
  none = λ b. number_none _ _ _ _ c.if-letter-ne117.false c.if-not-eat.ensures.0 c.hex_number.ensures.none;
  past = past_then (past_took c.if-not-eat.ensures) c.hex_number.ensures.past;
}
