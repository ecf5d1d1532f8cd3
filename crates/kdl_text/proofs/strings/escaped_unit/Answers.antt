use Rattle.std.proofs.Common.{sym, ◌∙◌}
use Rattle.kdl_text.proofs.Looking.MovesJoin.{moves_then, moves_one}
use Rattle.kdl_text.proofs.Quoted.EscapeReads.{end_none, blank_found, char_none, unit_at}
use Rattle.kdl_text.proofs.strings.escaped_unit.Goals as goal

pub returns-in_default-clause-only : goal.returns-in_default-clause-only
returns-in_default-clause-only c r u i = end_none _ r u c.in_default.ensures.took.0 i

pub returns-then-is_blank-clause-found : goal.returns-then-is_blank-clause-found
returns-then-is_blank-clause-found c = blank_found _ _ _ _ c.in-Some.ensures.took.0 (sym c.is_blank.ensures ∙ c.if-is_blank.true) c.skip_blanks.ensures.reads

pub returns-then-is_blank-clause-moves : goal.returns-then-is_blank-clause-moves
returns-then-is_blank-clause-moves c = moves_then (moves_one c.in-Some.ensures.took) c.skip_blanks.ensures.past.moves

pub returns-in_default-escaped_char-clause-only : goal.returns-in_default-escaped_char-clause-only
returns-in_default-escaped_char-clause-only c r u i = char_none _ _ _ r u c.in-Some.ensures.took.0 (c.in_default-escaped_char.ensures.none (sym c.is_blank.ensures ∙ c.if-is_blank.false)) i

pub returns-in_default-escaped_char-clause-moves : goal.returns-in_default-escaped_char-clause-moves
returns-in_default-escaped_char-clause-moves c = moves_then (moves_one c.in-Some.ensures.took) c.escaped_char.ensures.past.moves

pub returns-clause-moves : goal.returns-clause-moves
returns-clause-moves c = moves_then (moves_one c.in-Some.ensures.took) c.escaped_char.ensures.past.moves

pub returns-clause-found : goal.returns-clause-found
returns-clause-found c = unit_at _ _ _ _ _ c.in-Some.ensures.took.0 c.in-Some-escaped_char.ensures.found
