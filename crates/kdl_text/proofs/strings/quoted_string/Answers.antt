use Rattle.std.specs.Prelude.{string_bytes}
use Rattle.std.specs.Str.{chars}
use Rattle.kdl_text.proofs.ManyLines.StringReads.{many_found, many_only, one_found, one_only}
use Rattle.kdl_text.proofs.Looking.MovesJoin.{moves_then, moves_one, moves_two, moves_stayed}
use Rattle.kdl_text.proofs.strings.quoted_string.Goals as goal

pub returns-then-eat_two-clause-found : goal.returns-then-eat_two-clause-found
returns-then-eat_two-clause-found c = many_found c.many_lines.result (λ v. chars (string_bytes v)) _ _ _ _ c.if-not-eat.ensures.0 c.if-eat_two.ensures.rest c.many_lines.ensures.found

pub returns-then-eat_two-clause-only : goal.returns-then-eat_two-clause-only
returns-then-eat_two-clause-only c r w q = c.many_lines.ensures.only r w (many_only _ _ _ r w c.if-not-eat.ensures.0 c.if-eat_two.ensures.rest q)

pub returns-then-eat_two-clause-moves : goal.returns-then-eat_two-clause-moves
returns-then-eat_two-clause-moves c = moves_then (moves_one c.if-not-eat.ensures) (moves_then (moves_two c.if-eat_two.ensures) c.many_lines.ensures.past.moves)

pub returns-else-eat_two-clause-found : goal.returns-else-eat_two-clause-found
returns-else-eat_two-clause-found c = one_found c.quoted_body.result (λ v. chars (string_bytes v)) _ _ _ _ c.if-not-eat.ensures.0 c.if-eat_two.ensures.0 c.if-eat_two.ensures.1.rest c.quoted_body.ensures.found

pub returns-else-eat_two-clause-only : goal.returns-else-eat_two-clause-only
returns-else-eat_two-clause-only c r w q = c.quoted_body.ensures.only r w (one_only _ _ _ r w c.if-not-eat.ensures.0 c.if-eat_two.ensures.0 c.if-eat_two.ensures.1.rest q)

pub returns-else-eat_two-clause-moves : goal.returns-else-eat_two-clause-moves
returns-else-eat_two-clause-moves c = moves_then (moves_one c.if-not-eat.ensures) (moves_then (moves_stayed c.if-eat_two.ensures.1) c.quoted_body.ensures.past.moves)
