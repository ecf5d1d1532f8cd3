use Rattle.std.proofs.Common.{refl}
use Rattle.kdl_text.specs.Internal.Reading.{Past}
use Rattle.std.specs.Str.{chars}
use Rattle.kdl_text.proofs.Looking.MovesJoin.{costs_less}
use Rattle.kdl_text.proofs.Looking.SliceCost.{past_then, past_two, past_four}
use Rattle.kdl_text.proofs.ManyLines.EscapedLineLoop.{escaped_begins, escape_there, escaped_turn, escaped_ends, escaped_past, escaped_paid, part_fails, part_there}
use Rattle.kdl_text.proofs.strings.multiline.line_escapes.Goals as goal

pub escapes-init : goal.escapes-init
escapes-init c = escaped_begins _ _ _ _ c.utf8.front c.in_ok-text.ensures.ok refl

pub returns-in_err-value-clause-only : goal.returns-in_err-value-clause-only
returns-in_err-value-clause-only c r us x = let (m, u, there) = escape_there _ _ _ _ _ c.escapes.invariant r us x in absurd (c.in_err-value.ensures.only m u there)

pub returns-in_err-value-clause-past : goal.returns-in_err-value-clause-past
returns-in_err-value-clause-past c = past_then c.escapes.invariant.past (past_four (past_two (record { moves = c.escaped_unit.ensures.moves; costs = c.escaped_unit.ensures.costs })))

pub returns-in_err-after-clause-only : goal.returns-in_err-after-clause-only
returns-in_err-after-clause-only c r us x =
    let (v, rest) = part_there _ _ _ _ _ c.escapes.invariant c.in_ok-value.value _ c.in_ok-value.ensures.found (record { moves = c.escaped_unit.ensures.moves; costs = c.escaped_unit.ensures.costs }) r us x in
    absurd (c.in_err-after.ensures.only r v rest)

pub returns-in_err-after-clause-past : goal.returns-in_err-after-clause-past
returns-in_err-after-clause-past c = part_fails _ _ _ _ _ c.escapes.invariant c.in_ok-value.value _ c.in_ok-value.ensures.found (record { moves = c.escaped_unit.ensures.moves; costs = c.escaped_unit.ensures.costs }) _ c.plain_part.ensures.past

pub returns-in_err-literal-clause-past : goal.returns-in_err-literal-clause-past
returns-in_err-literal-clause-past c = part_fails _ _ _ _ _ c.escapes.invariant c.in_ok-value.value _ c.in_ok-value.ensures.found (record { moves = c.escaped_unit.ensures.moves; costs = c.escaped_unit.ensures.costs }) _ c.plain_part.ensures.past

pub returns-in-Some : goal.returns-in-Some
returns-in-Some c =
    let step : Past 1 1 c.escapes.cursor c.escaped_unit.new.cursor = record { moves = c.escaped_unit.ensures.moves; costs = c.escaped_unit.ensures.costs } in
    let part = c.in_ok-after.ensures in
    let p = chars c.in_ok-after.after.now in
    let (us, spells, line) = escaped_ends _ _ _ _ _ c.escapes.invariant c.in_ok-value.value _ c.in_ok-value.ensures.found step p _ _ _ c.plain_part.ensures.past.moves part.found.paid c.in_ok-literal.ensures c.in-Some.closed (rw c.in-Some.is at part.found.reads) in
    let past = escaped_past _ _ _ _ _ c.escapes.invariant c.in_ok-value.value _ c.in_ok-value.ensures.found step p _ _ _ c.plain_part.ensures.past.moves part.found.paid c.in_ok-literal.ensures in
    let paid = escaped_paid _ _ _ _ _ c.escapes.invariant c.in_ok-value.value _ c.in_ok-value.ensures.found step p _ _ _ c.plain_part.ensures.past.moves part.found.paid c.in_ok-literal.ensures in
    record { found = (us, c.escaped_line.ensures _ spells, line); paid = paid; only = λ r us x. tt; past = record { moves = past.moves; costs = costs_less past.costs } }

pub escapes-preserved : goal.escapes-preserved
escapes-preserved c =
    let step : Past 1 1 c.escapes.cursor c.escaped_unit.new.cursor = record { moves = c.escaped_unit.ensures.moves; costs = c.escaped_unit.ensures.costs } in
    escaped_turn _ _ _ _ _ c.escapes.invariant c.in_ok-value.value _ c.in_ok-value.ensures.found step (chars c.in_ok-after.after.now) _ _ _ c.plain_part.ensures.past.moves c.in_ok-after.ensures.found.paid c.in_ok-literal.ensures (rw c.in_default.is at c.in_ok-after.ensures.found.reads)
