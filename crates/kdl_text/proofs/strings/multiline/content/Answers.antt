use Rattle.kdl_text.specs.Internal.Lines.{LinesOf}
use Rattle.kdl_text.proofs.Looking.MovesJoin.{costs_less}
use Rattle.kdl_text.proofs.Looking.SliceCost.{past_then}
use Rattle.kdl_text.proofs.ManyLines.LinesJoin.{lines_begin, lines_turn, lines_close}
use Rattle.kdl_text.proofs.strings.multiline.content.Goals as goal

pub lines-init : goal.lines-init
lines-init c = rw c.new-lines.ensures.items (lines_begin (LinesOf c.args.signs) _)

pub returns-in_err-line-clause-past : goal.returns-in_err-line-clause-past
returns-in_err-line-clause-past c = past_then c.lines.invariant.past c.read_line.ensures.past

pub returns-in_err-add_line-clause-past : goal.returns-in_err-add_line-clause-past
returns-in_err-add_line-clause-past c = past_then c.lines.invariant.past c.read_line.ensures.past

pub returns-then-closed : goal.returns-then-closed
returns-then-closed c =
    let (found, past) = lines_close (LinesOf c.args.signs) _ _ _ _ _ c.lines.invariant c.read_line.ensures.past.moves _ c.in_ok-add_line.ensures (rw c.if-closed.true at c.in_ok-line.ensures.found) in
    record { found = found; only = λ r us x. tt; past = record { moves = past.moves; costs = costs_less past.costs } }

pub lines-preserved : goal.lines-preserved
lines-preserved c = lines_turn (LinesOf c.args.signs) _ _ _ _ _ c.lines.invariant c.read_line.ensures.past.moves _ c.in_ok-add_line.ensures (rw c.if-closed.false at c.in_ok-line.ensures.found)
