use Rattle.std.proofs.Common.{arith}
use Rattle.kdl_text.proofs.Looking.MovesJoin.{moves_then}
use Rattle.kdl_text.proofs.Spacing.EsclineReads.{esc_reads, esc_unclosed, esc_moves, esc_costs, both_costs}
use Rattle.kdl_text.proofs.Spacing.SpaceReads.{ate_here}
use Rattle.kdl_text.proofs.trivia.escline.Goals as goal

pub returns-then-not-ws_run : goal.returns-then-not-ws_run
returns-then-not-ws_run c = record {
  reads = esc_unclosed _ _ c.ws_run.new.cursor (ate_here _ _ _ _ c.requires c.eat.ensures) c.if-not-ws_run.ensures.reads;
  moves = esc_moves _ _ _ (ate_here _ _ _ _ c.requires c.eat.ensures) c.if-not-ws_run.ensures.past.moves;
  costs = esc_costs _ _ _ _ (ate_here _ _ _ _ c.requires c.eat.ensures) c.if-not-ws_run.ensures.past.moves c.if-not-ws_run.ensures.past.costs (omega arith);
}

pub returns-clause-reads : goal.returns-clause-reads
returns-clause-reads c = esc_reads _ _ _ c.ws_run.new.cursor _ (ate_here _ _ _ _ c.requires c.eat.ensures) c.if-not-ws_run.ensures.reads c.escline_end.ensures.reads

pub returns-clause-moves : goal.returns-clause-moves
returns-clause-moves c = esc_moves _ _ _ (ate_here _ _ _ _ c.requires c.eat.ensures) (moves_then c.if-not-ws_run.ensures.past.moves c.escline_end.ensures.past.moves)

pub returns-clause-costs : goal.returns-clause-costs
returns-clause-costs c =
    esc_costs _ _ _ _ (ate_here _ _ _ _ c.requires c.eat.ensures) (moves_then c.if-not-ws_run.ensures.past.moves c.escline_end.ensures.past.moves)
    (both_costs _ _ _ c.if-not-ws_run.ensures.past.costs c.escline_end.ensures.past.costs c.escline_end.ensures.past.moves) (omega arith)
