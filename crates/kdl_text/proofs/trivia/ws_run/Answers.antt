use Rattle.kdl_text.proofs.Spacing.SpaceReads.{begun, run_stops, run_unclosed, run_turn}
use Rattle.kdl_text.proofs.trivia.ws_run.Goals as goal

pub run-init : goal.run-init
run-init c = begun _

pub returns-then-not-eat_two : goal.returns-then-not-eat_two
returns-then-not-eat_two c =
    run_stops _ _ _ c.run.invariant c.spaces.ensures.reads (record { moves = c.spaces.ensures.moves; costs = c.spaces.ensures.costs }) _ c.if-not-eat_two.ensures

pub returns-then-not-block_end : goal.returns-then-not-block_end
returns-then-not-block_end c =
    run_unclosed _ _ _ c.run.invariant c.spaces.ensures.reads (record { moves = c.spaces.ensures.moves; costs = c.spaces.ensures.costs }) _ _ c.if-not-eat_two.ensures c.if-not-block_end.ensures.parts.past c.if-not-block_end.ensures.parts.reads

pub run-preserved : goal.run-preserved
run-preserved c = run_turn _ _ _ c.run.invariant c.spaces.ensures.reads (record { moves = c.spaces.ensures.moves; costs = c.spaces.ensures.costs }) _ _ c.if-not-eat_two.ensures c.if-not-block_end.ensures.parts.past c.if-not-block_end.ensures.parts.reads
