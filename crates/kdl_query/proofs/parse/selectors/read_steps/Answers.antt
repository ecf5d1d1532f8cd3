use Rattle.kdl_text.proofs.Looking.MovesJoin.{moves_then}
use Rattle.kdl_query.proofs.Selecting.{step_shorter, steps_begin, steps_fail, steps_on}
use Rattle.kdl_query.proofs.parse.selectors.read_steps.Goals as goal

pub steps-init : goal.steps-init
steps-init c = record { steps = steps_begin _ _ _ c.skip_spaces.ensures.spaces c.new-steps.ensures.items; moves = c.skip_spaces.ensures.moves }

pub returns-in_err-node-clause-reads : goal.returns-in_err-node-clause-reads
returns-in_err-node-clause-reads c = steps_fail c.from_residual.result _ _ _ _ _ _ _ _ _ c.from_residual.ensures.1 c.steps.invariant.steps c.in-Some.ensures.finds c.skip_spaces-in-Some.ensures.spaces c.in_err-node.ensures

pub returns-in_err-node-clause-moves : goal.returns-in_err-node-clause-moves
returns-in_err-node-clause-moves c = moves_then c.steps.invariant.moves (moves_then c.eat_operator.ensures.moves (moves_then c.skip_spaces-in-Some.ensures.moves c.read_node.ensures.moves))

pub returns-in_err-push-clause-moves : goal.returns-in_err-push-clause-moves
returns-in_err-push-clause-moves c = moves_then c.steps.invariant.moves (moves_then c.eat_operator.ensures.moves (moves_then c.skip_spaces-in-Some.ensures.moves c.read_node.ensures.moves))

pub steps-smaller : goal.steps-smaller
steps-smaller c = step_shorter _ _ _ _ _ _ c.in-Some.ensures.finds c.skip_spaces-in-Some.ensures.moves c.read_node.ensures.moves c.skip_spaces-in-Some-2.ensures.moves

pub steps-preserved : goal.steps-preserved
steps-preserved c = record {
  steps = steps_on _ _ _ _ _ _ _ _ (record { combinator = c.in-Some.combinator; node = c.in_ok-node.node }) c.steps.invariant.steps c.in-Some.ensures.finds c.skip_spaces-in-Some.ensures.spaces c.in_ok-node.ensures.returns c.skip_spaces-in-Some-2.ensures.spaces c.in_ok-push.ensures.items;
  moves = moves_then c.steps.invariant.moves (moves_then c.eat_operator.ensures.moves (moves_then c.skip_spaces-in-Some.ensures.moves (moves_then c.read_node.ensures.moves c.skip_spaces-in-Some-2.ensures.moves)));
}
