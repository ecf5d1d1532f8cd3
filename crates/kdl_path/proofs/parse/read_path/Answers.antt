use Rattle.kdl_text.proofs.Looking.MovesJoin.{moves_then}
use Rattle.kdl_path.specs.PathText.{path_says}
use Rattle.kdl_path.proofs.PathReads.{no_path_end, no_path_step, out_of_memory, passed_on, path_found, path_unique, steps_first, steps_more}
use Rattle.kdl_path.proofs.parse.read_path.Goals as goal

pub steps-init : goal.steps-init
steps-init c = record { steps = steps_first _ _ _ _ _ c.requires c.in_ok-read_step.ensures.returns c.new-steps.ensures.items c.in_ok-push.ensures.items; moves = c.read_step.ensures.moves }

pub returns-in_err-read_step-2-clause-reads : goal.returns-in_err-read_step-2-clause-reads
returns-in_err-read_step-2-clause-reads c =
    let m = moves_then c.steps.invariant.moves c.steps-test.ensures.moves in
    passed_on path_says _ _ _ _ c.from_residual-in_err-read_step-2.ensures.1 c.in_err-read_step-2.ensures m (moves_then m c.read_step-in-steps.ensures.moves) (no_path_step _ _ _ _ c.steps.invariant.steps c.steps-test.ensures.ate)

pub steps-preserved : goal.steps-preserved
steps-preserved c = record {
  steps = steps_more _ _ _ _ _ _ _ c.steps.invariant.steps c.steps-test.ensures.ate c.in_ok-read_step-2.ensures.returns c.in_ok-push-2.ensures.items;
  moves = moves_then c.steps.invariant.moves (moves_then c.steps-test.ensures.moves c.read_step-in-steps.ensures.moves);
}

pub returns-in_err-push-2-clause-reads : goal.returns-in_err-push-2-clause-reads
returns-in_err-push-2-clause-reads c = out_of_memory path_says _ _ _ c.from_residual-in_err-push-2.ensures.1 (moves_then c.steps.invariant.moves (moves_then c.steps-test.ensures.moves c.read_step-in-steps.ensures.moves))

pub returns-in_err-target-clause-reads : goal.returns-in_err-target-clause-reads
returns-in_err-target-clause-reads c =
    let m = moves_then c.steps.invariant.moves c.steps-test.ensures.moves in
    passed_on path_says _ _ _ _ c.from_residual-in_err-target.ensures.1 c.in_err-target.ensures m (moves_then m c.read_end.ensures.moves) (no_path_end _ _ _ _ c.steps.invariant.steps c.steps-test.ensures.ate)

pub returns-clause-reads : goal.returns-clause-reads
returns-clause-reads c = record {
  returns = path_found _ _ _ _ _ _ c.steps.invariant.steps c.steps-test.ensures.ate c.in_ok-target.ensures.returns;
  moves = moves_then c.steps.invariant.moves (moves_then c.steps-test.ensures.moves c.read_end.ensures.moves);
}

pub returns-clause-only : goal.returns-clause-only
returns-clause-only c = path_unique _ _ _ _ _ _ c.steps.invariant.steps c.steps-test.ensures.ate c.in_ok-target.ensures.returns
