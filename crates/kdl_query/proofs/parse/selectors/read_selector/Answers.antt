use Rattle.kdl_text.proofs.Looking.MovesJoin.{moves_then}
use Rattle.kdl_query.proofs.Selecting.{same_then, selector_first, selector_steps, selectors_same}
use Rattle.kdl_query.proofs.parse.selectors.read_selector.Goals as goal

pub returns-in_err-first-clause-reads : goal.returns-in_err-first-clause-reads
returns-in_err-first-clause-reads c = selector_first c.from_residual.result _ _ _ _ _ c.from_residual.ensures.1 c.skip_spaces.ensures.spaces c.in_err-first.ensures

pub returns-in_err-steps-clause-reads : goal.returns-in_err-steps-clause-reads
returns-in_err-steps-clause-reads c = selector_steps c.from_residual-in_err-steps.result c.in_err-steps.field-0.0 _ _ _ c.read_steps.new.cursor.rest _ c.in_ok-first.first c.from_residual-in_err-steps.ensures.1 c.skip_spaces.ensures.spaces c.in_ok-first.ensures.returns c.in_err-steps.ensures.reads

pub returns-in_err-steps-clause-moves : goal.returns-in_err-steps-clause-moves
returns-in_err-steps-clause-moves c = moves_then c.skip_spaces.ensures.moves (moves_then c.read_first.ensures.moves c.read_steps.ensures.moves)

pub returns-clause-reads : goal.returns-clause-reads
returns-clause-reads c = (same_then (selectors_same _ _ _ _ c.skip_spaces.ensures.spaces c.in_ok-first.ensures.returns) (c.in_ok-steps.ensures.reads.0 _), c.in_ok-steps.ensures.reads.1)

pub returns-clause-moves : goal.returns-clause-moves
returns-clause-moves c = moves_then c.skip_spaces.ensures.moves (moves_then c.read_first.ensures.moves c.read_steps.ensures.moves)
