use Rattle.std.proofs.Common.{arith, sym, ◌∙◌}
use Rattle.kdl_text.proofs.Looking.Runs.{run_counts, run_turn}
use Rattle.kdl_text.proofs.chars.skip_beyond.Goals as goal

pub overflow_add-count-in-Some : goal.overflow_add-count-in-Some
overflow_add-count-in-Some c =
    let (text, small, i) = c.run.invariant in
    let (e, l) = c.in-Some.ensures.parts in
    omega (arith, run_counts _ _ _ _ (run_turn _ _ _ _ _ c.in-Some.c _ _ i e l (sym c.has_beyond.ensures ∙ c.if-not-has_beyond.false) c.skip_ascii-more.ensures))
