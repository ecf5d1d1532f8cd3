use Rattle.std.proofs.Common.{arith}
use Rattle.kdl_text.proofs.Looking.SliceCost.{moves_passed}
use Rattle.kdl_text.proofs.Spacing.CommentLoop.{starts, depth_fits, after_passed, after_open, after_close, after_one, after_slash, after_star, after_all, after_end}
use Rattle.kdl_text.proofs.trivia.block_end.Goals as goal

pub parts-init : goal.parts-init
parts-init c = rw c.take_over-here.ensures.result (starts _)

pub returns-in-None : goal.returns-in-None
returns-in-None c =
    let (m, run, took) = c.in-None.ensures.took in
    let h = after_end _ _ _ _ (after_passed _ _ _ _ c.parts.invariant run) took in
    record { parts = record { reads = h.0; past = h.2 }; ended = λ _. h.1 }

pub overflow_add-depth : goal.overflow_add-depth
overflow_add-depth c =
    let (m, run, took) = c.in-Some-eq47.ensures.took in
    depth_fits _ _ _ _ _ _ (after_passed _ _ _ _ c.parts.invariant run) took c.if-eat.ensures (omega (arith, (moves_passed run).at, c.in-Some-eq47.ensures.room))

pub parts-preserved-then-eat : goal.parts-preserved-then-eat
parts-preserved-then-eat c =
    let (m, run, took) = c.in-Some-eq47.ensures.took in
    after_open _ _ _ _ _ _ (after_passed _ _ _ _ c.parts.invariant run) took c.in-Some-eq47.field-0-test c.if-eat.ensures

pub parts-preserved-else-eat : goal.parts-preserved-else-eat
parts-preserved-else-eat c =
    let (m, run, took) = c.in-Some-eq47.ensures.took in
    after_slash _ _ _ _ _ _ (after_passed _ _ _ _ c.parts.invariant run) took c.in-Some-eq47.field-0-test c.if-eat.ensures

pub returns-then-depth-eq0 : goal.returns-then-depth-eq0
returns-then-depth-eq0 c =
    let (m, run, took) = c.in-Some-eq42.ensures.took in
    let h = after_all _ _ _ _ _ _ (after_passed _ _ _ _ c.parts.invariant run) took c.in-Some-eq42.field-0-test c.if-eat-2.ensures c.if-depth-eq0.true in
    record { parts = record { reads = h.0; past = h.1 }; ended = λ h. cc }

pub parts-preserved-else-depth-eq0 : goal.parts-preserved-else-depth-eq0
parts-preserved-else-depth-eq0 c =
    let (m, run, took) = c.in-Some-eq42.ensures.took in
    after_close _ _ _ _ _ _ (after_passed _ _ _ _ c.parts.invariant run) took c.in-Some-eq42.field-0-test c.if-eat-2.ensures (omega (arith, c.if-depth-eq0.false))

pub parts-preserved-else-eat-2 : goal.parts-preserved-else-eat-2
parts-preserved-else-eat-2 c =
    let (m, run, took) = c.in-Some-eq42.ensures.took in
    after_star _ _ _ _ _ _ (after_passed _ _ _ _ c.parts.invariant run) took c.in-Some-eq42.field-0-test c.if-eat-2.ensures

pub parts-preserved : goal.parts-preserved
parts-preserved c =
    let (m, run, took) = c.in-Some.ensures.took in
    after_one _ _ _ _ _ c.take_at.new.self (after_passed _ _ _ _ c.parts.invariant run) took c.in-Some.field-0-test.0.1 c.in-Some.field-0-test.1
