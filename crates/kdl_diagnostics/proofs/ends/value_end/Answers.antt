use Rattle.std.proofs.Common.{ap, ◌∙◌, arith}
use Rattle.kdl_text.specs.Internal.Here.{Here}
use Rattle.kdl_text.proofs.Looking.MovesJoin.{moves_then, fewer_bytes}
use Rattle.kdl_diagnostics.specs.Internal.Reading.{GoesOn, Reads}
use Rattle.kdl_diagnostics.proofs.Passing.{end_from, ended, first_same, reads_more, reads_ran, reads_returned, reads_then, reads_up, stepped_first, end_here}
use Rattle.kdl_diagnostics.proofs.ends.value_end.Goals as goal

-- looks, and at least a byte more
turn : {f a b e : Here} → Reads 24 0 f a → Reads 1 8 a b → GoesOn 12 b e → Reads 24 0 f e
turn i t g = record { moves = moves_then i.moves (moves_then t.moves g.reads.moves); most = omega (arith, i.most, t.most, g.reads.most, g.went, fewer_bytes t.moves) }

pub returns-in-None-clause-end : goal.returns-in-None-clause-end
returns-in-None-clause-end c =
    let r = reads_ran c.skip.ensures in
    end_here _ c.checkpoint-place.ensures.rest c.checkpoint-place.ensures.at (moves_then c.ends.invariant.moves r.moves)

pub returns-in-None-clause-reads : goal.returns-in-None-clause-reads
returns-in-None-clause-reads c = reads_more 10 (reads_then c.ends.invariant (reads_up 23 (ended _ _ _ _ c.skip.ensures c.look.ensures.moved)))

pub returns-in-Some-end_at_backslash-clause-end : goal.returns-in-Some-end_at_backslash-clause-end
returns-in-Some-end_at_backslash-clause-end c =
    let t = ended _ _ _ _ c.skip.ensures c.look.ensures.moved in
    end_from (moves_then c.ends.invariant.moves t.moves) c.in-Some-end_at_backslash.ensures.end

pub returns-in-Some-end_at_backslash-clause-reads : goal.returns-in-Some-end_at_backslash-clause-reads
returns-in-Some-end_at_backslash-clause-reads c = reads_more 12 (turn c.ends.invariant (reads_more 6 (ended _ _ _ _ c.skip.ensures c.look.ensures.moved)) c.end_at_backslash.ensures.goes)

pub ends-smaller-in-Some-eq92 : goal.ends-smaller-in-Some-eq92
ends-smaller-in-Some-eq92 c =
    let t = ended _ _ _ _ c.skip.ensures c.look.ensures.moved in
    omega (arith, fewer_bytes t.moves, c.end_at_backslash.ensures.goes.went)

pub ends-preserved-in-Some-eq92 : goal.ends-preserved-in-Some-eq92
ends-preserved-in-Some-eq92 c = turn c.ends.invariant (reads_more 6 (ended _ _ _ _ c.skip.ensures c.look.ensures.moved)) c.end_at_backslash.ensures.goes

pub returns-then-ends_here-clause-end : goal.returns-then-ends_here-clause-end
returns-then-ends_here-clause-end c =
    let r = reads_ran c.skip.ensures in
    end_here _ c.checkpoint-place.ensures.rest c.checkpoint-place.ensures.at (moves_then c.ends.invariant.moves r.moves)

pub returns-then-ends_here-clause-reads : goal.returns-then-ends_here-clause-reads
returns-then-ends_here-clause-reads c =
    let t = reads_then (ended _ _ _ _ c.skip.ensures c.look.ensures.moved) (reads_returned 1 c.ends_here.ensures) in
    reads_more 4 (reads_then c.ends.invariant (reads_up 23 t))

pub ends-smaller : goal.ends-smaller
ends-smaller c =
    let t = reads_then (ended _ _ _ _ c.skip.ensures c.look.ensures.moved) (reads_returned 1 c.ends_here.ensures) in
    let step = stepped_first _ _ _ (first_same _ c.skip.new.self c.ends_here.new.cursor c.in-Some.ensures.result (c.ends_here.ensures.rest ∙ ap (λ z. z.rest) c.look.ensures.moved)) c.step.ensures in
    omega (arith, fewer_bytes t.moves, step.went)

pub ends-preserved : goal.ends-preserved
ends-preserved c =
    let t = reads_then (ended _ _ _ _ c.skip.ensures c.look.ensures.moved) (reads_returned 1 c.ends_here.ensures) in
    let step = stepped_first _ _ _ (first_same _ c.skip.new.self c.ends_here.new.cursor c.in-Some.ensures.result (c.ends_here.ensures.rest ∙ ap (λ z. z.rest) c.look.ensures.moved)) c.step.ensures in
    turn c.ends.invariant t (record { reads = reads_up 12 step.reads; went = step.went })
