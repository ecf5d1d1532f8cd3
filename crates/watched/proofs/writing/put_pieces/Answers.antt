use Rattle.std.proofs.Common.{[], get_or, rules, arith}
use Rattle.watched.proofs.WriteSteps.{too_long}
use Rattle.watched.proofs.writing.put_pieces.Goals as goal

pub returns-then-piece-buffer-clause-end : goal.returns-then-piece-buffer-clause-end
returns-then-piece-buffer-clause-end c =
    let at = c.loop-piece.piece-index in
    let piece = get_or c.args.pieces.now at (record { ref_ptr = (0, 0); now = [] }) in
    too_long (λ p. p.now) c.args.pieces.now at piece _ c.loop-piece-test.true (search rules) (omega (arith, c.if-piece-buffer.true, c.loop-piece.invariant.count, c.loop-piece.invariant.size))
