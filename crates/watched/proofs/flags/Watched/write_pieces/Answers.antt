use Rattle.std.proofs.Common.{[], get_or, rules}
use Rattle.std.proofs.lemmas.Result.{err_from_is_err_and}
use Rattle.watched.specs.Streams.{stream}
use Rattle.watched.proofs.WriteSteps.{stopped}
use Rattle.watched.proofs.flags.Watched.write_pieces.Goals as goal

pub returns-in_err-write_whole : goal.returns-in_err-write_whole
returns-in_err-write_whole g c =
    let pieces = c.args.pieces.now in
    let at = c.loop-piece.piece-index in
    let piece = get_or pieces at (record { ref_ptr = (0, 0); now = [] }) in
    let known = stream g.W.Write.contents in
    let cut = stopped (λ p. p.now) pieces at piece (known c.args.self.now) (known c.loop-piece.self) (known c.write_whole.new.self) c.loop-piece-test.true (search rules) c.loop-piece.invariant.written c.in_err-write_whole.ensures.0 in
    (rw (err_from_is_err_and c.from_residual.result c.from_residual.ensures.1).1 cut, search rules)
