use Rattle.std.proofs.Common.{take}
use Rattle.std.specs.Prelude.{flat_map}
use Rattle.watched.specs.Flags.{StopsAtFailure}
use Rattle.watched.specs.Streams.{Grows, stream}
use Rattle.watched.proofs.flags.Watched.write_pieces.Given as goal

abbrev pub invariant-loop-piece : goal.invariant-loop-piece
invariant-loop-piece g l = record {
  written : Grows (flat_map (λ p. p.now) (take l.piece-index l.pieces)) (stream g.W.Write.contents l.initial.self) (stream g.W.Write.contents l.self);
  stops : StopsAtFailure l.initial.self l.self;
}
