use Rattle.std.proofs.Common.{◌≡◌, ◌≤◌, length, take}
use Rattle.std.specs.Prelude.{flat_map}
use Rattle.watched.proofs.writing.put_pieces.Given as goal

abbrev pub invariant-loop-piece : goal.invariant-loop-piece
invariant-loop-piece l = record {
  size : length l.buffer ≡ length l.initial.buffer;
  within : l.end ≤ length l.buffer;
  count : l.end ≡ length (flat_map (λ p. p.now) (take l.piece-index l.pieces));
  put : take l.end l.buffer ≡ flat_map (λ p. p.now) (take l.piece-index l.pieces);
}
