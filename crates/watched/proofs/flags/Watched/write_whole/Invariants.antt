use Rattle.std.proofs.Common.{◌≤◌, ◌-◌, length, take}
use Rattle.watched.specs.Flags.{StopsAtFailure}
use Rattle.watched.specs.Streams.{Grows, stream}
use Rattle.watched.proofs.flags.Watched.write_whole.Given as goal

abbrev pub invariant-loop-done : goal.invariant-loop-done
invariant-loop-done g l = record {
  within : l.done ≤ length l.bytes;
  written : Grows (take l.done l.bytes) (stream g.W.Write.contents l.initial.self) (stream g.W.Write.contents l.self);
  stops : StopsAtFailure l.initial.self l.self;
}

abbrev pub decreases-loop-done : goal.decreases-loop-done
decreases-loop-done g l = length l.bytes - l.done
