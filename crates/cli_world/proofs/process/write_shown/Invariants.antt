use Rattle.std.specs.Prelude.{flat_map}
use Rattle.watched.specs.Flags.{StopsAtFailure}
use Rattle.watched.specs.Streams.{Grows, stream}
use Rattle.cli_world.proofs.Lines.{char_bytes}
use Rattle.cli_world.proofs.process.write_shown.Given as goal

abbrev pub invariant-loop-c : goal.invariant-loop-c
invariant-loop-c g l = record {
  written : Grows (flat_map char_bytes l.yielded) (stream g.E.Write.contents l.initial.err) (stream g.E.Write.contents l.err);
  stops : StopsAtFailure l.initial.err l.err;
}
