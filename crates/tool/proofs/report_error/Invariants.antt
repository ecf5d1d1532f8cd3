use Rattle.std.proofs.Common.{take}
use Rattle.std.specs.Prelude.{flat_map}
use Rattle.tool.specs.Reports.{diagnostic_line}
use Rattle.watched.specs.Flags.{StopsAtFailure}
use Rattle.watched.specs.Streams.{Grows, stream}
use Rattle.tool.proofs.report_error.Given as goal

abbrev pub invariant-loop-diagnostic : goal.invariant-loop-diagnostic
invariant-loop-diagnostic g l = record {
  written : Grows (flat_map diagnostic_line (take l.diagnostic-index l.diagnostic-items)) (stream g.W.Write.contents l.initial.writer) (stream g.W.Write.contents l.writer);
  stops : StopsAtFailure l.initial.writer l.writer;
}
