use Rattle.std.proofs.Common.{None, arith}
use Rattle.std.specs.Option.{IfSome}
use Rattle.std.specs.Prelude.{Option}
use Rattle.std.proofs.lemmas.List.Elements.{All-set}
use Rattle.kdl_text.specs.Spans.{InText}
use Rattle.kdl_text.specs.declared.span.SourceSpan.{SourceSpan}
use Rattle.kdl_diagnostics.proofs.notes.Notes.tell_block.Goals as goal

pub returns-then-count-gt0 : goal.returns-then-count-gt0
returns-then-count-gt0 c = record {
  notes = λ text x u. (record { whole = x.whole; left = x.left; faults = x.faults; blocks = All-set (λ (b : Option SourceSpan). IfSome b (InText text)) c.args.self.now.blocks.items _ None tt x.blocks; candidates = x.candidates });
  grows = omega arith;
}
