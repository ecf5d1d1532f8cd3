use Rattle.std.proofs.Common.{ap}
use Rattle.kdl_text.specs.declared.span.SourceSpan.{SourceSpan}
use Rattle.kdl_diagnostics.proofs.NotedSpans.{char_in, span_in}
use Rattle.kdl_diagnostics.proofs.notes.Notes.span.Goals as goal

pub returns-then-len-gt0 : goal.returns-then-len-gt0
returns-then-len-gt0 c text x u v = span_in text c.args.self.now c.args.from.now c.args.to.now _ x u v c.span_between-offset.ensures

pub returns : goal.returns
returns c text x u v = char_in text c.args.self.now c.args.from.now _ x u (ap (λ (s : SourceSpan). s.offset) c.span_between-offset.ensures) c.char_span-len.ensures.len
