use Rattle.std.proofs.Common.{◌≡◌, ◌+◌, map, take, slice_range}
use Rattle.use_theorems.proofs.spans.pieces.Given as goal

abbrev pub invariant-loop-diagnostic : goal.invariant-loop-diagnostic
invariant-loop-diagnostic l =
    map (λ p. p.now) l.found.items ≡ map (λ d. slice_range l.text d.span.offset (d.span.offset + d.span.len)) (take l.diagnostic-index l.error.diagnostics.items)
