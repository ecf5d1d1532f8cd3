-- The lines so far give no length.
use Rattle.std.proofs.Common.{◌≡◌, length}
use Rattle.lsp_frames.specs.Heads.{first_length, lines}
use Rattle.lsp_frames.proofs.head.length_in.Given as goal

abbrev pub invariant-loop-end : goal.invariant-loop-end
invariant-loop-end l = first_length (lines l.rest) ≡ first_length (lines l.head)

abbrev pub decreases-loop-end : goal.decreases-loop-end
decreases-loop-end l = length l.rest
