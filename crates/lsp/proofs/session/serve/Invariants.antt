-- The frames that were read are taken, and what is sent for them is written. Each turn takes at least one byte.
use Rattle.std.proofs.Common.{◌≡◌, None, false}
use Rattle.lsp_documents.specs.States.{is_over}
use Rattle.lsp_frames.specs.Frames.{frame_in}
use Rattle.lsp.proofs.Steps.{Going}
use Rattle.lsp.proofs.session.serve.Given as goal

abbrev pub invariant-loop-spare : goal.invariant-loop-spare
invariant-loop-spare g l =
    Going (g.R.Read.remaining l.initial.input) (g.R.Read.remaining l.input) (g.W.Write.contents l.initial.output) (g.W.Write.contents l.output) l.initial.state l.state l.frames
    × (frame_in l.frames ≡ None) × (is_over l.state.phase ≡ false)

abbrev pub decreases-loop-spare : goal.decreases-loop-spare
decreases-loop-spare g l = l.left
