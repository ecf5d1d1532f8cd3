-- The frames so far are taken, and what is sent for them is written.
use Rattle.std.proofs.Common.{List, flat_map, length}
use Rattle.std.specs.Io.KnownBytes.{Appends}
use Rattle.lsp.specs.Turns.{AreSteps, Step, taken_in, written_for}
use Rattle.lsp_frames.specs.Frames.{AreFrames}
use Rattle.lsp.proofs.session.take_frames.Given as goal

abbrev pub invariant-loop-message : goal.invariant-loop-message
invariant-loop-message g l =
    (steps : List Step) × AreFrames l.initial.frames (taken_in steps) l.frames × AreSteps l.initial.state steps l.state
    × Appends (g.W.Write.contents l.initial.output) (g.W.Write.contents l.output) (flat_map written_for steps)

abbrev pub decreases-loop-message : goal.decreases-loop-message
decreases-loop-message g l = length l.frames
