-- The frames so far are taken, and their messages appended.
use Rattle.std.proofs.Common.{◌≡◌, List, ℕ, ◌++◌, length, map}
use Rattle.lsp_frames.specs.Frames.{AreFrames}
use Rattle.lsp_frames.proofs.messages.take_all.Given as goal

abbrev pub invariant-loop-message : goal.invariant-loop-message
invariant-loop-message l =
    (ms : List (List ℕ)) × (map (λ m. m.items) l.messages.items ≡ map (λ m. m.items) l.initial.messages.items ++ ms) × AreFrames l.initial.frames ms l.frames

abbrev pub decreases-loop-message : goal.decreases-loop-message
decreases-loop-message l = length l.frames
