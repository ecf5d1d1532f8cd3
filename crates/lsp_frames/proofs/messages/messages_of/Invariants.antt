-- The messages are those of the parts so far, and what is left begins with no whole frame.
use Rattle.std.proofs.Common.{◌≡◌, None, map, take}
use Rattle.std.specs.List.{concat}
use Rattle.lsp_frames.specs.Frames.{AreFrames, frame_in}
use Rattle.lsp_frames.proofs.messages.messages_of.Given as goal

abbrev pub invariant-loop-part : goal.invariant-loop-part
invariant-loop-part l = record {
  frames : AreFrames (concat (map (λ p. p.items) (take l.part-index l.parts))) (map (λ m. m.items) l.messages.items) l.frames;
  none : frame_in l.frames ≡ None;
}
