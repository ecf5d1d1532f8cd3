use Rattle.std.proofs.Common.{◌∙◌, ap, string_bytes}
use Rattle.lsp_frames.specs.Frames.{frame_of}
use Rattle.lsp.proofs.Steps.{one_read}
use Rattle.lsp.proofs.session.write_messages.Goals as goal

pub loop-message-preserved : goal.loop-message-preserved
loop-message-preserved g c =
    one_read frame_of string_bytes _ _ _ c.args.messages.now c.loop-message.message-index c.message-item.result _ c.loop-message-test.true
    (ap frame_of (c.deref.ensures ∙ ap string_bytes c.message-item.is)) c.loop-message.invariant c.in_ok-write_frame.ensures
