use Rattle.std.proofs.Common.{sym}
use Rattle.lsp_frames.proofs.Taken.{other_than_bad, passed}
use Rattle.lsp_frames.proofs.frames.Frames.is_bad.Goals as goal

pub returns-in_default : goal.returns-in_default
returns-in_default c =
    let front = passed _ c.self.inside.bytes.items c.args.self.now c.self.inside.taken c.first_frame.result c.deref.ensures.value c.self.view_is c.first_frame.ensures in
    sym (other_than_bad c.args.self.now c.first_frame.result front c.in_default.not-Bad)
