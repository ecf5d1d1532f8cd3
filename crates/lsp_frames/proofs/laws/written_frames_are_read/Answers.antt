use Rattle.lsp_frames.proofs.Written.{written_is_read}
use Rattle.lsp_frames.proofs.laws.written_frames_are_read.Goals as goal

pub returns : goal.returns
returns c = written_is_read
