use Rattle.lsp_text.proofs.Inverse.{offset_position}
use Rattle.lsp_text.proofs.laws.offsets_come_back.Goals as goal

pub returns : goal.returns
returns c = offset_position
