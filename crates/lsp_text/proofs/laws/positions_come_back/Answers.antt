use Rattle.lsp_text.proofs.Inverse.{position_offset}
use Rattle.lsp_text.proofs.laws.positions_come_back.Goals as goal

pub returns : goal.returns
returns c = position_offset
