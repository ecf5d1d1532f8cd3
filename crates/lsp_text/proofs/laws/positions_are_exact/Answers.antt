use Rattle.lsp_text.proofs.Inverse.{position_exact}
use Rattle.lsp_text.proofs.laws.positions_are_exact.Goals as goal

pub returns : goal.returns
returns c = position_exact
