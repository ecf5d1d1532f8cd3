use Rattle.lsp_text.proofs.Examples.{changes_after}
use Rattle.lsp_text.proofs.laws.changes_follow_changes.Goals as goal

pub returns : goal.returns
returns c = changes_after
