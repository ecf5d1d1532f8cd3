use Rattle.lsp_text.proofs.Units.{all_changed_utf16}
use Rattle.lsp_text.proofs.laws.changes_are_changes_of_units.Goals as goal

pub returns : goal.returns
returns c = all_changed_utf16
