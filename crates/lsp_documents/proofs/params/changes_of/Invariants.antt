use Rattle.std.proofs.Common.{map, take}
use Rattle.json.specs.Value.{items_view}
use Rattle.lsp_documents.specs.Notes.{AreChanges}
use Rattle.lsp_text.specs.Positions.{change_of}
use Rattle.lsp_documents.proofs.params.changes_of.Given as goal

abbrev pub invariant-loop-value : goal.invariant-loop-value
invariant-loop-value l = AreChanges (items_view (take l.value-index l.values)) (map change_of l.changes.items)
