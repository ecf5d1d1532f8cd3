-- The members so far are read.
use Rattle.std.proofs.Common.{◌≡◌, ◌∷◌, length, option_map}
use Rattle.json.specs.Lex.{tokens}
use Rattle.json.specs.Token.{begin_object}
use Rattle.json.specs.Value.{value_view}
use Rattle.lsp.proofs.Asking.{Reading}
use Rattle.lsp.proofs.request.request_id.Given as goal

abbrev pub invariant-loop-method : goal.invariant-loop-method
invariant-loop-method l = (tokens l.text ≡ begin_object ∷ l.initial.reader) × Reading l.initial.reader l.reader (option_map value_view l.id) (option_map value_view l.method)

abbrev pub decreases-loop-method : goal.decreases-loop-method
decreases-loop-method l = length l.reader
