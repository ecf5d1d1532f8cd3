use Rattle.std.proofs.Common.{◌∙◌, ap}
use Rattle.std.proofs.lemmas.Result.{on_ok_weaker}
use Rattle.lsp.specs.Internal.Levels.{in_owner}
use Rattle.lsp.specs.Internal.Nesting.{after_items}
use Rattle.lsp.proofs.Nesting.{wrote}
use Rattle.lsp.proofs.symbols.put_list_end.Goals as goal

pub returns-in-Some : goal.returns-in-Some
returns-in-Some c n is =
    let end = wrote _ _ _ _ _ c.in_ok-end_array.ensures is ∙ ap (λ o. after_items (in_owner n o)) c.in-Some.is in
    on_ok_weaker c.put_end.result (λ e. e n end) c.put_end.ensures

pub returns-in-None : goal.returns-in-None
returns-in-None c n is = wrote _ _ _ _ _ c.in_ok-end_array.ensures is ∙ ap (λ o. after_items (in_owner n o)) c.in-None.is
