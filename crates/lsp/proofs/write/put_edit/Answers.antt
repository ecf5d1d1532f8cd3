use Rattle.std.proofs.Common.{◌∷◌, ◌++◌, [], codes}
use Rattle.std.proofs.lemmas.Result.{on_ok_weaker}
use Rattle.json.specs.Token.{begin_object, end_object, key, string}
use Rattle.lsp.specs.Faults.{range_tokens}
use Rattle.lsp.proofs.Growing.{next}
use Rattle.std.proofs.Common.{refl}
use Rattle.lsp.proofs.Nesting.{wrote, wrote_last}
use Rattle.lsp.proofs.write.put_edit.Goals as goal

pub returns-clause-written : goal.returns-clause-written
returns-clause-written c =
    let old = c.args.out.now.tokens in
    let range = key (codes "range") ∷ range_tokens c.args.range in
    let new = key (codes "newText") ∷ string c.args.new.now ∷ [] in
    let one = next old _ _ (begin_object ∷ []) range c.in_ok-begin_object.ensures.ok c.in_ok-put_range.ensures.written in
    let two = next old _ _ (begin_object ∷ range) new one c.in_ok-put_text.ensures.written in
    on_ok_weaker c.end_object.result (next old _ _ (begin_object ∷ range ++ new) (end_object ∷ []) two) c.end_object.ensures.ok

pub returns-clause-value : goal.returns-clause-value
returns-clause-value c =
    on_ok_weaker c.end_object.result
    (λ e. (
    let one = wrote _ _ _ _ _ c.in_ok-begin_object.ensures refl in
    let two = c.in_ok-put_range.ensures.members _ one in
    let three = c.in_ok-put_text.ensures.members _ two in
    e _ three))
    (wrote_last _ _ _ _ c.end_object.ensures)
