use Rattle.std.proofs.Common.{◌∷◌, ◌++◌, [], codes, decimal}
use Rattle.std.proofs.lemmas.Result.{on_ok_weaker}
use Rattle.json.specs.Token.{begin_object, end_object, key, number}
use Rattle.lsp.proofs.Growing.{next}
use Rattle.lsp.proofs.Nesting.{wrote, wrote_last}
use Rattle.lsp.proofs.write.put_position.Goals as goal

pub returns-clause-written : goal.returns-clause-written
returns-clause-written c =
    let old = c.args.out.now.tokens in
    let front = key c.args.name.now ∷ [] in
    let line = key (codes "line") ∷ number (decimal c.args.position.line) ∷ [] in
    let character = key (codes "character") ∷ number (decimal c.args.position.character) ∷ [] in
    let one = next old _ _ front (begin_object ∷ []) c.in_ok-key.ensures.ok c.in_ok-begin_object.ensures.ok in
    let two = next old _ _ (front ++ begin_object ∷ []) line one c.in_ok-put_number.ensures.written in
    let three = next old _ _ (front ++ begin_object ∷ line) character two c.in_ok-put_number-2.ensures.written in
    on_ok_weaker c.end_object.result (next old _ _ (front ++ begin_object ∷ line ++ character) (end_object ∷ []) three) c.end_object.ensures.ok

pub returns-clause-members : goal.returns-clause-members
returns-clause-members c =
    on_ok_weaker c.end_object.result
    (λ e n is. (
    let one = wrote _ _ _ _ _ c.in_ok-key.ensures is in
    let two = wrote _ _ _ _ _ c.in_ok-begin_object.ensures one in
    let three = c.in_ok-put_number.ensures.members _ two in
    let four = c.in_ok-put_number-2.ensures.members _ three in
    e _ four))
    (wrote_last _ _ _ _ c.end_object.ensures)
