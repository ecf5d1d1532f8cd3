use Rattle.std.proofs.Common.{◌∷◌, ◌++◌, [], codes}
use Rattle.std.proofs.lemmas.Result.{on_ok_weaker}
use Rattle.json.specs.Token.{begin_object, end_object, key}
use Rattle.lsp.specs.Faults.{position_tokens}
use Rattle.lsp.proofs.Growing.{next}
use Rattle.lsp.proofs.Nesting.{wrote, wrote_last}
use Rattle.lsp.proofs.write.put_range.Goals as goal

pub returns-clause-written : goal.returns-clause-written
returns-clause-written c =
    let old = c.args.out.now.tokens in
    let front = key c.args.name.now ∷ [] in
    let start = key (codes "start") ∷ position_tokens c.args.range.start in
    let end = key (codes "end") ∷ position_tokens c.args.range.end in
    let one = next old _ _ front (begin_object ∷ []) c.in_ok-key.ensures.ok c.in_ok-begin_object.ensures.ok in
    let two = next old _ _ (front ++ begin_object ∷ []) start one c.in_ok-put_position.ensures.written in
    let three = next old _ _ (front ++ begin_object ∷ start) end two c.in_ok-put_position-2.ensures.written in
    on_ok_weaker c.end_object.result (next old _ _ (front ++ begin_object ∷ start ++ end) (end_object ∷ []) three) c.end_object.ensures.ok

pub returns-clause-members : goal.returns-clause-members
returns-clause-members c =
    on_ok_weaker c.end_object.result
    (λ e n is. (
    let one = wrote _ _ _ _ _ c.in_ok-key.ensures is in
    let two = wrote _ _ _ _ _ c.in_ok-begin_object.ensures one in
    let three = c.in_ok-put_position.ensures.members _ two in
    let four = c.in_ok-put_position-2.ensures.members _ three in
    e _ four))
    (wrote_last _ _ _ _ c.end_object.ensures)
