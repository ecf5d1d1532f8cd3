use Rattle.std.proofs.lemmas.Result.{on_ok_weaker}
use Rattle.lsp.proofs.Growing.{grown, grows_on}
use Rattle.lsp.proofs.Nesting.{wrote, wrote_last}
use Rattle.lsp.proofs.request.put_names.Goals as goal

pub loop-name-init : goal.loop-name-init
loop-name-init c =
    let k = c.in_ok-key.ensures in
    let b = c.in_ok-begin_array.ensures in
    (grows_on _ _ _ _ _ _ (grown _ _ c.args.out.now.tokens _ _ k.room.0 k.ok) (grown _ _ _ _ _ b.room.0 b.ok), λ n is. wrote _ _ _ _ _ b (wrote _ _ _ _ _ k is))

pub loop-name-preserved : goal.loop-name-preserved
loop-name-preserved c =
    let h = c.loop-name.invariant in
    let s = c.in_ok-string.ensures in
    (grows_on _ _ _ _ _ _ h.0 (grown _ _ _ _ _ s.room.0 s.ok), λ n is. wrote _ _ _ _ _ s (h.1 n is))

pub returns-clause-grows : goal.returns-clause-grows
returns-clause-grows c = on_ok_weaker c.end_array.result (λ e. grows_on _ _ _ _ _ _ c.loop-name.invariant.0 (grown _ _ _ _ _ c.end_array.ensures.room.0 e)) c.end_array.ensures.ok

pub returns-clause-members : goal.returns-clause-members
returns-clause-members c = on_ok_weaker c.end_array.result (λ e n is. e _ (c.loop-name.invariant.1 n is)) (wrote_last _ _ _ _ c.end_array.ensures)
