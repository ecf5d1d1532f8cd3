use Rattle.std.proofs.Common.{◌≡◌, ◌++◌, ◌<◌, [], append-nil, get_or, length, refl, subst, sym}
use Rattle.lsp.proofs.Publishing.{due_taken}
use Rattle.lsp.proofs.Sending.{sent_next}
use Rattle.lsp.proofs.publish.put_due.Goals as goal

pub loop-uri-init : goal.loop-uri-init
loop-uri-init c = ([], sym (append-nil _), refl)

pub loop-uri-preserved : goal.loop-uri-preserved
loop-uri-preserved c =
    let h = c.loop-uri.invariant in
    let sent = c.in_ok-put_one.ensures in
    let i = c.loop-uri.uri-index in
    let d = c.uri-item.result in
    let uris = c.deref-uri-items.ensures.value in
    let inside : i < length c.args.state.now.due.items = subst (λ l. i < length l) uris c.loop-uri-test.true in
    let at : d ≡ get_or c.args.state.now.due.items i d = subst (λ l. d ≡ get_or l i d) uris c.uri-item.is in (
      h.0 ++ sent.0,
      sent_next c.args.out.now.items _ _ h.0 sent.0 h.1 sent.1,
      due_taken c.args.state.now c.args.state.now.due.items i d _ h.0 sent.0 inside at c.deref.ensures h.2 sent.2,
    )
