use Rattle.std.proofs.Common.{arith, ◌∙◌, All, ap, inl, inr, length, subst, sym}
use Rattle.json.specs.Value.{value_view}
use Rattle.lsp.specs.Contents.{IsAnswer}
use Rattle.lsp.specs.Replies.{IsNotice}
use Rattle.lsp.proofs.Answering.{other_content}
use Rattle.lsp.proofs.Sending.{reply_last}
use Rattle.lsp.proofs.message.request.Goals as goal

pub returns-clause-answered : goal.returns-clause-answered
returns-clause-answered c running =
    let id = value_view c.args.id.now in
    let method = c.args.method.now in
    let params = value_view c.args.params.now in
    let a = c.in_ok-any_reply.ensures.answered (c.before_reply-out.ensures.session.0 ∙ running) in
    let is : IsAnswer c.args.state.now id method params c.in_ok-any_reply.field-0 = elim c.before_reply-out.ensures.same [
      | inl down ↦ (a.0, other_content c.args.state.now method params a.0 (omega (arith, ap length down)), a.2)
      | inr same ↦ subst (λ s. IsAnswer s id method params c.in_ok-any_reply.field-0) same a
    ] in
    reply_last (IsAnswer c.args.state.now id method params) _ _ _ c.in_ok-push.ensures.items (subst (All IsNotice) (sym c.in_ok-reserve.ensures.items) c.before_reply-out.ensures.notices) is

pub returns-clause-replied : goal.returns-clause-replied
returns-clause-replied c = reply_last _ _ _ _ c.in_ok-push.ensures.items (subst (All IsNotice) (sym c.in_ok-reserve.ensures.items) c.before_reply-out.ensures.notices) c.in_ok-any_reply.ensures.replied

pub returns-clause-started : goal.returns-clause-started
returns-clause-started c early is = reply_last _ _ _ _ c.in_ok-push.ensures.items (subst (All IsNotice) (sym c.in_ok-reserve.ensures.items) c.before_reply-out.ensures.notices) (c.in_ok-any_reply.ensures.started (c.before_reply-out.ensures.session.0 ∙ early) is)
