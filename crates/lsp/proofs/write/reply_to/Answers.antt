use Rattle.std.proofs.Common.{Ok, Err, IfOk, OnErr, codes, subst, sym}
use Rattle.std.proofs.lemmas.Result.{IfOk-weaker}
use Rattle.json.specs.Value.{value_view}
use Rattle.lsp.specs.Replies.{Content, IsFailure, IsJson, IsReplyFor, IsReplyTo, IsReplyWith, IsSomeJson}
use Rattle.lsp.proofs.write.reply_to.Goals as goal

pub returns-in-Ok-clause-reply : goal.returns-in-Ok-clause-reply
returns-in-Ok-clause-reply c =
    let id = value_view c.args.id.now in
    let s = subst (λ (x : Content). IfOk x IsSomeJson) c.in-Ok.is c.requires in
    let is = subst (IsJson s.0) (sym c.deref.ensures) s.1 in
    IfOk-weaker c.success.result (IsReplyWith (codes "result") s.0 id) (IsReplyTo id) (λ m r. (Ok c.in-Ok.content, (s.0, s.1, r))) (c.success.ensures s.0 is)

pub returns-in-Err-clause-content : goal.returns-in-Err-clause-content
returns-in-Err-clause-content c =
    let id = value_view c.args.id.now in
    subst (λ (x : Content). IfOk c.failure.result (IsReplyFor id x)) (sym c.in-Err.is) (c.failure.ensures c.new.ensures.items)

pub returns-in-Err-clause-reply : goal.returns-in-Err-clause-reply
returns-in-Err-clause-reply c = IfOk-weaker c.failure.result _ (IsReplyTo (value_view c.args.id.now)) (λ m r. (Err c.in-Err.wrong, r)) (c.failure.ensures c.new.ensures.items)

pub returns-in-Err-clause-error : goal.returns-in-Err-clause-error
returns-in-Err-clause-error c =
    let id = value_view c.args.id.now in
    subst (λ (x : Content). OnErr x (IfOk c.failure.result (IsFailure id))) (sym c.in-Err.is) (IfOk-weaker c.failure.result _ (IsFailure id) (λ m r. (c.in-Err.wrong, r)) (c.failure.ensures c.new.ensures.items))
