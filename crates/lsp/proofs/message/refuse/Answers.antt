use Rattle.std.proofs.Common.{◌∷◌, [], Err, subst}
use Rattle.std.proofs.lemmas.List.Elements.{All-cons, All-nil}
use Rattle.json.specs.Json.{null}
use Rattle.lsp.specs.Replies.{IsNotice, IsReplyFor, IsReplyTo}
use Rattle.lsp.specs.declared.write.Wrong.TheVariants.{Parse}
use Rattle.lsp.proofs.Sending.{null_is_null, log_is_notice, logs_last, reply_alone, reply_more}
use Rattle.lsp.proofs.message.refuse.Goals as goal

pub returns-clause-replied : goal.returns-clause-replied
returns-clause-replied c =
    let m = c.in_ok-failure.field-0 in
    let log = c.in_ok-log_notice.field-0 in
    let reply : IsReplyTo null m = (Err Parse, subst (λ id. IsReplyFor id (Err Parse) m) null_is_null (c.in_ok-failure.ensures c.new.ensures.items)) in
    reply_more (IsReplyTo null) _ _ (log ∷ []) c.in_ok-push.ensures.items (All-cons IsNotice log [] (log_is_notice _ log c.in_ok-log_notice.ensures) (All-nil IsNotice))
    (reply_alone (IsReplyTo null) _ m c.in_ok-out.ensures reply)

pub returns-clause-logged : goal.returns-clause-logged
returns-clause-logged c = logs_last _ _ _ _ c.in_ok-push.ensures.items c.in_ok-log_notice.ensures
