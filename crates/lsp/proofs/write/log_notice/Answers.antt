use Rattle.std.proofs.Common.{◌∙◌, ap}
use Rattle.std.proofs.lemmas.Result.{IfOk-weaker}
use Rattle.json.specs.Print.{print}
use Rattle.lsp.specs.Replies.{IsLogWith}
use Rattle.lsp.proofs.Replying.{log_tokens}
use Rattle.lsp.proofs.write.log_notice.Goals as goal

pub returns : goal.returns
returns c =
    let before = c.in_ok-end_object.ensures.room.0 ∙ c.in_ok-put_text.ensures.before ∙ c.in_ok-put_number.ensures.before ∙ c.in_ok-begin_object.ensures.room.0 ∙ c.in_ok-out.ensures.0 in
    let tokens = log_tokens _ _ _ _ _ _ _ c.in_ok-out.ensures.1 c.in_ok-begin_object.ensures.ok c.in_ok-put_number.ensures.written c.in_ok-put_text.ensures.written c.in_ok-end_object.ensures.ok in
    IfOk-weaker c.finish.result _ (IsLogWith c.args.text.now) (λ m e. (_, e before ∙ ap print tokens)) c.finish.ensures
