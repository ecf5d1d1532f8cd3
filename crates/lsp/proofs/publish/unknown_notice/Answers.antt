use Rattle.std.proofs.Common.{◌∙◌, codes, subst}
use Rattle.std.proofs.lemmas.Result.{IfOk-weaker}
use Rattle.lsp.specs.Replies.{IsLogOf, IsLogWith}
use Rattle.lsp.proofs.publish.unknown_notice.Goals as goal

pub returns : goal.returns
returns c =
    IfOk-weaker c.log_notice.result (IsLogWith c.deref.result.now) (IsLogOf c.args.uri.now)
    (λ m w. (codes "kdl: ", codes ": a change is not applied: the text is not known up to the next whole text", subst (λ t. IsLogWith t m) (c.deref.ensures ∙ c.in_ok-text.ensures.ok) w)) c.log_notice.ensures
