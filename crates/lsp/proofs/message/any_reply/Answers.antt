use Rattle.std.proofs.Common.{Err}
use Rattle.std.proofs.lemmas.Result.{IfOk-weaker}
use Rattle.json.specs.Value.{value_view}
use Rattle.lsp.specs.Contents.{IsAnswer}
use Rattle.lsp.specs.declared.write.Wrong.TheVariants.{Memory}
use Rattle.lsp.proofs.Answering.{short_content}
use Rattle.lsp.proofs.message.any_reply.Goals as goal

pub returns-in-Err-clause-answered : goal.returns-in-Err-clause-answered
returns-in-Err-clause-answered c running =
    let method = c.args.method.now in
    let params = value_view c.args.params.now in
    IfOk-weaker c.reply_to.result _ (IsAnswer c.args.state.now (value_view c.args.id.now) method params)
    (λ m reply. (Err Memory, short_content c.args.state.now method params, reply)) c.reply_to.ensures.content
