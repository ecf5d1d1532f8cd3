use Rattle.std.proofs.Common.{codes, subst}
use Rattle.json.specs.Value.{value_view}
use Rattle.lsp.specs.Replies.{IsReplyWith, greeting_json}
use Rattle.lsp.proofs.Replying.{one_json}
use Rattle.lsp.proofs.request.initialize.Goals as goal

pub reply_to-requires : goal.reply_to-requires
reply_to-requires c = let g = c.in_ok-content.ensures in (greeting_json _ g.0 g.1, g.2)

pub returns-clause-greeting : goal.returns-clause-greeting
returns-clause-greeting c =
    let g = c.in_ok-content.ensures in
    let r = c.in_ok-reply.ensures.content in
    (g.0, g.1, subst (λ j. IsReplyWith (codes "result") j (value_view c.args.id.now) c.in_ok-reply.reply) (one_json r.0 (greeting_json _ g.0 g.1) _ r.1 g.2) r.2)
