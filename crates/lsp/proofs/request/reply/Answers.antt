use Rattle.std.proofs.Common.{arith, rules, ◌≡◌, Ok, ap, codes, length}
use Rattle.lsp.proofs.Answering.{other_content}
use Rattle.lsp.proofs.request.reply.Goals as goal

pub returns-in_ok-reply-in-Running-clause-answered : goal.returns-in_ok-reply-in-Running-clause-answered
returns-in_ok-reply-in-Running-clause-answered c running =
    let shutdown : c.args.method.now ≡ codes "shutdown" = search rules in
    let l : length c.args.method.now ≡ 8 = ap length shutdown in
    (Ok c.in_ok-null-in-Running.null, other_content _ _ _ _ (omega (arith, l)), c.in_ok-reply-in-Running.ensures.content)
