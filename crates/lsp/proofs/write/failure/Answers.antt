use Rattle.std.proofs.Common.{◌∙◌, codes}
use Rattle.lsp.specs.Replies.{error_code, error_json, reply_json}
use Rattle.lsp.proofs.Replying.{reply_tokens}
use Rattle.lsp.proofs.write.failure.Goals as goal

pub returns : goal.returns
returns c empty =
    let head = c.in_ok-out.ensures empty in
    let id = c.in_ok-put_id.ensures.written in
    let error = c.in_ok-put.ensures.written in
    let j = error_json (error_code c.args.wrong) error.0 in
    let before = c.in_ok-end_object.ensures.room.0 ∙ c.in_ok-put.ensures.before ∙ c.in_ok-key.ensures.room.0 ∙ c.in_ok-put_id.ensures.before ∙ head.0 in
    let tokens = reply_tokens _ _ _ _ _ (codes "error") id.0 j head.1 id.3 c.in_ok-key.ensures.ok error.1 c.in_ok-end_object.ensures.ok in
    (error.0, (id.0, id.2, c.end.ensures.value (reply_json id.0 (codes "error") j) (before, tokens)))
