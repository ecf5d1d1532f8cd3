use Rattle.std.proofs.Common.{◌∙◌, refl}
use Rattle.lsp.proofs.Replying.{reply_bytes}
use Rattle.lsp.proofs.write.success.Goals as goal

pub returns : goal.returns
returns c j is =
    let id = c.in_ok-put_id.ensures.written in
    let head = c.in_ok-out.ensures c.new.ensures.items in
    let before = c.in_ok-key.ensures.room.0 ∙ c.in_ok-put_id.ensures.before ∙ head.0 in
    let bytes = reply_bytes _ _ _ _ id.0 j _ _ _ _ _ head.1 id.3 c.in_ok-key.ensures.ok (c.end-reply.ensures.text before) is.1 c.in_ok-push_str.ensures.bytes refl c.in_ok-push_str-2.ensures.bytes in
    (id.0, id.2, ((tt, (id.1, (is.0, tt))), bytes))
