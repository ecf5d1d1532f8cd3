use Rattle.std.proofs.Common.{rules, flat_map, inl, inr, map, refl, string_bytes, subst}
use Rattle.std.proofs.lemmas.Result.{on_ok_weaker}
use Rattle.std.specs.Io.KnownBytes.{Appends}
use Rattle.lsp.specs.Turns.{IsText, Marks, Takes, sent_of}
use Rattle.lsp_frames.specs.Frames.{frame_of}
use Rattle.lsp.proofs.session.take_message.Goals as goal

pub returns-in-Ok : goal.returns-in-Ok
returns-in-Ok g c =
    let text = c.unwrap_or-text.result.now in
    let is : IsText c.args.message.now text = search rules in
    let old = c.args.state.now in
    let new = c.replies.new.state in
    let ms = c.in-Ok.messages.items in
    let so = subst (λ r. Takes old text (sent_of r) new × Marks old text (sent_of r) new) c.in-Ok.is (c.replies.ensures.takes, c.replies.ensures.marks) in
    on_ok_weaker c.write_messages.result (λ w. (map string_bytes ms, (text, is, inl (ms, so, refl)), subst (λ xs. Appends (g.W.Write.contents c.args.output.now) (g.W.Write.contents c.write_messages.new.output) (flat_map frame_of (map string_bytes xs))) c.deref.ensures.value w)) c.write_messages.ensures

pub returns-in-Err : goal.returns-in-Err
returns-in-Err g c =
    let text = c.unwrap_or-text.result.now in
    let is : IsText c.args.message.now text = search rules in
    let old = c.args.state.now in
    let new = c.replies.new.state in
    let so = subst (λ r. Takes old text (sent_of r) new × Marks old text (sent_of r) new) c.in-Err.is (c.replies.ensures.takes, c.replies.ensures.marks) in
    on_ok_weaker c.write_lost.result (λ l. (l.0, (text, is, inr (so, l.1)), l.2)) c.write_lost.ensures
