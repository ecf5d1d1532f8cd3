use Rattle.std.proofs.Common.{◌∷◌, [], append-nil, flat_map, inl, inr, map, refl, string_bytes, subst, sym}
use Rattle.std.proofs.lemmas.Result.{on_ok_weaker}
use Rattle.std.specs.Io.KnownBytes.{Appends}
use Rattle.lsp.specs.Turns.{Publishes, sent_of, short}
use Rattle.lsp_frames.specs.Frames.{frame_of}
use Rattle.lsp.proofs.session.publish.Goals as goal

pub returns-in-Ok-clause-step : goal.returns-in-Ok-clause-step
returns-in-Ok-clause-step g c =
    let ms = c.in-Ok.messages.items in
    let is = subst (λ r. Publishes c.args.state.now (sent_of r) c.faults.new.state) c.in-Ok.is c.faults.ensures in
    on_ok_weaker c.write_messages.result (λ w. (map string_bytes ms, inl (ms, is, refl), subst (λ xs. Appends (g.W.Write.contents c.args.output.now) (g.W.Write.contents c.write_messages.new.output) (flat_map frame_of (map string_bytes xs))) c.deref.ensures.value w)) c.write_messages.ensures

pub returns-in-Err-clause-step : goal.returns-in-Err-clause-step
returns-in-Err-clause-step g c =
    let is = subst (λ r. Publishes c.args.state.now (sent_of r) c.faults.new.state) c.in-Err.is c.faults.ensures in
    on_ok_weaker c.write_frame.result (λ w. (short ∷ [], inr (is, refl), subst (Appends (g.W.Write.contents c.args.output.now) (g.W.Write.contents c.write_frame.new.output)) (sym (append-nil (frame_of short))) w)) c.write_frame.ensures
