use Rattle.std.proofs.Common.{◌∷◌, [], ℕ, List, Option, String, Global, Err, MatchOption, append-nil, inl, inr, refl, string_bytes, subst, sym}
use Rattle.std.proofs.lemmas.Result.{on_ok_weaker}
use Rattle.std.specs.Io.KnownBytes.{Appends}
use Rattle.json.specs.Json.{Json}
use Rattle.lsp.specs.Messages.{Asks}
use Rattle.lsp.specs.Replies.{IsReplyFor}
use Rattle.lsp.specs.Turns.{lost}
use Rattle.lsp.specs.declared.write.Wrong.TheVariants.{Memory}
use Rattle.lsp_frames.specs.Frames.{frame_of}
use Rattle.lsp.proofs.Steps.{two_written}
use Rattle.lsp.proofs.session.write_lost.Goals as goal
use Rattle.lsp.proofs.session.write_lost.Goals.{in-Some+in_ok-write_frame, in_default}

-- the reply to a text, if it is a request
abbrev Short : List ℕ → Option (String Global) → Type 0
Short text reply = MatchOption reply ((id : Json) → Asks text id → ⊥) (λ m. (id : Json) × Asks text id × IsReplyFor id (Err Memory) m)

pub returns : goal.returns
returns g c =
    let text = c.args.text.now in
    elim c.match-branch-2.branch [
      | in-Some+in_ok-write_frame w ↦ (
          let m = w.in-Some.reply in
          let s : (id : Json) × Asks text id × IsReplyFor id (Err Memory) m = subst (Short text) w.in-Some.is c.in_ok-reply.ensures in
          let first = subst (λ b. Appends (g.W.Write.contents c.args.output.now) (g.W.Write.contents w.write_frame.new.output) (frame_of b)) w.deref.ensures w.in_ok-write_frame.ensures in
          on_ok_weaker c.write_frame-2.result
          (λ p. (string_bytes m ∷ lost ∷ [], inl (s.0, m, s.1, s.2, refl), two_written (g.W.Write.contents c.args.output.now) (g.W.Write.contents w.write_frame.new.output) (g.W.Write.contents c.write_frame-2.new.output) (string_bytes m) lost first (subst (λ o. Appends (g.W.Write.contents o) (g.W.Write.contents c.write_frame-2.new.output) (frame_of lost)) w.output-is p)))
          c.write_frame-2.ensures
          )
      | in_default w ↦ on_ok_weaker c.write_frame-2.result
          (λ p. (
            lost ∷ [],
            inr (subst (Short text) w.in_default.is c.in_ok-reply.ensures, refl),
            subst (Appends (g.W.Write.contents c.args.output.now) (g.W.Write.contents c.write_frame-2.new.output)) (sym (append-nil (frame_of lost)))
                (subst (λ o. Appends (g.W.Write.contents o) (g.W.Write.contents c.write_frame-2.new.output) (frame_of lost)) w.output-is p),
          ))
          c.write_frame-2.ensures
    ]
