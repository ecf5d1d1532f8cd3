use Rattle.std.proofs.Common.{◌++◌, ◌∷◌, ◌∙◌, [], inl, refl, sym}
use Rattle.lsp_frames.proofs.Taken.{given, given_shorter}
use Rattle.lsp.specs.Turns.{Took}
use Rattle.lsp.proofs.Steps.{steps_on, took_all, took_more, written_alone, written_on}
use Rattle.lsp.proofs.session.take_frames.Goals as goal

pub loop-message-smaller : goal.loop-message-smaller
loop-message-smaller g c =
    let f = c.next_message.follows in
    given_shorter c.loop-message.frames f.lender-at-none c.in-Some.message.now (given _ _ _ c.in-Some.ensures.message f.holds-at-none)

pub loop-message-preserved : goal.loop-message-preserved
loop-message-preserved g c =
    let f = c.next_message.follows in
    let h = c.loop-message.invariant in
    let t = c.in_ok-take_message.ensures in
    let step = Took c.in-Some.message.now t.0 in (
      h.0 ++ step ∷ [],
      took_more _ h.0 c.loop-message.frames c.in-Some.message.now f.lender-at-none t.0 h.1 (given _ _ _ c.in-Some.ensures.message f.holds-at-none),
      steps_on _ _ _ h.0 (step ∷ []) h.2 (_, t.1, refl),
      written_on _ _ _ h.0 (step ∷ []) h.3 (written_alone _ _ step t.2),
    )

pub returns-then-is_over : goal.returns-then-is_over
returns-then-is_over g c =
    let f = c.next_message.follows in
    let h = c.loop-message.invariant in
    let t = c.in_ok-take_message.ensures in
    let step = Took c.in-Some.message.now t.0 in
    record {
      steps = h.0 ++ step ∷ [];
      written = written_on _ _ _ h.0 (step ∷ []) h.3 (written_alone _ _ step t.2);
      taken = took_more _ h.0 c.loop-message.frames c.in-Some.message.now f.lender-at-none t.0 h.1 (given _ _ _ c.in-Some.ensures.message f.holds-at-none);
      led = steps_on _ _ _ h.0 (step ∷ []) h.2 (_, t.1, refl);
      ended = inl (sym c.is_over.ensures ∙ c.if-is_over.true);
    }

pub returns : goal.returns
returns g c =
    let h = c.loop-message.invariant in
    took_all _ _ _ c.loop-message.frames _ _ _ h.0 h.1 h.2 h.3 c.in_default.ensures.message c.next_message.follows.holds-at-none
