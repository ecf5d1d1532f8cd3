use Rattle.std.proofs.Common.{◌≡◌, ℕ, ◌+◌, ◌<◌, List, [], ◌∷◌, ◌++◌, length, get_or, take, map, refl, sym, ap, ◌∙◌, subst}
use Rattle.std.specs.List.{concat}
use Rattle.std.proofs.lemmas.List.{append-nil, map-append, take_more}
use Rattle.std.proofs.lemmas.List.Folds.{concat-append}
use Rattle.lsp_frames.specs.Frames.{AreFrames, frame_in}
use Rattle.lsp_frames.proofs.Growing.{empty_none, frames_pushed}
use Rattle.lsp_frames.proofs.messages.messages_of.Goals as goal

parts_more : {V : Type 0} (f : V → List ℕ) (parts : List V) (i : ℕ) (part : V) (bytes : List ℕ) → i < length parts → part ≡ get_or parts i part → bytes ≡ f part → concat (map f (take (i + 1) parts)) ≡ concat (map f (take i parts)) ++ bytes
parts_more f parts i part bytes l e b =
    let old = map f (take i parts) in
    let item = get_or parts i part in
    ap (λ t. concat (map f t)) (take_more parts i part l) ∙ ap concat (map-append f (take i parts) (item ∷ [])) ∙ concat-append old (f item ∷ [])
    ∙ ap (λ x. concat old ++ x) (append-nil (f item) ∙ ap f (sym e) ∙ sym b)

pub loop-part-init : goal.loop-part-init
loop-part-init c = record {
  frames = subst (λ (x : List ℕ). AreFrames [] (map (λ m. m.items) c.new-messages.result.items) x) (sym c.new-frames.ensures)
      (subst (λ (xs : List (List ℕ)). AreFrames [] xs []) (sym (ap (map (λ m. m.items)) c.new-messages.ensures.items)) refl);
  none = ap frame_in c.new-frames.ensures ∙ empty_none;
}

pub loop-part-preserved : goal.loop-part-preserved
loop-part-preserved c =
    let h = c.in_ok-take_all.ensures in
    let all = parts_more (λ p. p.items) c.args.parts.now c.loop-part.part-index c.part-item.result c.as_slice.result.now c.loop-part-test.true c.part-item.is c.as_slice.ensures.value in
    record {
      frames = frames_pushed _ _ c.loop-part.frames c.push.new.self c.as_slice.result.now c.take_all.new.frames _ h.0 _ c.loop-part.invariant.frames c.in_ok-push.ensures.ok h.2 all h.1;
      none = h.3;
    }
