use Rattle.std.proofs.Common.{◌≡◌, ◌++◌, ◌∙◌, ap, drop, subst, sym, take}
use Rattle.std.proofs.lemmas.List.{take-append-drop}
use Rattle.kdl_query.specs.Selects.{Path}
use Rattle.cli_shown.specs.Internal.Trail.{IsTrail}
use Rattle.cli_shown.proofs.nodes.take_turn.Goals as goal

pub returns-clause-trail : goal.returns-clause-trail
returns-clause-trail c = λ xs h.
    let path = c.args.path.now.items in
    let k = c.args.turn.now.kept in
    let kept : c.deref.result.now ≡ take k path = c.deref.ensures.value ∙ c.truncate.ensures.items in
    let before = subst (λ (p : Path). IsTrail c.args.trail.now p xs) (sym (take-append-drop k path) ∙ ap (λ (p : Path). p ++ drop k path) (sym kept)) h in
    subst (λ (p : Path). IsTrail c.turn.new.self p xs) (ap (λ (p : Path). p ++ c.deref-2.result.now) c.deref.ensures.value ∙ sym c.in_ok-extend_from_slice.ensures.items) (c.turn.ensures (drop k path) c.deref-2.result.now xs before)
