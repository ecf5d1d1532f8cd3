use Rattle.std.proofs.Common.{rules, ◌≡◌, None, ap, ◌∙◌, sym}
use Rattle.kdl_path.specs.Internal.Cursor.{plugged, rejoined}
use Rattle.kdl_path.proofs.Changes.{if_ok}
use Rattle.kdl_path.proofs.cursor.Cursor.close.Goals as goal

pub returns : goal.returns
returns c =
    let now = c.leave.new.self in
    let none : c.in_ok-leave.field-0 ≡ None = search rules in
    let top = (c.in_ok-leave.ensures.none none).1 in
    if_ok c.close.result _ _ (λ d h. h ∙ ap (λ l. plugged l (rejoined now.block)) (sym top) ∙ c.in_ok-leave.ensures.whole ∙ c.loop-cursor.invariant) c.close.ensures
