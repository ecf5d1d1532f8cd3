use Rattle.std.proofs.Common.{◌≡◌, [], ◌∷◌, refl, sym, ◌∙◌}
use Rattle.std.proofs.lemmas.Bool.{cond-true, cond-false}
use Rattle.std.proofs.lemmas.Str.{chars-nil}
use Rattle.std.specs.Str.{chars}
use Rattle.kdl_report.proofs.window.dots.Goals as goal

pub returns-then-part : goal.returns-then-part
returns-then-part c = chars-nil ∙ sym (cond-true _ _ _ c.if-part.true)

pub returns-else-part : goal.returns-else-part
unfolding chars
returns-else-part c =
    let mark : chars (226 ∷ 128 ∷ 166 ∷ []) ≡ 0x2026 ∷ [] = refl in
    mark ∙ sym (cond-false _ _ _ c.if-part.false)
