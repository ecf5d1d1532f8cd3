use Rattle.kdl_layout.proofs.Common.{◌≡◌, ◌∙◌, ap, sym, chars, text, value_tree, whole_view}
use Rattle.kdl_layout.proofs.Respelling.Spellings.{text_same, text_value_is}
use Rattle.kdl_layout.proofs.spelling.WholeText.is_text.Goals as goal

pub returns-in-Some : goal.returns-in-Some
returns-in-Some c =
    let v : whole_view c.args.self.now ≡ text (chars c.in-Some.read.now) = ap whole_view c.in-Value.is ∙ text_value_is (value_tree c.in-Value.value) (chars c.in-Some.read.now) c.in-Some.ensures in
    (λ h. v ∙ ap text (c.same.ensures.0 h), λ h. c.same.ensures.1 (text_same (sym v ∙ h)))
