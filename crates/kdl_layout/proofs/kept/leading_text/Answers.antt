use Rattle.kdl_layout.proofs.Common.{◌++◌, ap, ◌∙◌, subst, chars, Text, text_of, settings}
use Rattle.kdl_layout.specs.Internal.KeptTexts.{KeepsLeading}
use Rattle.kdl_layout.proofs.Texts.{space_text}
use Rattle.kdl_layout.proofs.kept.leading_text.Goals as goal
use Rattle.kdl_layout.proofs.Respelling.Kept.{leading_copied, leading_laid}

pub returns-then-branch : goal.returns-then-branch
returns-then-branch c =
    let s = settings c.args.layout.now.config in
    let keep = c.args.layout.now.keep_spelling in
    leading_copied c.from_str.result keep s c.args.old.now _ (subst (KeepsLeading keep s (chars c.args.old.now)) c.if-branch.true c.in_ok-keeps_leading.ensures) c.from_str.ensures.ok

pub returns : goal.returns
returns c =
    let s = settings c.args.layout.now.config in
    let keep = c.args.layout.now.keep_spelling in
    leading_laid keep s (chars c.args.old.now) _ _ (subst (KeepsLeading keep s (chars c.args.old.now)) c.if-branch.false c.in_ok-keeps_leading.ensures)
    (c.in_ok-push_text.ensures ∙ ap (λ (t : Text). text_of c.args.kept ++ t) space_text)
