use Rattle.std.proofs.Common.{◌≡◌, ◌↔◌, true, sym, ap, subst, ◌∙◌, arith}
use Rattle.std.specs.Str.{chars}
use Rattle.kdl_text.specs.Chars.{Text}
use Rattle.kdl_text.specs.Internal.Here.{Here}
use Rattle.kdl_diagnostics.specs.Internal.Noted.{IsFrontOf}
use Rattle.kdl_diagnostics.specs.TextControl.{Accepts}
use Rattle.kdl_diagnostics.specs.declared.whole.Whole.{Whole}
use Rattle.kdl_diagnostics.proofs.FrontReads.{front_bounded}
use Rattle.kdl_diagnostics.proofs.told.read_front.Goals as goal

pub returns-clause-front : goal.returns-clause-front
returns-clause-front c =
    let e = ap (λ (z : Here). z.rest) c.new-cursor.ensures in
    c.read-answer.ensures.keeps (chars c.args.text.now) (sym e) (subst (λ (z : Text). IsFrontOf z c.new-front.result) (c.checkpoint.ensures.rest ∙ e) c.new-front.ensures.front)

pub returns-clause-most : goal.returns-clause-most
returns-clause-most c =
    omega (arith, front_bounded c.args.text.now c.new-cursor.result c.read-answer.new.cursor c.replace.result c.into_steps.result c.utf8.text c.in_ok-answer.ensures.most c.new-cursor.ensures c.into_steps.ensures, c.replace.ensures.value)

pub returns-clause-exact : goal.returns-clause-exact
returns-clause-exact c =
    let e = ap (λ (z : Here). z.rest) c.new-cursor.ensures in
    subst (λ (w : Whole). c.read-answer.new.self.is_accepted ≡ true ↔ Accepts w (chars c.args.text.now)) c.new-front.ensures.whole (subst (λ (t : Text). c.read-answer.new.self.is_accepted ≡ true ↔ Accepts c.new-front.result.control.whole t) e c.in_ok-answer.ensures.exact)
