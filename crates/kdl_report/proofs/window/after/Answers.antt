use Rattle.std.proofs.Common.{◌≡◌, ◌≤◌, ◌++◌, sym, ap, ◌∙◌, arith, drop, length, length-append, subst, take}
use Rattle.std.proofs.Math.Seq.{take-append_seam}
use Rattle.std.proofs.lemmas.Str.{IsCharBoundary-from_take}
use Rattle.std.specs.Str.{IsUtf8}
use Rattle.kdl_report.proofs.WindowSteps.{drop_front}
use Rattle.kdl_report.proofs.window.after.Goals as goal

pub range_from-requires : goal.range_from-requires
range_from-requires c =
    let t = c.args.text.now in
    let f = c.args.front.now in
    let part : take (length f) t ≡ f = ap (take (length f)) c.requires.1 ∙ take-append_seam f c.requires.0 in
    let within : length f ≤ length t = omega (arith, ap length c.requires.1, length-append f c.requires.0) in
    λ _. IsCharBoundary-from_take t (length f) c.utf8.text within (subst IsUtf8 (sym part) c.utf8.front)

pub returns : goal.returns
returns c =
    let f = c.args.front.now in
    let rest : drop (length f) c.args.text.now ≡ c.requires.0 = ap (drop (length f)) c.requires.1 ∙ drop_front f c.requires.0 in
    c.requires.1 ∙ ap (λ z. f ++ z) (sym (c.range_from.ensures.value ∙ rest))
