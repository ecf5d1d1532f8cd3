use Rattle.kdl_layout.proofs.Common.{◌++◌, ap, sym, ◌∙◌, add-one, ℕ, chars, Text, indentation, settings, empty_text}
use Rattle.kdl_layout.proofs.layout.further.Goals as goal

pub returns : goal.returns
returns c = λ level h.
    let s = settings c.args.config.now in
    let empty = empty_text c.in_ok-out.out c.in_ok-out.ensures.bytes in
    c.in_ok-push_text-2.ensures
    ∙ ap (λ (t : Text). t ++ chars c.args.before.now) (c.in_ok-push_text.ensures ∙ ap (λ (t : Text). t ++ s.indent) empty)
    ∙ ap (λ (t : Text). s.indent ++ t) h
    ∙ ap (λ (n : ℕ). indentation s n) (sym (add-one level))
