use Rattle.std.proofs.Common.{◌++◌, append_assoc, sym, ap, ◌∙◌, subst}
use Rattle.kdl_text.specs.Spans.{InText}
use Rattle.kdl_query.proofs.Reading.{span_in}
use Rattle.kdl_query.proofs.parse.error_at.Goals as goal

pub returns : goal.returns
returns c =
    let (before, whole) = c.requires in
    let (passed, rest) = c.skip_to_slashes.ensures.piece in
    let from = c.checkpoint-from.ensures.rest in
    subst (InText c.args.start.now.rest) (sym c.span_between.ensures) (span_in _ _ _ (before ++ passed) c.at_fault-fault.ensures.0
    (whole ∙ ap (λ z. before ++ z) rest ∙ sym (append_assoc before passed _) ∙ ap (λ z. (before ++ passed) ++ z) (sym from)) (from ∙ c.at_fault-fault.ensures.1 ∙ ap (λ z. c.at_fault-fault.ensures.0 ++ z) (sym c.checkpoint.ensures.rest)))
