use Rattle.std.proofs.Common.{◌++◌, sym, ap, ◌∙◌, chars}
use Rattle.std.proofs.lemmas.Str.{chars-append}
use Rattle.kdl_text.proofs.Looking.Texts.{boundary, front, rest_shorter, range_is}
use Rattle.kdl_report.proofs.places.cut.Goals as goal

pub range-requires-clause-end_boundary : goal.range-requires-clause-end_boundary
range-requires-clause-end_boundary c = boundary _ _ c.requires.0 c.utf8.text c.utf8.rest c.requires.1

pub returns : goal.returns
returns c =
    let whole = front _ _ c.requires.0 c.utf8.text c.utf8.rest c.requires.1 in
    ap chars (whole ∙ ap (λ x. x ++ c.args.rest.now) (sym (c.range.ensures.value ∙ range_is _ _))) ∙ chars-append _ _ c.range.utf8

pub overflow_sub-text : goal.overflow_sub-text
overflow_sub-text c = rest_shorter _ _ c.requires.0 c.utf8.text c.utf8.rest c.requires.1
