use Rattle.kdl_layout.proofs.Common.{◌++◌, sym, ap, ◌∙◌, Text, print_value, text_of, entry_tree, plain_format}
use Rattle.kdl_layout.proofs.Texts.{empty_string, format_made, space_text}
use Rattle.kdl_layout.proofs.kept.format_after.Goals as goal

pub returns-then-is_empty : goal.returns-then-is_empty
returns-then-is_empty c =
    let empty = rw c.if-is_empty.true at (empty_string c.is_empty.result c.args.kept c.is_empty.ensures) in
    sym (ap (λ (t : Text). plain_format t (entry_tree c.args.entry.now).value) empty)

pub returns : goal.returns
returns c =
    let some = rw c.if-is_empty.false at (empty_string c.is_empty.result c.args.kept c.is_empty.ensures) in
    format_made c.new-format.result c.in_ok-format.field-0 c.push_text.new.out (text_of c.args.kept) (entry_tree c.args.entry.now).value c.new-format.ensures
    (c.in_ok-format.ensures ∙ ap print_value c.value.ensures) (c.in_ok-push_text.ensures ∙ ap (λ (t : Text). text_of c.args.kept ++ t) space_text) some
