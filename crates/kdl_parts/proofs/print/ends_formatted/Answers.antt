use Rattle.kdl_parts.proofs.Common.{◌∙◌, sym, entry_format_tree}
use Rattle.kdl_parts.proofs.PrintedEntries.{has_format, last_formatted}
use Rattle.kdl_parts.proofs.print.ends_formatted.Goals as goal

pub returns-in-Some : goal.returns-in-Some
returns-in-Some c =
    c.is_some.ensures ∙ has_format (λ t. entry_format_tree t.now) _ _ c.format.ensures ∙ sym (last_formatted c.args.entries.now c.in-Some.last.now (sym c.in-Some.ensures.value))
