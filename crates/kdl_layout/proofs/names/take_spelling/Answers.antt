use Rattle.kdl_layout.proofs.Common.{◌≡◌, ◌∙◌, [], Option, Some, option_map, ap, Text, text_of, EntryFormat, entry_format_tree, entry_tree, KdlEntryFormat, empty_text, without_value}
use Rattle.kdl_layout.specs.Internal.Names.{spelling_of}
use Rattle.kdl_layout.proofs.names.take_spelling.Goals as goal

pub returns-in-Some-clause-left : goal.returns-in-Some-clause-left
returns-in-Some-clause-left c =
    let e = entry_tree c.args.entry.now in
    let v : text_of c.replace.new.dest ≡ [] = ap text_of c.replace.ensures.after ∙ empty_text c.new.result c.new.ensures.bytes in
    let o = ap (λ (z : Option KdlEntryFormat). option_map without_value (option_map entry_format_tree z)) c.in-Some.ensures.value in
    ap (λ (t : Text). record e { format = Some (record (entry_format_tree c.in-Some.format.now) { value_repr = t }) }) v ∙ ap (λ (z : Option EntryFormat). record e { format = z }) o

pub returns-in-None-clause-text : goal.returns-in-None-clause-text
returns-in-None-clause-text c = empty_text c.new-in-None.result c.new-in-None.ensures.bytes ∙ ap (λ (z : Option KdlEntryFormat). spelling_of (option_map entry_format_tree z)) c.in-None.ensures.value
