use Rattle.std.proofs.Common.{rules, ◌≡◌, [], ◌∷◌, None, false, ap, refl, ◌∙◌}
use Rattle.std.specs.Str.{chars}
use Rattle.kdl.proofs.Putting.NodeEnds.{space_put}
use Rattle.kdl_entry.specs.Tree.{EntryFormat, empty_format, entry_tree}
use Rattle.kdl_text.specs.Chars.{Text}
use Rattle.kdl_value.specs.Tree.{text_of}
use Rattle.kdl_path.proofs.Values.{format_given}
use Rattle.kdl_path.proofs.change.give_format.Goals as goal

pub returns : goal.returns
returns c =
    let s = c.in_ok-format.field-0 in
    let e = entry_tree c.args.entry.now in
    let none : None ≡ e.format = search rules in
    let space : text_of s ≡ 32 ∷ [] = space_put (text_of s) [] false refl refl (ap chars c.in_ok-format.ensures.ok) in
    c.set_format.ensures
    ∙ format_given e _ none (ap (λ (x : EntryFormat). record x { leading = text_of s }) c.new-format.ensures ∙ ap (λ (t : Text). record empty_format { leading = t }) space)
