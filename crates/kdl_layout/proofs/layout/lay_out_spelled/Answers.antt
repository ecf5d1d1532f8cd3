use Rattle.kdl_layout.proofs.Common.{◌≡◌, ◌∙◌, Option, ap, option_map, refl, subst, text_of, Identifier, autoformatted, entry_format_tree, entry_tree, settings, KeptForm, following, Keeps, KeepsValue, autoformatted_but}
use Rattle.kdl_layout.proofs.Respelling.Entries.{respelled_form, spelled_entry, spelled_form, taken_same}
use Rattle.kdl_layout.proofs.layout.lay_out_spelled.Goals as goal
use Rattle.kdl_layout.proofs.layout.lay_out_spelled.Goals.{then-branch+in_ok-format, else-branch+in_ok-format-2}

pub returns-clause-spelled : goal.returns-clause-spelled
returns-clause-spelled c =
    let s = settings c.args.layout.now.config in
    let keep = c.args.layout.now.keep_spelling in
    let e = entry_tree c.args.entry.now in
    let t = text_of c.in_ok-kept.kept in
    let key = c.in_ok-key.key in
    let ty = c.in_ok-ty.ty in
    let u = c.requires in
    let y = entry_tree c.autoformat_but.new.entry in
    let o = option_map entry_format_tree c.if-branch.format in
    let e' = entry_tree c.put_format.new.entry in
    let but : y ≡ autoformatted_but key ty e = elim c.if-branch.branch [
      | then-branch+in_ok-format w ↦ c.autoformat_but.ensures ∙ ap (autoformatted_but key ty) (ap entry_tree w.entry-is ∙ w.in_ok-format.ensures.left) ∙ taken_same key ty e u
      | else-branch+in_ok-format-2 w ↦ c.autoformat_but.ensures ∙ ap (λ x. autoformatted_but key ty (entry_tree x)) w.entry-is
    ] in
    let v : KeptForm keep s e e.format (following t (autoformatted e)).format e'.format = elim c.if-branch.branch [
      | then-branch+in_ok-format w ↦ spelled_form s e t key ty u keep y e' o _
          (subst (KeepsValue keep e.value e.format) w.if-branch.true c.in_ok-keeps_value.ensures) but c.put_format.ensures (ap (option_map entry_format_tree) w.format-is) w.in_ok-format.ensures.form
      | else-branch+in_ok-format-2 w ↦ respelled_form s e t key ty u keep y e' o _
          (subst (KeepsValue keep e.value e.format) w.if-branch.false c.in_ok-keeps_value.ensures) but c.put_format.ensures (ap (option_map entry_format_tree) w.format-is) w.in_ok-format-2.ensures
    ] in
    let k : Keeps keep e.name key = subst (λ (z : Option Identifier). Keeps keep z key) c.name.ensures c.in_ok-key.ensures in
    let h : Keeps keep e.ty ty = subst (λ (z : Option Identifier). Keeps keep z ty) c.ty.ensures c.in_ok-ty.ensures in
    (following t (autoformatted e), (t, c.in_ok-kept.ensures, refl), spelled_entry s e t key ty u keep y e' o k h but c.put_format.ensures v)
