use Rattle.kdl_layout.proofs.Common.{◌≡◌, ◌∙◌, ap, option_map, subst, sym, Entry, EntryFormat, Option, autoformatted, entry_format_tree, entry_tree, put_format, keeping, settings, text_of, IsRespelledEntry}
use Rattle.std.specs.Prelude.{OnErr}
use Rattle.kdl_layout.proofs.Texts.{put_plain}
use Rattle.kdl_layout.proofs.Respelling.Entries.{flag_respelled, off_respelled, respelled_is, spelled_is}
use Rattle.kdl_layout.proofs.layout.lay_out_entry.Goals as goal
use Rattle.kdl_layout.proofs.layout.lay_out_entry.Goals.{else-keeps_texts-via-then-keeps_texts+else-not-is_flagged, else-keeps_texts-via-else-keeps_texts}

pub returns-then-not-is_flagged-clause-flagged : goal.returns-then-not-is_flagged-clause-flagged
returns-then-not-is_flagged-clause-flagged c = subst (λ (x : Entry). OnErr c.lay_out_spelled.result (entry_tree c.lay_out_spelled.new.entry ≡ x)) c.flag.ensures c.lay_out_spelled.ensures.same

pub returns-then-not-is_flagged-clause-formatted : goal.returns-then-not-is_flagged-clause-formatted
returns-then-not-is_flagged-clause-formatted c =
    spelled_is c.lay_out_spelled.result (keeping c.args.layout.now) (settings c.args.layout.now.config) (entry_tree c.args.entry.now) (entry_tree c.flag.new.entry) (entry_tree c.lay_out_spelled.new.entry)
    (sym c.keeps_texts.ensures ∙ c.if-keeps_texts.true) c.flag.ensures c.if-not-is_flagged.ensures c.lay_out_spelled.ensures.spelled

pub returns-clause-formatted : goal.returns-clause-formatted
returns-clause-formatted c =
    let s = settings c.args.layout.now.config in
    let keep = keeping c.args.layout.now in
    let e = entry_tree c.args.entry.now in
    let x = entry_tree c.flag.new.entry in
    let e' = entry_tree c.put_format.new.entry in
    let kept : IsRespelledEntry keep s e e' e' = elim c.else-keeps_texts.branch [
      | else-keeps_texts-via-then-keeps_texts+else-not-is_flagged w ↦ flag_respelled keep s e e' x c.flag.ensures (sym w.if-not-is_flagged.false ∙ w.is_flagged.ensures)
      | else-keeps_texts-via-else-keeps_texts w ↦ off_respelled keep s e e' (sym c.keeps_texts.ensures ∙ w.if-keeps_texts.false)
    ] in
    let laid = c.put_format.ensures ∙ ap (put_format (option_map entry_format_tree c.in_ok-format.format)) c.autoformat.ensures
    ∙ ap (λ (o : Option EntryFormat). put_format o (autoformatted x)) c.in_ok-format.ensures ∙ put_plain (text_of c.in_ok-kept.kept) (autoformatted x) in
    respelled_is keep s e x e' c.flag.ensures kept (text_of c.in_ok-kept.kept, c.in_ok-kept.ensures, laid)
