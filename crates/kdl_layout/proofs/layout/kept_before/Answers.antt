use Rattle.kdl_layout.proofs.Common.{Option, Some, subst, text_of, EntryFormat, entry_format_tree, settings, KeptBefore}
use Rattle.kdl_layout.proofs.Keeping.KeptReads.{kept_flagged, kept_bare}
use Rattle.kdl_layout.proofs.layout.kept_before.Goals as goal
use Rattle.kdl_layout.proofs.layout.kept_before.Goals.{in_default-via-in-Some+else-not-format, in_default-via-in_default}

pub returns-in_default : goal.returns-in_default
returns-in_default c =
    let empty = c.no_text.ensures in
    subst (λ (f : Option EntryFormat). KeptBefore (settings c.args.config.now) f (text_of c.no_text.result)) c.format.ensures
    (elim c.in_default.branch [
      | in_default-via-in-Some+else-not-format w ↦ rw w.in-Some.is (kept_flagged (settings c.args.config.now) (Some (entry_format_tree w.in-Some.format.now)) (text_of c.no_text.result) w.if-not-format.false empty)
      | in_default-via-in_default w ↦ rw w.in_default.is (kept_bare c.args.config.now.no_comments (text_of c.no_text.result) empty)
    ])
