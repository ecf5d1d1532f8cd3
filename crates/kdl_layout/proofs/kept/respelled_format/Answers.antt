use Rattle.kdl_layout.proofs.Common.{◌∙◌, sym, entry_format_tree, entry_tree, settings, text_of}
use Rattle.kdl_layout.proofs.Respelling.Entries.{other_bare}
use Rattle.kdl_layout.proofs.kept.respelled_format.Goals as goal

pub returns-then-is_bare_inside : goal.returns-then-is_bare_inside
returns-then-is_bare_inside c =
    other_bare c.format_after-then-is_bare_inside.result c.args.layout.now.keep_spelling (settings c.args.layout.now.config) (entry_tree c.args.entry.now) (text_of c.args.kept) (entry_format_tree c.in-Some.old.now) (entry_format_tree c.in_ok-format.format)
    (sym (rw c.in-Some.is at c.format.ensures)) c.in_ok-format.ensures (sym c.is_bare_inside.ensures ∙ c.if-is_bare_inside.true) c.format_after-then-is_bare_inside.ensures
