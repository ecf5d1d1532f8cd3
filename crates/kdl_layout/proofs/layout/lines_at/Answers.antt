use Rattle.kdl_layout.proofs.Common.{subst, sym, chars, Text, settings, SpacedLines}
use Rattle.kdl_layout.proofs.layout.lines_at.Goals as goal

pub returns-then-adds_nothing : goal.returns-then-adds_nothing
returns-then-adds_nothing c =
    let l = c.args.layout.now in
    subst (λ (t : Text). SpacedLines l.blank_lines (settings l.config) c.args.level c.args.before.now (chars c.args.place.now) t c.args.before.now) (sym c.no_text.ensures)
    (c.adds_nothing.ensures c.if-adds_nothing.true c.args.level c.args.before.now)
