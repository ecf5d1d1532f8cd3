use Rattle.kdl_layout.proofs.Common.{[], refl, sym, ◌∙◌, chars, spaced_lines, GapItems, ItemsIn, indentation, settings}
use Rattle.kdl_layout.proofs.Rewriting.Pushing.{no_bytes}
use Rattle.kdl_layout.proofs.Keeping.KeptReads.{blank_gap, kept_empty, kept_none}
use Rattle.kdl_layout.proofs.Spacing.Reads.{lines_empty, uncounted}
use Rattle.kdl_layout.proofs.layout.adds_nothing.Goals as goal

pub returns-then-is_empty : goal.returns-then-is_empty
returns-then-is_empty c = λ t level b.
    lines_empty c.args.layout.now.blank_lines (settings c.args.layout.now.config) level b (chars c.args.place.now) (rw c.if-is_empty.true at (no_bytes c.is_empty.result c.args.place.now c.utf8.place c.is_empty.ensures))

pub returns-then-layout : goal.returns-then-layout
returns-then-layout c = λ t level b.
    let number = c.args.layout.now.blank_lines in
    let s = settings c.args.layout.now.config in
    let place = chars c.args.place.now in
    (kept_none s.no_comments (GapItems place) (spaced_lines number (indentation s level) b place) [] c.if-layout.true refl, uncounted number s b b place c.if-layout-ne0.false)

pub returns : goal.returns
returns c = λ t level b.
    let number = c.args.layout.now.blank_lines in
    let s = settings c.args.layout.now.config in
    let place = chars c.args.place.now in
    let gap = blank_gap place (sym c.is_blank_gap.ensures ∙ t) in
    (kept_empty s.no_comments (GapItems place) (spaced_lines number (indentation s level) b place) [] (ItemsIn.items gap) refl refl, uncounted number s b b place c.if-layout-ne0.false)
