use Rattle.kdl_layout.proofs.Common.{◌≡◌, false, Bool, ap, refl, subst, sym, ◌∙◌, chars, Text, spaced_lines, indentation, settings, GapItems, ItemsIn, Passes, SpacedLines, lines, Before, items_view}
use Rattle.kdl_layout.proofs.Keeping.KeptReads.{kept_empty, kept_items, kept_none, written_after}
use Rattle.kdl_layout.proofs.Spacing.Reads.{counted, lines_zero, passes_read, uncounted}
use Rattle.kdl_layout.proofs.layout.lines_between.Goals as goal

passed : {o : Bool} {b a : Before} {t : Text} → o ≡ false → Passes false b t a → Passes o b t a
passed {o} {b} {a} {t} e p = subst (λ (x : Bool). Passes x b t a) (sym e) p

pub returns-then-adds_nothing : goal.returns-then-adds_nothing
returns-then-adds_nothing c = λ level e.
    let l = c.args.layout.now in
    subst (λ (t : Text). SpacedLines l.blank_lines (settings l.config) level c.args.before.now (chars c.args.place.now) t c.args.before.now) (sym c.no_text-out.ensures)
    (c.adds_nothing.ensures c.if-adds_nothing.true level c.args.before.now)

pub returns-in_default : goal.returns-in_default
returns-in_default c = λ level e.
    let l = c.args.layout.now in
    let s = settings l.config in
    let place = chars c.args.place.now in
    let f = rw c.in_default.is at c.in_ok-items.ensures in (
      kept_empty s.no_comments (GapItems place) (spaced_lines l.blank_lines (indentation s level) c.args.before.now place) _ (ItemsIn.no_items f) c.no_text-out.ensures refl,
      counted l.blank_lines s c.args.before.now _ place (Passes.no_gap f),
    )

pub returns-then-layout : goal.returns-then-layout
returns-then-layout c = λ level e.
    let l = c.args.layout.now in
    let s = settings l.config in
    let place = chars c.args.place.now in (
      kept_none s.no_comments (GapItems place) (spaced_lines l.blank_lines (indentation s level) c.args.before.now place) _ c.if-layout.true c.no_text-out.ensures,
      counted l.blank_lines s c.args.before.now _ place
          (passes_read s.no_comments c.args.before.now _ place c.deref.result.now c.in-Some.items.items (rw c.in-Some.is at c.in_ok-items.ensures) c.deref.ensures.value c.in_ok-before.ensures),
    )

pub returns-then-layout-eq0 : goal.returns-then-layout-eq0
returns-then-layout-eq0 c = λ level e.
    let l = c.args.layout.now in
    let s = settings l.config in
    let before = c.args.before.now in
    let place = chars c.args.place.now in
    let margin = chars c.args.margin.now in
    let items = c.in-Some.items.items in
    let d = rw c.in-Some.is at c.in_ok-items.ensures in (
      lines_zero l.blank_lines s level before place margin _ c.if-layout-eq0.true e
          (kept_items s.no_comments (GapItems place) (lines margin) (items_view items) _ c.if-layout.false (ItemsIn.items d)
          (written_after (lines margin) _ _ _ _ c.in_ok-push_lines.ensures (ap chars c.in_ok-reserve.ensures.bytes ∙ c.no_text-out.ensures) (ap items_view c.deref-then-layout-eq0.ensures.value))),
      uncounted l.blank_lines s before before place c.if-layout-eq0.true,
    )

pub returns : goal.returns
returns c = λ level e.
    let l = c.args.layout.now in
    let s = settings l.config in
    let before = c.args.before.now in
    let place = chars c.args.place.now in
    let items = c.in-Some.items.items in
    let d = rw c.in-Some.is at c.in_ok-items.ensures in (
      kept_items s.no_comments (GapItems place) (spaced_lines l.blank_lines (indentation s level) before place) (items_view items) _ c.if-layout.false (ItemsIn.items d)
          (written_after (spaced_lines l.blank_lines (chars c.args.margin.now) before place) _ _ (items_view items) _ c.in_ok-before-2.ensures.1 (ap chars c.in_ok-reserve.ensures.bytes ∙ c.no_text-out.ensures) (ap items_view c.deref-2.ensures.value)
          ∙ ap (λ (t : Text). spaced_lines l.blank_lines t before place (items_view items)) e),
      counted l.blank_lines s before _ place
          (passed c.if-layout.false (passes_read false before _ place c.deref-2.result.now items d c.deref-2.ensures.value c.in_ok-before-2.ensures.0)),
    )
