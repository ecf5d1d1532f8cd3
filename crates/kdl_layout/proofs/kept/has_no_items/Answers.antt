use Rattle.kdl_layout.proofs.Common.{ap, chars, items_view}
use Rattle.kdl_layout.proofs.Keeping.KeptReads.{no_elements}
use Rattle.kdl_layout.proofs.kept.has_no_items.Goals as goal
use Rattle.kdl_layout.proofs.Respelling.Kept.{empty_view, no_items}

pub returns-in-Some : goal.returns-in-Some
returns-in-Some c =
    let v = c.in-Some.items in
    no_items (chars c.args.text.now) (items_view v.items) c.is_empty.result (rw c.in-Some.is at c.in_ok-items.ensures)
    (λ h. ap items_view (no_elements v.items v.len c.is_empty.result v.ok.0 c.is_empty.ensures h))
    (λ h. empty_view v.items v.len c.is_empty.result v.ok.0 c.is_empty.ensures h)
