use Rattle.kdl_layout.proofs.Common.{Some, ap, chars, items_view}
use Rattle.kdl_layout.proofs.Lacking.GapPieces.{gap_listed}
use Rattle.kdl_layout.proofs.places.gap_items.Goals as goal

pub returns-in-Some : goal.returns-in-Some
returns-in-Some c = gap_listed (chars c.args.text.now) c.in-Some.field-0 (ap (λ l. Some (items_view l)) c.new.ensures.items) (rw c.in-Some.is at c.in_ok-read_gap.ensures)
