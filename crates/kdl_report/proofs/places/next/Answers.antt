use Rattle.std.proofs.Common.{ℕ, ◌+◌, List, sym, subst, Bor}
use Rattle.kdl_report.specs.Spots.{IsNext}
use Rattle.kdl_report.proofs.SpotSteps.{fits_more, next_newline, next_plain}
use Rattle.kdl_report.proofs.places.next.Goals as goal
use Rattle.kdl_report.proofs.places.next.Goals.{then-unit, else-unit}

pub overflow_add-line : goal.overflow_add-line
overflow_add-line c = (fits_more _ c.requires.spot).line

pub overflow_add-line-else-unit : goal.overflow_add-line-else-unit
overflow_add-line-else-unit c = (fits_more _ c.requires.spot).column

pub returns : goal.returns
returns c =
    let s = c.args.spot in
    let u = c.in_ok-unit.unit in
    let P : ℕ × ℕ × Bor (List ℕ) → Type 0 = λ l. IsNext c.args.offset s (record { text = s.text; at = s.at + u.len; line = l.0; column = l.1; line_text = l.2; rest = u.rest }) in
    elim c.if-unit.branch [
      | then-unit w ↦ subst P (sym w.line-is) (next_newline _ s u c.requires.spot c.in_ok-unit.ensures c.requires.within c.if-unit-offset.false w.if-unit.true)
      | else-unit w ↦ subst P (sym w.line-is) (next_plain _ s u c.requires.spot c.in_ok-unit.ensures c.requires.within c.if-unit-offset.false w.if-unit.false)
    ]
