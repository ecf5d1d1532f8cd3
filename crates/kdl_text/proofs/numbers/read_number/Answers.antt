use Rattle.std.proofs.Common.{ap, sym, ◌∙◌, lit≤, rules}
use Rattle.std.proofs.Math.Facts.{to_z-of_z}
use mir.Syntax.{w128}
use mir.Val.{SFits}
use Rattle.kdl_text.proofs.Looking.MostCost.{copied_most}
use Rattle.kdl_text.proofs.Looking.Parts.{part_moved}
use Rattle.kdl_text.proofs.Numeric.DecimalReads.{reads_whole, reads_number, copied_costs, decimal_shorter}
use Rattle.kdl_text.proofs.Numeric.NumberReads.{tight}
use Rattle.kdl_text.proofs.Numeric.NumberUnique.{whole_number_shorter}
use Rattle.kdl_text.proofs.numbers.read_number.Goals as goal

pub returns-in-Ok-Some-clause-reads : goal.returns-in-Ok-Some-clause-reads
returns-in-Ok-Some-clause-reads c =
    let fits : SFits w128 c.in-Ok-Some.n = search rules in
    rw (to_z-of_z fits) (reads_whole _ _ _ (rw c.in-Ok-Some.field-0-is at c.in-Ok-Some.ensures).reads)

pub returns-in-Ok-Some-clause-costs : goal.returns-in-Ok-Some-clause-costs
returns-in-Ok-Some-clause-costs c = let w = rw c.in-Ok-Some.field-0-is at c.in-Ok-Some.ensures in tight (lit≤ tt) w.past (whole_number_shorter w.reads)

pub slice-piece-requires : goal.slice-piece-requires
slice-piece-requires c = let m = c.whole_or_decimal.ensures.past.moves in (m.piece.0, c.checkpoint-start.ensures.rest ∙ m.piece.1, part_moved c.checkpoint-start.ensures.part m)

pub returns-in-Ok-clause-reads : goal.returns-in-Ok-clause-reads
returns-in-Ok-clause-reads c =
    let text = sym c.checkpoint-start.ensures.rest ∙ c.slice-piece.ensures.result in
    let w = rw c.in-Ok-None.field-0-is at c.in-Ok-None.ensures in
    rw (ap (λ h. h.rest) c.slice-piece.ensures.moved) (reads_number _ _ c.slice-piece.result _ c.in-Ok.ensures (w.reads _ text))

pub returns-in-Ok-clause-costs : goal.returns-in-Ok-clause-costs
returns-in-Ok-clause-costs c =
    let text = sym c.checkpoint-start.ensures.rest ∙ c.slice-piece.ensures.result in
    let w = rw c.in-Ok-None.field-0-is at c.in-Ok-None.ensures in
    copied_costs c.slice-piece.result _ _ _ text w.past.costs c.slice-piece.ensures.moved (decimal_shorter (w.reads _ text))

pub returns-in-Ok-clause-most : goal.returns-in-Ok-clause-most
returns-in-Ok-clause-most c = copied_most c.slice-piece.result _ _ _ c.whole_or_decimal.ensures.past.costs (sym c.checkpoint-start.ensures.rest ∙ c.slice-piece.ensures.result) c.slice-piece.ensures.moved

pub returns-in-Err-without_underscores-clause-most : goal.returns-in-Err-without_underscores-clause-most
returns-in-Err-without_underscores-clause-most c = copied_most c.slice-piece.result _ _ _ c.whole_or_decimal.ensures.past.costs (sym c.checkpoint-start.ensures.rest ∙ c.slice-piece.ensures.result) c.slice-piece.ensures.moved
