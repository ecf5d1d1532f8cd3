use Rattle.std.proofs.Common.{arith}
use Rattle.kdl_text.proofs.Looking.MovesJoin.{fewer_bytes}
use Rattle.kdl_diagnostics.proofs.Passing.{goes_paid, goes_then, ran_fewer, reads_more, reads_ran, reads_then, reads_two, starts_begins, stepped_begins}
use Rattle.kdl_diagnostics.proofs.strings.closes.Goals as goal
use Rattle.kdl_diagnostics.proofs.strings.closes.Goals.{then-at-start, else-at-start}

pub returns-then-signs-gt0 : goal.returns-then-signs-gt0
returns-then-signs-gt0 c =
    let r = reads_ran c.skip.ensures in
    let few = ran_fewer _ _ _ c.skip.ensures (starts_begins 34 c.args.cursor.now.rest c.requires) in
    elim c.if-at-start.branch [
      | then-at-start w ↦ rw w.cursor-is (goes_paid (reads_then r w.eat_signs.ensures) (omega (arith, few, fewer_bytes w.eat_signs.ensures.moves)))
      | else-at-start w ↦ rw w.cursor-is (goes_paid (reads_more 1 r) few)
    ]

pub returns-then-quotes-gt1-2 : goal.returns-then-quotes-gt1-2
returns-then-quotes-gt1-2 c = goes_then (stepped_begins _ _ _ c.requires c.step.ensures) (reads_more 1 (reads_two _ _ _ _ _ c.eat_two.ensures))

pub returns-else-quotes-gt1-2 : goal.returns-else-quotes-gt1-2
returns-else-quotes-gt1-2 c = goes_then (stepped_begins _ _ _ c.requires c.step.ensures) (reads_more 1 c.eat_signs-else-quotes-gt1-2.ensures)
