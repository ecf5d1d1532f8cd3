use Rattle.kdl_diagnostics.specs.Internal.Reading.{GoesOn}
use Rattle.kdl_diagnostics.proofs.Passing.{found_on, goes_then, passed_here, reads_costs, reads_here, reads_more, stepped_first}
use Rattle.kdl_diagnostics.proofs.StringLoops.{finds_same}
use Rattle.kdl_diagnostics.proofs.strings.odd_unit.Goals as goal
use Rattle.kdl_diagnostics.proofs.strings.odd_unit.Goals.{else-c-eq92-via-then-c-eq92+else-is_ok, else-c-eq92-via-else-c-eq92}

pub returns-then-is_ok-clause-fault : goal.returns-then-is_ok-clause-fault
returns-then-is_ok-clause-fault c =
    finds_same _ (goes_then (stepped_first _ _ _ c.requires.here c.step.ensures) (reads_more 1 (reads_costs c.escaped_unit.ensures.moves c.escaped_unit.ensures.costs))).reads

pub returns-then-is_ok-clause-went : goal.returns-then-is_ok-clause-went
returns-then-is_ok-clause-went c = (goes_then (stepped_first _ _ _ c.requires.here c.step.ensures) (reads_costs c.escaped_unit.ensures.moves c.escaped_unit.ensures.costs)).went

on : (c : goal.After-earlier) → GoesOn 3 c.args.cursor.now c.else-c-eq92.cursor
on c =
    let s = stepped_first _ c.args.cursor.now c.step.new.self c.requires.here c.step.ensures in
    elim c.else-c-eq92.branch [
      | else-c-eq92-via-then-c-eq92+else-is_ok w ↦ rw w.cursor-is (goes_then s (reads_more 1 (reads_costs w.escaped_unit.ensures.moves w.escaped_unit.ensures.costs)))
      | else-c-eq92-via-else-c-eq92 w ↦ rw w.cursor-is (goes_then s (reads_more 3 (reads_here 0 _)))
    ]

pub returns-clause-fault : goal.returns-clause-fault
returns-clause-fault c = record {
  reads = (on c).reads;
  finds = λ start v f. c.earlier.ensures _ _ (found_on start _ f (on c).reads.moves) (passed_here c.checkpoint-place.ensures.rest v (on c).reads.moves);
}

pub returns-clause-went : goal.returns-clause-went
returns-clause-went c = (on c).went
