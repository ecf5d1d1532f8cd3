use Rattle.std.proofs.Common.{sym, ap, ◌∙◌, arith, length}
use Rattle.std.proofs.lemmas.List.{append_cancel_right}
use Rattle.kdl_report.specs.Windows.{rooms}
use Rattle.kdl_report.proofs.WindowSteps.{all_front, more_front, no_front, whole_front}
use Rattle.kdl_report.proofs.window.front.Goals as goal

pub loop-room-init : goal.loop-room-init
loop-room-init c = (c.utf8.text, no_front _ _)

pub loop-room-preserved : goal.loop-room-preserved
loop-room-preserved c = (c.in-Some.ensures.utf8, more_front _ _ _ _ _ _ c.loop-room.invariant.1 c.in-Some.ensures)

pub loop-room-smaller : goal.loop-room-smaller
loop-room-smaller c = omega (arith, ap length c.in-Some.ensures.whole)

pub overflow_add-taken : goal.overflow_add-taken
overflow_add-taken c = omega (arith, c.in-Some.ensures.fits, c.loop-room.invariant.1.fits)

pub cut-requires : goal.cut-requires
cut-requires c = (c.loop-room.invariant.1.front, c.loop-room.invariant.1.text)

pub returns-clause-text : goal.returns-clause-text
returns-clause-text c =
    let i = c.loop-room.invariant.1 in
    append_cancel_right _ _ _ (sym c.cut.ensures ∙ i.text) ∙ sym (all_front _ _ _ _ i c.in_default.ensures)

pub returns-clause-columns : goal.returns-clause-columns
returns-clause-columns c =
    let i = c.loop-room.invariant.1 in
    sym i.columns ∙ ap rooms (sym (all_front _ _ _ _ i c.in_default.ensures))

pub returns-clause-fits : goal.returns-clause-fits
returns-clause-fits c = c.loop-room.invariant.1.fits

pub returns-clause-whole : goal.returns-clause-whole
returns-clause-whole c = c.ends_line.ensures ∙ whole_front _ _ _ _ c.loop-room.invariant.1 c.in_default.ensures
