use Rattle.std.proofs.Common.{[], ◌∷◌, ◌++◌, sym, ap, ◌∙◌, arith, append_assoc, append-nil, chars, length, length-append}
use Rattle.std.proofs.lemmas.List.{append_cancel_left}
use Rattle.std.proofs.lemmas.Str.{chars-append}
use Rattle.std.specs.Prelude.{encode_utf8}
use Rattle.kdl_report.specs.Windows.{rooms}
use Rattle.kdl_report.proofs.Appended.{empty_chars}
use Rattle.kdl_report.proofs.WindowSteps.{all_end, more_end, no_end, whole_end}
use Rattle.kdl_report.proofs.window.end.Goals as goal

pub loop-room-init : goal.loop-room-init
loop-room-init c = (c.utf8.text, ([], sym (append-nil c.args.text.now)), no_end _ _)

pub loop-room-preserved : goal.loop-room-preserved
loop-room-preserved c =
    let i = c.loop-room.invariant in
    let b = c.in-Some.ensures in
    (b.utf8, (encode_utf8 b.c ++ i.1.0, i.1.1 ∙ ap (λ z. z ++ i.1.0) b.bytes ∙ append_assoc _ (encode_utf8 b.c) i.1.0), more_end _ _ _ _ _ _ i.2 b)

pub loop-room-smaller : goal.loop-room-smaller
loop-room-smaller c =
    let b = c.in-Some.ensures in
    omega (arith, ap length b.whole, length-append (chars c.in-Some.before.now) (b.c ∷ []))

pub overflow_add-taken : goal.overflow_add-taken
overflow_add-taken c = omega (arith, c.in-Some.ensures.fits, c.loop-room.invariant.2.fits)

pub after-requires : goal.after-requires
after-requires c = c.loop-room.invariant.1

pub returns-clause-text : goal.returns-clause-text
returns-clause-text c =
    let i = c.loop-room.invariant in
    append_cancel_left _ _ _ (sym (ap chars c.after.ensures ∙ chars-append _ _ i.0) ∙ i.2.text) ∙ sym (all_end _ _ _ _ c.in_default.ensures i.2)

pub returns-clause-columns : goal.returns-clause-columns
returns-clause-columns c =
    let i = c.loop-room.invariant.2 in
    sym i.columns ∙ ap rooms (sym (all_end _ _ _ _ c.in_default.ensures i))

pub returns-clause-fits : goal.returns-clause-fits
returns-clause-fits c = c.loop-room.invariant.2.fits

pub returns-clause-whole : goal.returns-clause-whole
returns-clause-whole c =
    let i = c.loop-room.invariant in
    c.is_empty.ensures ∙ empty_chars _ i.0 ∙ whole_end _ _ _ _ i.2 c.in_default.ensures
