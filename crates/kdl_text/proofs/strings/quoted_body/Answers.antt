use Rattle.std.proofs.Common.{arith}
use Rattle.std.proofs.Common.{String, Global}
use Rattle.kdl_text.specs.declared.strings.StringFailure.{StringFailure}
use Rattle.kdl_text.proofs.Looking.SliceCost.{past_more, past_three, past_then, past_two, past_look}
use Rattle.kdl_text.proofs.Quoted.BodyLoop.{reading_begins, reading_turn, reading_fails, reading_runs_out, reading_unit, failed, reading_ends, reading_over, reading_other, reading_past}
use Rattle.kdl_text.proofs.strings.quoted_body.Goals as goal

pub units-init : goal.units-init
units-init c = reading_begins _ _ _ _ c.run_of.ensures.reads.run c.run_of.ensures.reads.text c.run_of.ensures.past c.in_ok-out.ensures

pub returns-in_err-out-clause-past : goal.returns-in_err-out-clause-past
returns-in_err-out-clause-past c = past_more (omega arith) (past_three c.run_of.ensures.past)

pub units-preserved : goal.units-preserved
units-preserved c =
    let run = c.run_of-in-units.ensures in
    let did = c.in_ok-escape-in-Some-eq92.ensures in
    reading_turn _ _ _ c.units.invariant _ _ _ _ _ _ _ c.in-Some-eq92.ensures.took c.in-Some-eq92.field-0-test did.found did.past run.reads.run run.reads.text run.past c.in_ok-push_to.ensures

pub returns-in-Some-eq34 : goal.returns-in-Some-eq34
returns-in-Some-eq34 c =
    let took = c.in-Some-eq34.ensures.took in
    let (found, only) = reading_ends _ _ _ c.units.invariant _ _ took c.in-Some-eq34.field-0-test in
    record { found = found; only = only; past = past_more (omega arith) (reading_past _ _ _ c.units.invariant _ _ took) }

pub returns-in_err-escape-in-Some-eq92-clause-only : goal.returns-in_err-escape-in-Some-eq92-clause-only
returns-in_err-escape-in-Some-eq92-clause-only c r w b =
    let (m, u, unit) = reading_unit _ _ _ c.units.invariant _ _ c.in-Some-eq92.ensures.took c.in-Some-eq92.field-0-test r w b in
    let memory = c.in_err-escape-in-Some-eq92.ensures.only m u unit in
    failed {T = String Global} {E = StringFailure} c.from_residual-in_err-escape-in-Some-eq92.result _ _ _ c.from_residual-in_err-escape-in-Some-eq92.ensures.1 memory

pub returns-in_err-escape-in-Some-eq92-clause-past : goal.returns-in_err-escape-in-Some-eq92-clause-past
returns-in_err-escape-in-Some-eq92-clause-past c = past_more (omega arith) (reading_fails _ _ _ c.units.invariant _ _ _ c.in-Some-eq92.ensures.took c.escape.ensures.past)

pub returns-in-Some : goal.returns-in-Some
returns-in-Some c =
    let took = c.in-Some.ensures.took in
    let other = reading_other _ _ _ c.units.invariant _ _ took c.in-Some.c-test.0.1 c.in-Some.c-test.1 in
    record { found = tt; only = λ r w b. absurd (other r w b); past = past_more (omega arith) (reading_past _ _ _ c.units.invariant _ _ took) }

pub returns-in-None : goal.returns-in-None
returns-in-None c =
    let took = c.in-None.ensures.took in
    let over = reading_over _ _ _ c.units.invariant _ took in
    record { found = tt; only = λ r w b. absurd (over r w b); past = past_then c.units.invariant.past (past_three (past_two (past_look took.1))) }

pub returns-in_err-push_to-clause-past : goal.returns-in_err-push_to-clause-past
returns-in_err-push_to-clause-past c =
    past_more (omega arith) (reading_runs_out _ _ _ c.units.invariant _ _ _ _ c.in-Some-eq92.ensures.took c.escape.ensures.past c.run_of-in-units.ensures.past)
