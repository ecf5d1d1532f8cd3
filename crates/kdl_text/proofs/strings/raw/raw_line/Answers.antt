use Rattle.std.proofs.Common.{◌++◌, sym, ap, ◌∙◌, arith}
use Rattle.std.specs.Str.{chars}
use Rattle.kdl_text.specs.Raw.{literals}
use Rattle.kdl_text.proofs.Looking.Parts.{part_same}
use Rattle.kdl_text.proofs.Looking.SliceCost.{past_four, past_more}
use Rattle.kdl_text.proofs.ManyLines.PlainLoop.{paid_twice}
use Rattle.kdl_text.proofs.RawStrings.LinesLoop.{raw_begins, raw_run, raw_open, raw_ahead, raw_close, raw_newline, raw_stuck, raw_past, raw_runs_out}
use Rattle.kdl_text.proofs.strings.raw.raw_line.Goals as goal

pub parts-init : goal.parts-init
parts-init c = raw_begins _ _

pub line_between-requires-clause-order : goal.line_between-requires-clause-order
line_between-requires-clause-order c =
    let (x, e) = raw_ahead c.args.signs _ _ c.parts.invariant _ _ c.in-Some-eq34.ensures.took c.checkpoint-end.result.rest _ _ c.checkpoint-end.ensures.rest c.closing_place.ensures.past c.in-Some-closing_place.ensures.found in
    (x, c.checkpoint-start.ensures.rest ∙ e)

pub returns-in-Some-closing_place : goal.returns-in-Some-closing_place
returns-in-Some-closing_place c =
    let text = sym c.checkpoint-start.ensures.rest ∙ c.line_between.ensures.result in
    let (found, shorter, read) = raw_close c.args.signs _ _ c.parts.invariant _ _ c.in-Some-eq34.ensures.took c.checkpoint-end.result.rest _ _ c.checkpoint-end.ensures.rest c.closing_place.ensures.past c.in-Some-closing_place.ensures.found _ text in
    let (paid, past) = paid_twice (chars c.line_between.result.now) _ _ shorter read in
    rw c.line_between.ensures.moved (record { found = record { units = literals (chars c.line_between.result.now); is = c.plain_line.ensures; reads = found; paid = paid }; only = λ r us x. tt; past = past })

pub returns-in-Some : goal.returns-in-Some
returns-in-Some c =
    let text = sym c.checkpoint-start.ensures.rest ∙ c.line_between-in-Some.ensures.result ∙ ap (λ z. chars c.line_between-in-Some.result.now ++ z) c.checkpoint-end.ensures.rest in
    let end = c.end_newline.ensures in
    let (found, shorter, read) = raw_newline c.args.signs _ _ c.parts.invariant _ _ c.in-Some.ensures.took _ _ end.reads end.past text in
    let (paid, past) = paid_twice (chars c.line_between-in-Some.result.now) _ _ shorter read in
    rw c.line_between-in-Some.ensures.moved (record { found = record { units = literals (chars c.line_between-in-Some.result.now); is = c.plain_line-in-Some.ensures; reads = found; paid = paid }; only = λ r us x. tt; past = past })

pub parts-preserved-in_default : goal.parts-preserved-in_default
parts-preserved-in_default c =
    raw_open _ _ _ c.parts.invariant _ _ c.in-Some-eq34.ensures.took c.checkpoint-end.result.rest _ c.checkpoint-end.ensures.rest c.closing_place.ensures.past c.in_default.ensures.none

pub parts-preserved : goal.parts-preserved
parts-preserved c = raw_run _ _ _ c.parts.invariant _ _ c.in-Some.ensures.took _ c.in-Some.c-test.1 (sym c.is_raw.ensures ∙ c.if-is_raw.true) c.skip.ensures

pub returns-in-Some-3 : goal.returns-in-Some-3
returns-in-Some-3 c =
    let took = c.in-Some.ensures.took in
    let none = raw_stuck c.args.signs _ _ c.parts.invariant _ _ took c.in-Some.c-test.1 (sym c.is_newline_char.ensures ∙ c.if-is_newline_char.false) (sym c.is_raw.ensures ∙ c.if-is_raw.false) in
    record { found = tt; only = λ r us x. absurd (none r us x); past = past_more (omega arith) (past_four (raw_past _ _ _ c.parts.invariant _ _ took)) }

pub returns-in-None : goal.returns-in-None
returns-in-None c =
    let (none, past) = raw_runs_out _ _ _ c.parts.invariant _ c.in-None.ensures.took in
    record { found = tt; only = λ r us x. absurd (none r us x); past = past_four past }

pub closing_place-requires-clause-part : goal.closing_place-requires-clause-part
closing_place-requires-clause-part c = part_same c.checkpoint-end.ensures.part c.in-Some-eq34.ensures.took.3
