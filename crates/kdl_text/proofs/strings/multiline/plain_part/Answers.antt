use Rattle.std.proofs.Common.{◌++◌, sym, ap, ◌∙◌}
use Rattle.std.specs.Str.{chars}
use Rattle.kdl_text.proofs.ManyLines.PlainLoop.{plain_run, plain_quote, plain_quotes, plain_close, plain_escape, plain_newline, plain_stuck, plain_over, paid_twice}
use Rattle.kdl_text.proofs.strings.multiline.plain_part.Goals as goal
use Rattle.kdl_text.proofs.strings.multiline.plain_part.Goals.{else-eat-via-then-eat+else-eat-2, else-eat-via-else-eat}

pub returns-then-eat-2 : goal.returns-then-eat-2
returns-then-eat-2 c =
    let text = sym c.checkpoint-start.ensures.rest ∙ c.line_between.ensures.result ∙ ap (λ z. chars c.line_between.result.now ++ z) c.checkpoint-end.ensures.rest in
    let (found, shorter, read) = plain_close _ _ c.runs.invariant _ _ c.in-Some-eq34.ensures.took _ _ _ c.in-Some-eq34.field-0-test c.if-eat.ensures c.if-eat-2.ensures text in
    let (paid, past) = paid_twice (chars c.line_between.result.now) _ _ shorter read in
    rw c.line_between.ensures.moved (record { found = record { reads = found; paid = paid }; only = λ r us x. tt; past = past })

pub runs-preserved-else-eat : goal.runs-preserved-else-eat
runs-preserved-else-eat c = elim c.else-eat.branch [
  | else-eat-via-then-eat+else-eat-2 w ↦ rw w.cursor-is (plain_quotes _ _ c.runs.invariant _ _ c.in-Some-eq34.ensures.took _ _ c.in-Some-eq34.field-0-test w.if-eat.ensures w.if-eat-2.ensures)
  | else-eat-via-else-eat w ↦ rw w.cursor-is (plain_quote _ _ c.runs.invariant _ _ c.in-Some-eq34.ensures.took _ c.in-Some-eq34.field-0-test w.if-eat.ensures)
]

pub returns-in-Some-eq92 : goal.returns-in-Some-eq92
returns-in-Some-eq92 c =
    let text = sym c.checkpoint-start.ensures.rest ∙ c.line_between-in-Some-eq92.ensures.result ∙ ap (λ z. chars c.line_between-in-Some-eq92.result.now ++ z) c.checkpoint-end.ensures.rest in
    let (found, shorter, read) = plain_escape _ _ c.runs.invariant _ _ c.in-Some-eq92.ensures.took _ c.in-Some-eq92.field-0-test text in
    let (paid, past) = paid_twice (chars c.line_between-in-Some-eq92.result.now) _ _ shorter read in
    rw c.line_between-in-Some-eq92.ensures.moved (record { found = record { reads = found; paid = paid }; only = λ r us x. tt; past = past })

pub returns-in-Some : goal.returns-in-Some
returns-in-Some c =
    let text = sym c.checkpoint-start.ensures.rest ∙ c.line_between-in-Some.ensures.result ∙ ap (λ z. chars c.line_between-in-Some.result.now ++ z) c.checkpoint-end.ensures.rest in
    let end = c.end_newline.ensures in
    let (found, shorter, read) = plain_newline _ _ c.runs.invariant _ _ c.in-Some.ensures.took _ _ end.reads end.past text in
    let (paid, past) = paid_twice (chars c.line_between-in-Some.result.now) _ _ shorter read in
    rw c.line_between-in-Some.ensures.moved (record { found = record { reads = found; paid = paid }; only = λ r us x. tt; past = past })

pub runs-preserved : goal.runs-preserved
runs-preserved c = plain_run _ _ c.runs.invariant _ _ c.in-Some.ensures.took _ (sym c.is_literal.ensures ∙ c.if-is_literal.true) c.skip.ensures

pub returns-in-Some-3 : goal.returns-in-Some-3
returns-in-Some-3 c =
    let (x34, x92) = c.in-Some.c-test in
    let (none, past) = plain_stuck _ _ c.runs.invariant _ _ c.in-Some.ensures.took x34.1 x92 (sym c.is_newline_char.ensures ∙ c.if-is_newline_char.false) (sym c.is_literal.ensures ∙ c.if-is_literal.false) in
    record { found = tt; only = none; past = past }

pub returns-in-None : goal.returns-in-None
returns-in-None c =
    let (none, past) = plain_over _ _ _ c.runs.invariant c.in-None.ensures.took in
    record { found = tt; only = none; past = past }
