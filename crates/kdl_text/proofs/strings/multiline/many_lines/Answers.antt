use Rattle.std.proofs.Common.{sym, subst, arith, String, Global}
use Rattle.std.specs.Prelude.{string_bytes}
use Rattle.std.specs.Str.{chars}
use Rattle.kdl_text.specs.Dedent.{lines_of}
use Rattle.kdl_text.specs.Internal.Lines.{AreLines}
use Rattle.kdl_text.specs.declared.strings.StringFailure.{StringFailure}
use Rattle.kdl_text.proofs.ManyLines.StringReads.{body_found, body_only, body_lines, body_newline}
use Rattle.kdl_text.proofs.Looking.SliceCost.{past_four, past_more, past_then}
use Rattle.kdl_text.proofs.Quoted.BodyLoop.{failed}
use Rattle.kdl_text.proofs.strings.multiline.many_lines.Goals as goal

pub returns-in_err-lines-clause-only : goal.returns-in_err-lines-clause-only
returns-in_err-lines-clause-only c r w b =
    let (us, x, made) = body_lines c.args.signs _ _ r w c.if-not-newline.ensures.reads b in
    let memory = c.in_err-lines.ensures.only r us x in
    failed {T = String Global} {E = StringFailure} c.from_residual.result _ _ _ c.from_residual.ensures.1 memory

pub returns-in_err-lines-clause-past : goal.returns-in_err-lines-clause-past
returns-in_err-lines-clause-past c = past_more (omega arith) (past_then (past_four (record { moves = c.newline.ensures.moves; costs = c.newline.ensures.costs })) c.content.ensures.past)

pub returns : goal.returns
returns c =
    let (us, x, are) = c.in_ok-lines.ensures.found in
    let made = c.dedent.ensures us (subst (λ z. AreLines z (lines_of us)) (sym c.deref.ensures.value) are) in
    record {
      found = body_found c.args.signs c.dedent.result (λ v. chars (string_bytes v)) _ _ _ us c.if-not-newline.ensures.reads x made.found;
      only = body_only c.args.signs c.dedent.result (λ v. chars (string_bytes v)) _ _ _ us c.if-not-newline.ensures.reads x made.only;
      past = past_more (omega arith) (past_then (past_four (record { moves = c.newline.ensures.moves; costs = c.newline.ensures.costs })) c.content.ensures.past);
    }

pub returns-then-not-newline-clause-past : goal.returns-then-not-newline-clause-past
returns-then-not-newline-clause-past c = past_more (omega arith) (past_four (record { moves = c.newline.ensures.moves; costs = c.newline.ensures.costs }))

pub returns-then-not-newline-clause-only : goal.returns-then-not-newline-clause-only
returns-then-not-newline-clause-only c r w b = let (m, n) = body_newline c.args.signs _ r w b in absurd (c.if-not-newline.ensures.reads.1 m n)
