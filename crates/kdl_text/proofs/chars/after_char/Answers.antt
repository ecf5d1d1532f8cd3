use Rattle.std.proofs.Common.{get_or, length, sym, ap, ◌∙◌, arith}
use Rattle.std.proofs.lemmas.Bool.{eqb-true, eqb-false}
use Rattle.std.proofs.lemmas.Str.{IsCharBoundary-after_ascii}
use borrow.Author.Tests.{ltb-true}
use Rattle.kdl_text.proofs.Looking.FirstByte.{begins_no, begins_none, past_byte}
use Rattle.kdl_text.proofs.chars.after_char.Goals as goal
use Rattle.kdl_text.proofs.chars.after_char.Goals.{then-is_empty-via-then-is_empty, then-is_empty-via-else-is_empty+then-bytes-c}

pub returns-then-is_empty-clause-past : goal.returns-then-is_empty-clause-past
returns-then-is_empty-clause-past c =
    let same = sym c.as_bytes-bytes.ensures.value in
    elim c.then-is_empty.branch [
      | then-is_empty-via-then-is_empty w ↦ begins_none c.args.c c.args.text.now c.utf8.text (ap length same ∙ eqb-true _ 0 (sym c.is_empty.ensures ∙ w.if-is_empty.true))
      | then-is_empty-via-else-is_empty+then-bytes-c w ↦ begins_no c.args.c c.args.text.now (ltb-true c.args.c 128 (sym c.is_ascii.ensures ∙ c.if-is_ascii.true)) c.utf8.text (λ e. w.if-bytes-c.true (ap (λ s. get_or s 0 0) (sym same) ∙ e))
    ]

pub range_from-requires : goal.range_from-requires
range_from-requires c =
    let first = ap (λ s. get_or s 0 0) (sym c.as_bytes-bytes.ensures.value) ∙ c.if-bytes-c.false in
    λ _. IsCharBoundary-after_ascii c.args.text.now 0 c.utf8.text (omega (arith, ap length c.as_bytes-bytes.ensures.value, eqb-false _ 0 (sym c.is_empty.ensures ∙ c.if-is_empty.false))) (omega (arith, first, (ltb-true c.args.c 128 (sym c.is_ascii.ensures ∙ c.if-is_ascii.true))))

pub returns-then-is_ascii-clause-past : goal.returns-then-is_ascii-clause-past
returns-then-is_ascii-clause-past c =
    let first = ap (λ s. get_or s 0 0) (sym c.as_bytes-bytes.ensures.value) ∙ c.if-bytes-c.false in
    past_byte c.args.c c.args.text.now c.range_from.result.now (ltb-true c.args.c 128 (sym c.is_ascii.ensures ∙ c.if-is_ascii.true)) c.utf8.text (omega (arith, ap length c.as_bytes-bytes.ensures.value, eqb-false _ 0 (sym c.is_empty.ensures ∙ c.if-is_empty.false))) first c.range_from.ensures.value
