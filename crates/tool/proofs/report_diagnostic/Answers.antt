use Rattle.std.proofs.Common.{◌≡◌, ℕ, List, [], ◌∷◌, ◌++◌, append_assoc, sym, ap, ◌∙◌, arith}
use Rattle.std.specs.Prelude.{decimal}
use Rattle.std.proofs.lemmas.Fmt.{length-decimal-le}
use Rattle.tool.specs.Reports.{message_of, span_end}
use Rattle.tool.proofs.report_diagnostic.Goals as goal
use Rattle.tool.proofs.report_diagnostic.Goals.{in-Some, in-None}

joined : (start stop message a b m : List ℕ) → a ≡ start → b ≡ stop → m ≡ message
    → (((start ++ (46 ∷ 46 ∷ [])) ++ stop) ++ (32 ∷ message)) ++ (10 ∷ []) ≡ a ++ (46 ∷ 46 ∷ (b ++ (32 ∷ (m ++ (10 ∷ [])))))
joined start stop message a b m p q r = rw (p, q, r) (simp append_assoc)

pub put_decimal-starts_len-requires : goal.put_decimal-starts_len-requires
put_decimal-starts_len-requires g c = length-decimal-le 20 c.args.diagnostic.now.span.offset (omega arith) (omega arith) (omega arith)

pub put_decimal-ends_len-requires : goal.put_decimal-ends_len-requires
put_decimal-ends_len-requires g c = length-decimal-le 20 c.saturating_add-end.result (omega arith) (omega (arith, c.saturating_add-end.ensures)) (omega (arith, c.saturating_add-end.ensures))

pub returns : goal.returns
returns g c =
    let told : c.match-diagnostic.message.now ≡ message_of c.args.diagnostic.now.message =
    elim c.match-diagnostic.branch [
      | in-Some w ↦ ap (λ m. m.now) w.message-is ∙ w.as_str-message.ensures.value ∙ sym (ap message_of w.in-Some.is)
      | in-None w ↦ ap (λ m. m.now) w.message-is ∙ sym (ap message_of w.in-None.is)
    ] in
    let d = c.args.diagnostic.now in
    let stop = c.put_decimal-ends_len.ensures.digits ∙ ap decimal c.saturating_add-end.ensures in
    let same = joined (decimal d.span.offset) (decimal (span_end d.span)) (message_of d.message) _ _ _ c.put_decimal-starts_len.ensures.digits stop (c.as_bytes.ensures.value ∙ told) in
    rw same c.write_line.ensures
