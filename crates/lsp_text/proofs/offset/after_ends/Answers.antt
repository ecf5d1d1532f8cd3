use Rattle.std.proofs.Common.{◌≡◌, ◌+◌, ◌<◌, ap, arith, drop, get_or, length, sym, ◌∙◌}
use Rattle.lsp_text.specs.Positions.{ends_line, from_line}
use Rattle.lsp_text.proofs.Bytes.{line_ends, line_goes_on, none_left}
use Rattle.lsp_text.proofs.offset.after_ends.Goals as goal
use Rattle.lsp_text.proofs.offset.after_ends.Goals.{then-is_line_end, else-is_line_end}

pub loop-left-preserved : goal.loop-left-preserved
loop-left-preserved c =
    let at = c.loop-left.at in
    let n = c.loop-left.left in
    let bs = c.args.bytes.now in
    let is : c.is_line_end.result ≡ ends_line (get_or bs at 0) (drop (at + 1) bs) = c.is_line_end.ensures in
    let some : 0 < n = omega arith in
    let below : at < length bs = omega arith in (
      omega arith,
      elim c.if-is_line_end.branch [
        | then-is_line_end w ↦ ap (λ z. from_line z (drop (at + 1) bs)) w.left-is ∙ line_ends n at bs some below (sym is ∙ w.if-is_line_end.true) ∙ c.loop-left.invariant.1
        | else-is_line_end w ↦ ap (λ z. from_line z (drop (at + 1) bs)) w.left-is ∙ line_goes_on n at bs some below (sym is ∙ w.if-is_line_end.false) ∙ c.loop-left.invariant.1
      ],
    )

pub returns-else-at-bytes-clause-rest : goal.returns-else-at-bytes-clause-rest
returns-else-at-bytes-clause-rest c = none_left c.loop-left.left c.loop-left.at c.args.bytes.now (omega arith) ∙ c.loop-left.invariant.1
