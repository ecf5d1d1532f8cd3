use Rattle.std.proofs.Common.{◌≡◌, ◌+◌, ◌-◌, ap, arith, drop, rules, sym, ◌∙◌}
use Rattle.std.proofs.lemmas.List.{drop-drop}
use Rattle.lsp_text.specs.Positions.{from_line, lines_before}
use Rattle.lsp_text.proofs.Bytes.{lines_passed}
use Rattle.lsp_text.proofs.offset.line_start.Goals as goal

pub loop-at-preserved : goal.loop-at-preserved
loop-at-preserved c =
    let at = c.loop-at.at in
    let n = c.loop-at.left in
    let bs = c.args.bytes.now in
    let m : c.from-ends.result ≡ lines_before 64 (drop at bs) = search rules in (
      omega arith,
      ap (λ z. from_line (n - z) (drop (at + 64) bs)) m ∙ ap (from_line (n - lines_before 64 (drop at bs))) (sym (drop-drop 64 at bs))
          ∙ lines_passed 64 n (drop at bs) (omega (arith, m, c.if-ends-left.false)) ∙ c.loop-at.invariant.1,
    )
