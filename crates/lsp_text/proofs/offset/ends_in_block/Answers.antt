use Rattle.std.proofs.Common.{◌≡◌, ◌+◌, ap, arith, drop, ◌∙◌}
use Rattle.lsp_text.specs.Positions.{lines_before}
use Rattle.lsp_text.proofs.Bytes.{block_more, lines_before_le}
use Rattle.lsp_text.proofs.offset.ends_in_block.Goals as goal

pub overflow_add-count : goal.overflow_add-count
overflow_add-count c =
    let i = c.loop-i.i in
    let k = c.line_ends-count.result in
    let t = drop c.args.start c.args.bytes.now in
    let e : lines_before i t + k ≡ lines_before (i + 1) t = block_more i c.args.start k c.args.bytes.now (omega arith) c.line_ends-count.ensures in
    let was : c.loop-i.count ≡ lines_before i t = c.loop-i.invariant in
    omega (arith, was, e, lines_before_le (i + 1) t)

pub loop-i-preserved : goal.loop-i-preserved
loop-i-preserved c =
    let k = c.line_ends-count.result in
    ap (λ z. z + k) c.loop-i.invariant ∙ block_more c.loop-i.i c.args.start k c.args.bytes.now (omega arith) c.line_ends-count.ensures

pub returns : goal.returns
returns c =
    let e : c.loop-i.i ≡ 64 = omega arith in
    c.loop-i.invariant ∙ ap (λ z. lines_before z (drop c.args.start c.args.bytes.now)) e
