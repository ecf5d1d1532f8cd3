use Rattle.std.proofs.Common.{◌≡◌, ◌+◌, ◌-◌, ap, arith, ◌∙◌}
use Rattle.std.specs.Str.{chars}
use Rattle.lsp_text.specs.Positions.{from_line}
use Rattle.lsp_text.proofs.Bytes.{from_line_add}
use Rattle.lsp_text.proofs.offset.from_line_on.Goals as goal

pub returns-else-to-from : goal.returns-else-to-from
returns-else-to-from c =
    let m = c.args.from in
    let n = c.args.to - m in
    let t = chars c.args.text.now in
    let e : m + n ≡ c.args.to = omega arith in
    c.from_line-else-to-from.ensures ∙ ap (from_line n) c.requires ∙ from_line_add m n t ∙ ap (λ z. from_line z t) e
