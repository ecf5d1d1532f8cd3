use Rattle.std.proofs.Common.{◌≡◌, ap, drop, rules, ◌∙◌}
use Rattle.std.specs.Str.{chars}
use Rattle.lsp_text.proofs.Bytes.{is_start}
use Rattle.lsp_text.proofs.offset.after_line.Goals as goal

pub range_from-requires : goal.range_from-requires
range_from-requires c = λ _. (is_start 1 c.after_ends.result c.args.text.now c.as_bytes.result.now c.utf8.text c.as_bytes.ensures.value c.after_ends.ensures.bound c.after_ends.ensures.rest).boundary

pub returns : goal.returns
returns c =
    let cut : c.range_from.result.now ≡ drop c.after_ends.result c.args.text.now = search rules in
    ap chars cut ∙ (is_start 1 c.after_ends.result c.args.text.now c.as_bytes.result.now c.utf8.text c.as_bytes.ensures.value c.after_ends.ensures.bound c.after_ends.ensures.rest).text
