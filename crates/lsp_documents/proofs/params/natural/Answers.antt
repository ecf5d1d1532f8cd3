use Rattle.std.proofs.Common.{◌∙◌, ap, sym}
use Rattle.fast_float.specs.Text.{scan}
use Rattle.lsp_documents.proofs.Numbers.{natural_is}
use Rattle.lsp_documents.proofs.params.natural.Goals as goal

pub returns-then-has_digits : goal.returns-then-has_digits
returns-then-has_digits c n =
    natural_is c.args.text.now n c.whole_u64.result c.scan-numeral.result (c.scan-numeral.ensures.parts ∙ ap scan c.as_bytes.ensures.value) c.scan-numeral.ensures.digits
    (sym c.if-has_digits.true ∙ c.has_digits.ensures) c.whole_u64.ensures
