use Rattle.std.proofs.Common.{◌∙◌, ap}
use Rattle.lsp.specs.Internal.Nesting.{after_value}
use Rattle.lsp.proofs.Nesting.{begun, some_json}
use Rattle.lsp.proofs.symbols.symbols.Goals as goal

pub returns : goal.returns
returns c = some_json _ _ c.end.result c.end.ensures.value (c.in_ok-put_nodes.ensures ∙ ap after_value (begun _ _ _ c.begin-out.ensures.before c.begin-out.ensures.tokens))
