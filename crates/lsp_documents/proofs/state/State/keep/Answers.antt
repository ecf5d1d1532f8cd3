use Rattle.std.proofs.Common.{arith, rules}
use Rattle.std.proofs.lemmas.Map.Text.{text_keys}
use Rattle.lsp_documents.proofs.state.State.keep.Goals as goal

pub returns-clause-only : goal.returns-clause-only
returns-clause-only c = record { phase = search rules; client = search rules; due = search rules; others = λ other differs. grind (arith, text_keys) }
