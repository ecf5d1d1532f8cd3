use Rattle.std.proofs.Common.{arith, rules}
use Rattle.std.proofs.lemmas.Map.Text.{text_keys}
use Rattle.lsp_documents.proofs.state.State.change.Goals as goal

pub returns-in-Some-clause-only : goal.returns-in-Some-clause-only
returns-in-Some-clause-only c = record { phase = search rules; client = search rules; due = search rules; others = λ other differs. grind (arith, text_keys) }
