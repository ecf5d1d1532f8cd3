use Rattle.std.proofs.Common.{ap, chars, sym, ◌∙◌}
use Rattle.std.proofs.lemmas.Str.{chars-nil}
use Rattle.lsp_documents.specs.States.{known_text}
use Rattle.lsp_documents.proofs.state.text_before.Goals as goal

pub returns-in-None-clause-known : goal.returns-in-None-clause-known
returns-in-None-clause-known c = ap chars c.new.ensures.bytes ∙ chars-nil ∙ ap known_text (sym c.in-None.is)
