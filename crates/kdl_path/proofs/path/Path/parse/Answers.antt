use Rattle.std.proofs.Common.{sym, ap, ◌∙◌}
use Rattle.kdl_path.proofs.PathReads.{document_found, document_unique}
use Rattle.kdl_path.proofs.path.Path.parse.Goals as goal

pub returns-then-is_document-clause-found : goal.returns-then-is_document-clause-found
returns-then-is_document-clause-found c = document_found _ _ (sym (ap (λ z. z.rest) c.new-cursor.ensures) ∙ c.is_document.ensures.result.0 c.if-is_document.true) c.new-then-is_document.ensures.items

pub returns-then-is_document-clause-only : goal.returns-then-is_document-clause-only
returns-then-is_document-clause-only c = document_unique _ _ (sym (ap (λ z. z.rest) c.new-cursor.ensures) ∙ c.is_document.ensures.result.0 c.if-is_document.true) c.new-then-is_document.ensures.items
