use Rattle.std.proofs.Common.{Ok, Err, sym, subst}
use Rattle.std.specs.Str.{chars}
use Rattle.kdl_grammar.specs.Internal.Machine.{AnswersDocument}
use Rattle.kdl_grammar.specs.Tree.{Document}
use Rattle.kdl.proofs.ParseAnswers.{document_parsed, made, not_made}
use Rattle.kdl.proofs.document.KdlDocument.parse_counted.Goals as goal

pub returns-in-Ok-clause-parses : goal.returns-in-Ok-clause-parses
returns-in-Ok-clause-parses c =
    document_parsed c.args.text.now (Ok c.from_parts.result) _ _ (subst (λ (d : Document). AnswersDocument (chars c.args.text.now) d) (sym c.from_parts.ensures) (rw c.in-Ok.is at c.read_document.ensures.found))
    (made c.args.text.now c.in-Ok.parts c.from_parts.result _ _ (rw c.in-Ok.is at c.read_document.ensures.parses))

pub returns-in-Err-clause-parses : goal.returns-in-Err-clause-parses
returns-in-Err-clause-parses c = document_parsed c.args.text.now (Err c.in-Err.failure) _ _ tt (not_made c.args.text.now c.in-Err.failure _ _ (rw c.in-Err.is at c.read_document.ensures.parses))
