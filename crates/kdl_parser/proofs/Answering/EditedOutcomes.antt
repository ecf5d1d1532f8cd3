-- Every edited document of a result reads back.
use Rattle.std.proofs.Common.{true}
use Rattle.kdl_text.specs.Chars.{Text}
use Rattle.kdl_grammar.specs.Edited.{IsEdited, EachDocument}
use Rattle.kdl_grammar.specs.Grammar.{IsDocument}
use Rattle.kdl_grammar.specs.Internal.Machine.{AnswersDocument}
use Rattle.kdl_grammar.specs.Print.{print_document}
use Rattle.kdl_grammar.specs.Tree.{Document, document_data}
use Rattle.kdl_grammar.proofs.Laying.FormedPrints.{edited_is_laid}
use Rattle.kdl_parser.proofs.Answering.Outcomes.{laid}

pub edited_found : (t : Text) (d e : Document) → AnswersDocument t d → EachDocument IsEdited d e → IsDocument (print_document e 0) (document_data e)
edited_found t d e a x = (edited_is_laid true t d e (laid t d a) x).0
