-- Documents that are a whole text.
use Rattle.std.specs.Prelude.{Result, Ok, Err}
use Rattle.kdl_text.specs.Chars.{Text}
use Rattle.kdl_syntax.specs.declared.lexer.LexFailure.{LexFailure}
use Rattle.kdl_syntax.specs.declared.lexer.LexFailure.TheVariants.{Faulty, Memory}
use Rattle.kdl_grammar.specs.Internal.Machine.{AnswersDocument}
use Rattle.kdl_grammar.specs.Tree.{Node, Document}
use Rattle.kdl_parser.specs.Internal.Parts.{document_by}
use Rattle.kdl_parser.specs.declared.node_parts.DocumentParts.{DocumentParts}

-- what the machine returns on the whole text; an allocation failure says nothing
abbrev pub AnswersDocumentText : {N : Type 0} → (N → Node) → Text → Result (DocumentParts N) LexFailure → Type 0
AnswersDocumentText tree t (Ok d) = AnswersDocument t (document_by tree d)
AnswersDocumentText tree t (Err Faulty) = (d : Document) → AnswersDocument t d → ⊥
AnswersDocumentText tree t (Err Memory) = Unit {0}
