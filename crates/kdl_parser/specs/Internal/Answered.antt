-- What is returned for the text before the lexer, in terms of the tree of a node.
use Rattle.std.specs.Prelude.{◌≡◌, Option, Some, None, Result, Ok, Err}
use Rattle.kdl_text.specs.Chars.{Text}
use Rattle.kdl_syntax.specs.declared.lexer.LexFailure.{LexFailure}
use Rattle.kdl_syntax.specs.declared.lexer.LexFailure.TheVariants.{Faulty, Memory}
use Rattle.kdl_grammar.specs.Internal.Machine.{initial, Runs}
use Rattle.kdl_grammar.specs.Tree.{Node, Document}
use Rattle.kdl_parser.specs.Internal.Parts.{document_by}
use Rattle.kdl_parser.specs.declared.node_parts.DocumentParts.{DocumentParts}

-- what the machine returns on u, which is the text t or what follows its U+FEFF; an allocation failure says nothing
abbrev pub AnswersParts : {N : Type 0} → (N → Node) → Text → Text → Result (DocumentParts N) LexFailure → Type 0
AnswersParts tree t u (Ok d) = Runs t (document_by tree d) (initial u) u
AnswersParts tree t u (Err Faulty) = (d : Document) → Runs t d (initial u) u → ⊥
AnswersParts tree t u (Err Memory) = Unit {0}

-- what is returned at the end of the text, given what the machine returns
abbrev pub Finished : {N : Type 0} → (N → Node) → Option Document → Result (DocumentParts N) LexFailure → Type 0
Finished tree o (Ok d) = o ≡ Some (document_by tree d)
Finished tree o (Err Faulty) = o ≡ None
Finished tree o (Err Memory) = Unit {0}
