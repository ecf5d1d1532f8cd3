-- What is proved of the machine that builds the tree, and of the tokens of a document.
use Rattle.std.specs.Prelude.{◌≡◌, ◌↔◌, Bool, List}
use Rattle.kdl_text.specs.Chars.{Text}
use Rattle.kdl_syntax.specs.Tokens.{Token, Lexes}
use Rattle.kdl_grammar.specs.Data as data'
use Rattle.kdl_grammar.specs.Grammar.{IsDocument, IsDocumentIn}
use Rattle.kdl_grammar.specs.Laid.{LaidDocument}
use Rattle.kdl_grammar.specs.Internal.Machine.{AnswersDocument}
use Rattle.kdl_grammar.specs.Tree.{Document, document_data}

-- a document is cut into tokens, with nothing left
abbrev pub IsLexed : Type 0
IsLexed = (wide : Bool) (t : Text) (x : data'.Nodes) → IsDocumentIn wide t x → (ks : List Token) × Lexes t ks

-- the machine has at most one result
abbrev pub OneAnswer : Type 0
OneAnswer = (t : Text) (d e : Document) → AnswersDocument t d → AnswersDocument t e → d ≡ e

-- the machine returns exactly if the text is a document, with its data
abbrev pub AnswersDocuments : Type 0
AnswersDocuments = (t : Text) (x : data'.Nodes) → IsDocument t x ↔ ((d : Document) × AnswersDocument t d × (document_data d ≡ x))

-- what the machine returns is located in the text, with its spans
abbrev pub AnswersAreLaid : Type 0
AnswersAreLaid = (t : Text) (d : Document) → AnswersDocument t d → LaidDocument d t
