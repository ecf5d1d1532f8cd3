-- The former language, in which node-spaces or a `}` come before each slashdash in a node.
use Rattle.std.specs.Prelude.{false}
use Rattle.kdl_text.specs.Chars.{Text}
use Rattle.kdl_grammar.specs.Data.{Node, Nodes}
use Rattle.kdl_grammar.specs.Grammar.{IsDocumentIn, IsNodeTextIn}

-- the text is a document of the former language with these nodes
abbrev pub IsFormerDocument : Text → Nodes → Type 0
IsFormerDocument = IsDocumentIn false

-- the text is a node of the former language
abbrev pub IsFormerNodeText : Text → Node → Type 0
IsFormerNodeText = IsNodeTextIn false
