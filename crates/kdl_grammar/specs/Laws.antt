-- What is proved of the written grammar of documents and nodes.
use Rattle.std.specs.Prelude.{◌≡◌, Bool, false}
use Rattle.kdl_text.specs.Chars.{Text}
use Rattle.kdl_grammar.specs.Data as data'
use Rattle.kdl_grammar.specs.Edited.{IsEdited, IsFormed, EachDocument}
use Rattle.kdl_grammar.specs.Former.{IsFormerDocument, IsFormerNodeText}
use Rattle.kdl_grammar.specs.Grammar.{IsDocument, IsDocumentIn, IsNodeText, IsNodeTextIn}
use Rattle.kdl_grammar.specs.Laid.{LaidDocument, LaidDocumentAs, LaidNodeText, LaidNodeTextAs}
use Rattle.kdl_grammar.specs.Print.{print_document, print_node}
use Rattle.kdl_grammar.specs.Tree.{Document, Node, document_data, node_data}

-- a text is at most one document
abbrev pub OneDocument : Type 0
OneDocument = (wide : Bool) (t : Text) (x y : data'.Nodes) → IsDocumentIn wide t x → IsDocumentIn wide t y → x ≡ y

-- a text is at most one node
abbrev pub OneNode : Type 0
OneNode = (wide : Bool) (t : Text) (x y : data'.Node) → IsNodeTextIn wide t x → IsNodeTextIn wide t y → x ≡ y

-- at most one document is located in a text with the spans of its pieces
abbrev pub OneLaidDocument : Type 0
OneLaidDocument = (t : Text) (d e : Document) → LaidDocument d t → LaidDocument e t → d ≡ e

-- at most one node is located as a whole text with the spans of its pieces
abbrev pub OneLaidNode : Type 0
OneLaidNode = (t : Text) (x y : Node) → LaidNodeText t x → LaidNodeText t y → x ≡ y

-- if a document is located in a text, the text is a document with its data, and it is what is printed
abbrev pub LaidIsDerived : Type 0
LaidIsDerived = (exact : Bool) (t : Text) (d : Document) → LaidDocumentAs exact d t → IsDocument t (document_data d) × (print_document d 0 ≡ t)

-- the same for a node that is the whole text
abbrev pub LaidNodeIsDerived : Type 0
LaidNodeIsDerived = (exact : Bool) (t : Text) (x : Node) → LaidNodeTextAs exact t x → IsNodeText t (node_data x) × (print_node x 0 ≡ t)

-- each text that is a node has one located in it, with its data
abbrev pub NodesAreLaid : Type 0
NodesAreLaid = (t : Text) (x : data'.Node) → IsNodeText t x → (n : Node) × LaidNodeText t n × (node_data n ≡ x)

-- what the former language derives, the present one derives with the same data
abbrev pub FormerIsKept : Type 0
FormerIsKept = ((t : Text) (x : data'.Nodes) → IsFormerDocument t x → IsDocument t x) × ((t : Text) (x : data'.Node) → IsFormerNodeText t x → IsNodeText t x)

-- a document that is located in its own printed text, with the spellings and forms that it prints, reads back: the text is a document with its data
abbrev pub ReadsBack : Type 0
ReadsBack = (d f : Document) → EachDocument IsFormed d f → LaidDocumentAs false f (print_document d 0) → IsDocument (print_document d 0) (document_data d)

-- a document that differs from a located one, spans aside, only in its nodes' entries reads back and is located in its text: each node has some of its located entries, flagged or not, and entries without form
abbrev pub EditedIsLaid : Type 0
EditedIsLaid = (exact : Bool) (t : Text) (d e : Document) → LaidDocumentAs exact d t → EachDocument IsEdited d e
    → IsDocument (print_document e 0) (document_data e) × ((f : Document) → EachDocument IsFormed e f → LaidDocumentAs false f (print_document e 0))
