-- What parsing promises of a text, a list of bytes, and the result r.
use Rattle.std.specs.Prelude.{◌≡◌, ℕ, List, IfOk, Result}
use Rattle.std.specs.Str.{chars}
use Rattle.kdl_grammar.specs.Data as data'
use Rattle.kdl_grammar.specs.Data.{Nodes}
use Rattle.kdl_grammar.specs.Edited.{EachDocument, IsEdited}
use Rattle.kdl_grammar.specs.Former.{IsFormerDocument, IsFormerNodeText}
use Rattle.kdl_grammar.specs.Grammar.{IsDocument, IsNodeText}
use Rattle.kdl_grammar.specs.Laid.{LaidDocument, LaidNodeText}
use Rattle.kdl_grammar.specs.Print.{print_document}
use Rattle.kdl_grammar.specs.Tree.{Document, document_data}
use Rattle.kdl_text.specs.Failures.{IsSyntax, TellsOnSyntax}
use Rattle.kdl_text.specs.declared.error.ParseFailure.{ParseFailure}
use Rattle.kdl.specs.Layout.{DocumentKeepsNoForm, NodeKeepsNoForm}
use Rattle.kdl.specs.ReadsBack.{DocumentReadsBack, NodeReadsBack}
use Rattle.kdl.specs.Tree.{document_prints, document_says, document_tree, node_prints, node_says, node_tree}
use Rattle.kdl.specs.declared.document.KdlDocument.{KdlDocument}
use Rattle.kdl.specs.declared.node.KdlNode.{KdlNode}

pub record ParsesDocument (t : List ℕ) (r : Result KdlDocument ParseFailure) : Type 0 where
  -- the data of the document is what the grammar derives
  pub found : IfOk r (λ d. IsDocument (chars t) (document_says d))
  -- and it derives nothing else
  pub only : IfOk r (λ d. (x : Nodes) → IsDocument (chars t) x → x ≡ document_says d)
  -- the document is located in the text, with each place in its class and each span at its piece, and prints the text
  pub laid : IfOk r (λ d. LaidDocument (document_tree d) (chars t))
  pub prints : IfOk r (λ d. document_prints d ≡ chars t)
  -- no entry is flagged to keep its form
  pub keeps_none : IfOk r (λ d. DocumentKeepsNoForm d)
  -- a refused text is not derived, and the error has the spans of its faults
  pub refused : IsSyntax r → (x : Nodes) → IsDocument (chars t) x → ⊥
  pub told : TellsOnSyntax t r
  -- a text of the former language is not refused, and is read as before
  pub kept : (x : Nodes) → IsFormerDocument (chars t) x → IsSyntax r → ⊥
  pub former : (x : Nodes) → IsFormerDocument (chars t) x → IfOk r (λ d. document_says d ≡ x)
  -- a document that differs only in the entries of its nodes prints a text that is derived with its data, if each node has some of its own entries, flagged or not, and entries without form
  pub edited : IfOk r (λ d. (e : Document) → EachDocument IsEdited (document_tree d) e → IsDocument (print_document e 0) (document_data e))
  -- it reads back, also after the edits whose contracts say so
  pub reads : IfOk r (λ d. DocumentReadsBack d)

-- the same of a node that is a whole text
pub record ParsesNodeText (t : List ℕ) (r : Result KdlNode ParseFailure) : Type 0 where
  pub found : IfOk r (λ n. IsNodeText (chars t) (node_says n))
  pub only : IfOk r (λ n. (x : data'.Node) → IsNodeText (chars t) x → x ≡ node_says n)
  pub laid : IfOk r (λ n. LaidNodeText (chars t) (node_tree n))
  pub prints : IfOk r (λ n. node_prints n ≡ chars t)
  pub keeps_none : IfOk r (λ n. NodeKeepsNoForm n)
  pub refused : IsSyntax r → (x : data'.Node) → IsNodeText (chars t) x → ⊥
  pub told : TellsOnSyntax t r
  pub kept : (x : data'.Node) → IsFormerNodeText (chars t) x → IsSyntax r → ⊥
  pub former : (x : data'.Node) → IsFormerNodeText (chars t) x → IfOk r (λ n. node_says n ≡ x)
  pub reads : IfOk r (λ n. NodeReadsBack n)

-- what a check promises of a text and its result
pub record ChecksDocument (t : List ℕ) (r : Result (Unit {0}) ParseFailure) : Type 0 where
  -- an accepted text is derived with some data
  pub found : IfOk r (λ _. (x : Nodes) × IsDocument (chars t) x)
  -- a refused text is not derived, not by the former language either, and the error has the spans of its faults
  pub refused : IsSyntax r → (x : Nodes) → IsDocument (chars t) x → ⊥
  pub told : TellsOnSyntax t r
  pub kept : (x : Nodes) → IsFormerDocument (chars t) x → IsSyntax r → ⊥
