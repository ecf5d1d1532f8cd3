-- A node, and a document, with another span is equal to what it was.
use Rattle.kdl.proofs.Common.{◌≡◌, ◌∙◌, sym, true, SourceSpan, KdlNode, KdlDocument, out-KdlNode, roll-KdlNode, out-roll-KdlNode, out-KdlDocument, roll-KdlDocument, out-roll-KdlDocument}
use Rattle.kdl.specs.Same.{same_node, same_document}
use Rattle.kdl.specs.contracts.node.KdlNodePartialEq.TheImpl.Laws.{is as node_is}
use Rattle.kdl.specs.contracts.node.KdlNodeEq.TheImpl.Laws.{laws-law as node_law}
use Rattle.kdl.specs.contracts.document.KdlDocumentPartialEq.TheImpl.Laws.{is as document_is}
use Rattle.kdl.specs.contracts.document.KdlDocumentEq.TheImpl.Laws.{laws-law as document_law}

pub node_spanned : (x : KdlNode) (span : SourceSpan) → same_node x (roll-KdlNode (record (out-KdlNode x) { span = span })) ≡ true
node_spanned x span =
    let y = record (out-KdlNode x) { span = span } in
    rw (node_is x (roll-KdlNode y), out-roll-KdlNode y) (sym (node_is x x) ∙ node_law.refl x)

pub document_spanned : (x : KdlDocument) (span : SourceSpan) → same_document x (roll-KdlDocument (record (out-KdlDocument x) { span = span })) ≡ true
document_spanned x span =
    let y = record (out-KdlDocument x) { span = span } in
    rw (document_is x (roll-KdlDocument y), out-roll-KdlDocument y) (sym (document_is x x) ∙ document_law.refl x)
