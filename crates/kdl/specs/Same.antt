-- Which nodes, and which documents, are equal by `==`.
use Rattle.std.specs.Prelude.{Bool}
use Rattle.kdl.specs.declared.node.KdlNode.{KdlNode}
use Rattle.kdl.specs.declared.document.KdlDocument.{KdlDocument}
use Rattle.kdl.specs.contracts.node.KdlNodePartialEq.TheImpl as node'
use Rattle.kdl.specs.contracts.document.KdlDocumentPartialEq.TheImpl as document'

abbrev pub same_node : KdlNode → KdlNode → Bool
same_node = (node'.ghosts).eq

abbrev pub same_document : KdlDocument → KdlDocument → Bool
same_document = (document'.ghosts).eq
