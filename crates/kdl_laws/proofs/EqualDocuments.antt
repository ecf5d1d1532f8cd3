-- Documents, and nodes, that `==` takes for one print the same, and say the same.
use Rattle.kdl_laws.proofs.Common.{◌≡◌, same_document, same_node, document_prints, document_says, document_tree, node_says, node_tree, KdlDocument, KdlNode}
use Rattle.std.proofs.Common.{IsTrue}
use Rattle.kdl.specs.Tree.{node_prints}
use Rattle.kdl_laws.proofs.Equality.{document_decides, node_decides}
use Rattle.kdl_laws.proofs.SpansPrintNothing.{same_data, same_node_data, same_node_print, same_print}

pub equal_print : (a b : KdlDocument) → IsTrue (same_document a b) → document_prints a ≡ document_prints b
equal_print a b h = same_print (document_tree a) (document_tree b) 0 ((document_decides a b).0 h)

pub equal_say : (a b : KdlDocument) → IsTrue (same_document a b) → document_says a ≡ document_says b
equal_say a b h = same_data (document_tree a) (document_tree b) ((document_decides a b).0 h)

pub equal_nodes_print : (a b : KdlNode) → IsTrue (same_node a b) → node_prints a ≡ node_prints b
equal_nodes_print a b h = same_node_print (node_tree a) (node_tree b) 0 ((node_decides a b).0 h)

pub equal_nodes_say : (a b : KdlNode) → IsTrue (same_node a b) → node_says a ≡ node_says b
equal_nodes_say a b h = same_node_data (node_tree a) (node_tree b) ((node_decides a b).0 h)
