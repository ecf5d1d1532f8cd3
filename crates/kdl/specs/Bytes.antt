-- Texts, nodes and documents in which one piece of the printed text is replaced, and no other character.
use Rattle.std.specs.Prelude.{◌≡◌, ℕ, [], ◌++◌, Option, Some, None}
use Rattle.kdl_text.specs.Chars.{Text}
use Rattle.kdl_entry.specs.Tree.{entry_tree}
use Rattle.kdl_entry.specs.declared.entry.KdlEntry.{KdlEntry}
use Rattle.kdl_grammar.specs.Print.{print_document, print_node, print_piece}
use Rattle.kdl.specs.Fields.{document_format_of}
use Rattle.kdl.specs.Tree.{document_tree, node_tree}
use Rattle.kdl.specs.declared.document.KdlDocument.{KdlDocument}
use Rattle.kdl.specs.declared.node.KdlNode.{KdlNode}

-- new is old with the piece q in place of p; the texts before and after it are unchanged
pub record IsExchanged (p q old new : Text) : Type 0 where
  pub before : Text
  pub after : Text
  pub was : old ≡ before ++ p ++ after
  pub is : new ≡ before ++ q ++ after

-- so is what the node m prints, from what the node n prints, at each depth
pub record IsExchangedInNode (p q : Text) (n m : KdlNode) : Type 0 where
  pub prints : (depth : ℕ) → IsExchanged p q (print_node (node_tree n) depth) (print_node (node_tree m) depth)

-- so is what the document e prints, from what the document d prints, at each depth; the texts around the nodes are unchanged
pub record IsExchangedInDocument (p q : Text) (d e : KdlDocument) : Type 0 where
  pub prints : (depth : ℕ) → IsExchanged p q (print_document (document_tree d) depth) (print_document (document_tree e) depth)
  pub format : document_format_of e ≡ document_format_of d

-- what an entry prints in a node, or nothing if there is none
abbrev pub piece_of : Option KdlEntry → Text
piece_of None = []
piece_of (Some e) = print_piece (entry_tree e)
