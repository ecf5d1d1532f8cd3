-- What layout makes of nodes and documents in memory.
pub use Rattle.kdl_layout.specs.Comments.{NodeAllCommentsStay, NodeCommentsStay}
pub use Rattle.kdl_layout.specs.Config.{IndentsBySpaces}
use Rattle.kdl_layout.specs.Blank.{at_start}
use Rattle.kdl_layout.specs.Config.{Settings, keeping, settings}
use Rattle.kdl_layout.specs.OneLine.{IsLaidDocument, IsLaidNode}
use Rattle.kdl_layout.specs.declared.config.Layout.{Layout}
use Rattle.kdl_layout.specs.Formatted.{DocumentKeepsNone, NodeKeepsNone, bare_document, bare_node, formatted_document, formatted_node}
use Rattle.kdl_layout.specs.KeptForm as kept'
use Rattle.kdl_layout.specs.WithComments.{IsFormattedDocument, IsFormattedNode}
use Rattle.kdl_grammar.specs.Tree.{Document, Node}
use Rattle.kdl.specs.Tree.{document_tree, node_tree}
use Rattle.kdl.specs.declared.document.KdlDocument.{KdlDocument}
use Rattle.kdl.specs.declared.node.KdlNode.{KdlNode}

-- a node or document without formats and spellings
abbrev pub node_bare : KdlNode → Node
node_bare n = bare_node (node_tree n)

abbrev pub document_bare : KdlDocument → Document
document_bare d = bare_document (document_tree d)

-- no entry is flagged to keep its form, at any depth
abbrev pub NodeKeepsNoForm : KdlNode → Type 0
NodeKeepsNoForm n = NodeKeepsNone (node_tree n)

abbrev pub DocumentKeepsNoForm : KdlDocument → Type 0
DocumentKeepsNoForm d = DocumentKeepsNone (document_tree d)

-- each entry that keeps its form, at any depth, reads back in what it keeps
abbrev pub NodeKeepsReading : Settings → KdlNode → Type 0
NodeKeepsReading s n = kept'.NodeKeepsReading s (node_tree n)

abbrev pub DocumentKeepsReading : Settings → KdlDocument → Type 0
DocumentKeepsReading s d = kept'.DocumentKeepsReading s (document_tree d)

-- m is n, laid out from the level of the settings on; for documents, e is d
abbrev pub NodeLaidOut : Settings → KdlNode → KdlNode → Type 0
NodeLaidOut s n m = IsFormattedNode s s.indent_level (node_tree n) (node_tree m)

abbrev pub DocumentLaidOut : Settings → KdlDocument → KdlDocument → Type 0
DocumentLaidOut s d e = IsFormattedDocument s s.indent_level (document_tree d) (document_tree e)

-- m is n, laid out so with blank lines, after nothing, with the spellings, the comments inside entries and types, and the
-- blocks on one line that the layout keeps; for documents, e is d
abbrev pub NodeSpaced : Layout → KdlNode → KdlNode → Type 0
NodeSpaced l n m = IsLaidNode (keeping l) l.keep_one_line l.compact_empty l.blank_lines (settings l.config) l.config.indent_level at_start (node_tree n) (node_tree m)

abbrev pub DocumentSpaced : Layout → KdlDocument → KdlDocument → Type 0
DocumentSpaced l d e = IsLaidDocument (keeping l) l.keep_one_line l.compact_empty l.blank_lines (settings l.config) l.config.indent_level (document_tree d) (document_tree e)

-- what layout makes of them without comments
abbrev pub plain_node : Settings → KdlNode → Node
plain_node s n = formatted_node s s.indent_level (node_tree n)

abbrev pub plain_document : Settings → KdlDocument → Document
plain_document s d = formatted_document s s.indent_level (document_tree d)
