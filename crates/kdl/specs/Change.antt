-- A node or a document with one field changed.
use denote.RattleType.{RattleType}
use Rattle.std.specs.Prelude.{ℕ, Option, Vec}
use Rattle.std.specs.Vec.{with_item}
use Rattle.std.specs.contracts.alloc.Global as global
use Rattle.std.specs.contracts.impls.GlobalAllocator.TheImpl.{ghosts}
use Rattle.std.specs.contracts.option.Option as option
use Rattle.std.specs.contracts.vec.Vec as vec
use Rattle.std.specs.declared.alloc.Global.{Global}
use Rattle.kdl_text.specs.declared.span.SourceSpan.{SourceSpan}
use Rattle.kdl_entry.specs.contracts.identifier.KdlIdentifier as identifier
use Rattle.kdl_entry.specs.declared.entry.KdlEntry.{KdlEntry}
use Rattle.kdl_entry.specs.declared.identifier.KdlIdentifier.{KdlIdentifier}
use Rattle.kdl_value.specs.declared.value.KdlValue.{KdlValue}
use Rattle.kdl.specs.contracts.document.KdlDocument as document
use Rattle.kdl.specs.contracts.node.KdlNode as node
use Rattle.kdl.specs.declared.node.KdlNode.{KdlNode}
use Rattle.kdl_parts.specs.declared.format.KdlNodeFormat.{KdlNodeFormat}
use Rattle.kdl.specs.declared.document.KdlDocument.{KdlDocument}
use Rattle.kdl_parts.specs.Written.{set_value_at}
use Rattle.kdl_parts.specs.declared.format.KdlDocumentFormat.{KdlDocumentFormat}
use Rattle.kdl.specs.declared.document.KdlDocument.TheViews.{out-KdlDocument, out-KdlNode, roll-KdlDocument, roll-KdlNode}

abbrev pub with_name : KdlNode → KdlIdentifier → KdlNode
with_name n w = roll-KdlNode (record (out-KdlNode n) { name = w })

abbrev pub with_ty : KdlNode → Option KdlIdentifier → KdlNode
with_ty n w = roll-KdlNode (record (out-KdlNode n) { ty = w })

abbrev pub with_entries : KdlNode → Vec KdlEntry Global → KdlNode
with_entries n w = roll-KdlNode (record (out-KdlNode n) { entries = w })

abbrev pub with_children : KdlNode → Option KdlDocument → KdlNode
with_children n w = roll-KdlNode (record (out-KdlNode n) { children = w })

abbrev pub with_format : KdlNode → Option KdlNodeFormat → KdlNode
with_format n w = roll-KdlNode (record (out-KdlNode n) { format = w })

abbrev pub with_span : KdlNode → SourceSpan → KdlNode
with_span n w = roll-KdlNode (record (out-KdlNode n) { span = w })

abbrev pub with_nodes : KdlDocument → Vec KdlNode Global → KdlDocument
with_nodes d w = roll-KdlDocument (record (out-KdlDocument d) { nodes = w })

abbrev pub with_document_format : KdlDocument → Option KdlDocumentFormat → KdlDocument
with_document_format d w = roll-KdlDocument (record (out-KdlDocument d) { format = w })

abbrev pub with_document_span : KdlDocument → SourceSpan → KdlDocument
with_document_span d w = roll-KdlDocument (record (out-KdlDocument d) { span = w })

-- with the entry at i replaced
abbrev pub with_entry : KdlNode → ℕ → KdlEntry → KdlNode
with_entry n i e = with_entries n (with_item (out-KdlNode n).entries i e)

-- with the node at i replaced
abbrev pub with_node : KdlDocument → ℕ → KdlNode → KdlDocument
with_node d i n = with_nodes d (with_item (out-KdlDocument d).nodes i n)

-- with the value of the entry at i replaced
abbrev pub with_value : KdlNode → ℕ → KdlValue → KdlNode
with_value n i w = with_entries n (set_value_at (out-KdlNode n).entries i w)

-- the types of a list of nodes, a child block and a type in the logic
abbrev pub nodes_row : RattleType
nodes_row = vec.the_row node.the_row global.the_row ghosts

abbrev pub children_row : RattleType
children_row = option.the_row document.the_row

abbrev pub ty_row : RattleType
ty_row = option.the_row identifier.the_row
