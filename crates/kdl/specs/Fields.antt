-- The fields of a node or a document in memory. The lists are in other files: `entries_of` in Lookups, `nodes_of` in DocumentLookups.
use Rattle.std.specs.Prelude.{Option, Vec}
use Rattle.std.specs.declared.alloc.Global.{Global}
use Rattle.kdl_text.specs.declared.span.SourceSpan.{SourceSpan}
use Rattle.kdl_entry.specs.declared.entry.KdlEntry.{KdlEntry}
use Rattle.kdl_entry.specs.declared.identifier.KdlIdentifier.{KdlIdentifier}
use Rattle.kdl_parts.specs.declared.format.KdlDocumentFormat.{KdlDocumentFormat}
use Rattle.kdl_parts.specs.declared.format.KdlNodeFormat.{KdlNodeFormat}
use Rattle.kdl.specs.declared.document.KdlDocument.{KdlDocument, out-KdlDocument}
use Rattle.kdl.specs.declared.node.KdlNode.{KdlNode, out-KdlNode}

-- the name of a node
abbrev pub name_of : KdlNode → KdlIdentifier
name_of n = (out-KdlNode n).name

-- the type of a node, if it has one
abbrev pub ty_of : KdlNode → Option KdlIdentifier
ty_of n = (out-KdlNode n).ty

-- the child block of a node, if it has one
abbrev pub block_of : KdlNode → Option KdlDocument
block_of n = (out-KdlNode n).children

-- the texts around the parts of a node, if it keeps them
abbrev pub node_format_of : KdlNode → Option KdlNodeFormat
node_format_of n = (out-KdlNode n).format

-- the span of a node
abbrev pub node_span_of : KdlNode → SourceSpan
node_span_of n = (out-KdlNode n).span

-- the texts around the nodes of a document, if it keeps them
abbrev pub document_format_of : KdlDocument → Option KdlDocumentFormat
document_format_of d = (out-KdlDocument d).format

-- the span of a document
abbrev pub document_span_of : KdlDocument → SourceSpan
document_span_of d = (out-KdlDocument d).span

-- the entries of a node in memory: the list and its capacity
abbrev pub held_entries : KdlNode → Vec KdlEntry Global
held_entries n = (out-KdlNode n).entries

-- the nodes of a document in memory
abbrev pub held_nodes : KdlDocument → Vec KdlNode Global
held_nodes d = (out-KdlDocument d).nodes
