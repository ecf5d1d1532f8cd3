-- Entries, nodes and documents that read back: what a document prints is a text with its data, and so it is when they are put into another document.
use Rattle.std.specs.Prelude.{◌≡◌, option_map}
use Rattle.kdl_text.specs.Chars.{Text}
use Rattle.kdl_value.specs.Data.{Value}
use Rattle.kdl_value.specs.Print.{print_value}
use Rattle.kdl_value.specs.WellFormed.{IsWellFormed}
use Rattle.kdl_entry.specs.Tree.{Entry, EntryFormat, cleared, entry_tree}
use Rattle.kdl_entry.specs.declared.entry.KdlEntry.{KdlEntry}
use Rattle.kdl_grammar.specs.ReadsBack.{Anything, BlockReads, DocumentReads, EntryReads, NodeReads, Rests, TextEnd}
use Rattle.kdl.specs.Tree.{document_tree, node_tree}
use Rattle.kdl.specs.declared.document.KdlDocument.{KdlDocument}
use Rattle.kdl.specs.declared.node.KdlNode.{KdlNode}

-- an entry, among those of any node
abbrev pub EntryReadsBack : KdlEntry → Type 0
EntryReadsBack e = EntryReads (entry_tree e)

-- a node, as the last one of a text
abbrev pub NodeReadsBack : KdlNode → Type 0
NodeReadsBack n = NodeReads TextEnd (node_tree n)

-- a node before any other text: it ends by itself
abbrev pub NodeEnds : KdlNode → Type 0
NodeEnds n = NodeReads Anything (node_tree n)

-- a document, as a whole text
abbrev pub DocumentReadsBack : KdlDocument → Type 0
DocumentReadsBack d = DocumentReads (document_tree d)

-- a document, as the block of a node
abbrev pub BlockReadsBack : KdlDocument → Type 0
BlockReadsBack d = BlockReads (document_tree d)

-- m reads back before every rest before which n does
abbrev pub ReadsAs : KdlNode → KdlNode → Type 0
ReadsAs n m = (P : Rests) → NodeReads P (node_tree n) → NodeReads P (node_tree m)

-- without format and spelling, and with a value that memory can hold
pub record IsUnformed (e : Entry) : Type 0 where
  pub plain : cleared e ≡ e
  pub value : IsWellFormed e.value

-- a format with another spelling of the value
abbrev pub with_spelling : Text → EntryFormat → EntryFormat
with_spelling t f = record f { value_repr = t }

-- an entry with another value, and its spelling if it has a format
abbrev pub respelled : Value → Entry → Entry
respelled v e = record e { value = v; format = option_map (with_spelling (print_value v)) e.format }
