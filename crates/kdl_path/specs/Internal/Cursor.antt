-- A document that is open along a path.
use Rattle.std.specs.Option.{option_to_list}
use Rattle.std.specs.Prelude.{◌≡◌, List, [], ◌∷◌, ◌++◌, map, reverse}
use Rattle.kdl.specs.Words.{Document, Nodes as Data, document_format_of, document_span_of, document_tree, nodes_of, nodes_tree}
use Rattle.kdl_grammar.specs.ReadsBack.{BlockReads, DocumentReads}
use Rattle.kdl_grammar.specs.Tree.{Nodes, children, document, document_data, join}
use Rattle.c_calls.specs.Internal.Opened.{with_kids_at}
use Rattle.kdl_query.specs.Selects.{Path}
use Rattle.kdl_path.specs.declared.cursor.Cursor.{Cursor}
use Rattle.kdl_path.specs.declared.cursor.above.Above.{Above}
use Rattle.kdl_path.specs.declared.cursor.block.Block.{Block}

-- a document with more nodes after its own
abbrev pub with_after : Nodes → Document → Document
with_after ms (document o s ns) = document o s (join ns ms)

-- a block, with the nodes that are apart from it
abbrev pub rejoined : Block → Document
rejoined b = with_after (nodes_tree (reverse b.after.items)) (document_tree b.document)

-- c is the block b, with other nodes of it apart
pub record IsMoved (b c : Block) : Type 0 where
  pub nodes : nodes_of c.document ++ reverse c.after.items ≡ nodes_of b.document ++ reverse b.after.items
  pub format : document_format_of c.document ≡ document_format_of b.document
  pub span : document_span_of c.document ≡ document_span_of b.document

-- the whole document after the block c is put back into those around it, the outermost of which is first
abbrev pub plugged : List Above → Document → Document
plugged [] c = c
plugged (a ∷ more) c = with_kids_at a.index (children (plugged more c)) (rejoined a.block)

abbrev pub indices : List Above → Path
indices above = map (λ a. a.index) above

-- the document that is open, and the path at which it is
abbrev pub whole : Cursor → Document
whole c = plugged c.above.items (rejoined c.block)

abbrev pub path_of : Cursor → Path
path_of c = indices c.above.items ++ option_to_list c.last

-- e reads back where d does, and has its data after f
pub record Becomes (f : Data → Data) (d e : Document) : Type 0 where
  pub says : document_data e ≡ f (document_data d)
  pub block : BlockReads d → BlockReads e
  pub whole : DocumentReads d → DocumentReads e
