-- A text in which a tree is laid is derived, with the tree's data.
use Rattle.std.proofs.Common.{Bool, true, List, [], ◌∷◌, map, sym, subst}
use Rattle.kdl_text.specs.Chars.{Text, Star}
use Rattle.kdl_text.specs.Chars.Star.{none as no_star, more}
use Rattle.kdl_text.specs.Trivia.{NodeSpace}
use Rattle.kdl_text.specs.declared.span.SourceSpan.{SourceSpan}
use Rattle.kdl_entry.specs.Data as entry_data'
use Rattle.kdl_entry.specs.Entries.{IsEntry}
use Rattle.kdl_entry.specs.Laid.{laid_entry}
use Rattle.kdl_entry.specs.Places.{DroppedEntry, dropped as dropped_e, EntryLeading, leading}
use Rattle.kdl_entry.specs.Tree.{Entry, entry_data}
use Rattle.kdl_entry.proofs.Laying.LaidIsDerived.{string_of, type_of, item_of}
use Rattle.kdl_grammar.specs.Data as data'
use Rattle.kdl_grammar.specs.Grammar.{IsNode, named, AfterName, kept_entry, dropped_entry, Blocks, dropped_block, block, no_block, AfterBlock, dropped_later, no_more, Gap, AreNodes, last_gap, node_then, IsBlock, braces, IsDocument, IsDocumentIn, IsNodeText, node_text}
use Rattle.kdl_grammar.specs.Laid.{LaidEntries, no_entry, an_entry, LaidNode, laid_node, LaidChildren, no_block as laid_no_block, a_block, LaidNodes, no_node, a_node, LaidContent, without_nodes, with_nodes, LaidDocumentAs, LaidNodeTextAs, laid_node_text}
use Rattle.kdl_grammar.specs.Places.{DroppedBlock, AfterChildren, after, BeforeChildren, before}
use Rattle.kdl_grammar.specs.Tree.{Node, Children, Document, Nodes, node_data, children_data, document_data, nodes_data}
use Rattle.kdl_grammar.proofs.Reading.Complete.{bom_data}

-- dropped entries before what follows a name
unfoldable pub dropped_first : {s t r : Text} {es : List entry_data'.Entry} {k : data'.Children} → Star DroppedEntry s t → AfterName true t r es k → AfterName true s r es k
dropped_first no_star d = d
dropped_first (more (dropped_e ss m i) ds) d = dropped_entry ss m i (dropped_first ds d)

unfoldable pub no_block_of : {b : Bool} {s t r : Text} → Star DroppedBlock s t → Star NodeSpace t r → Blocks true b s r data'.no_children
no_block_of no_star ss = no_block ss
no_block_of (more (DroppedBlock.dropped us m b) ds) ss = dropped_block us m b (no_block_of ds ss)

unfoldable pub block_of : {b : Bool} {s t u r : Text} {xs : data'.Nodes} → Star DroppedBlock s t → Star NodeSpace t u → {v : Text} → IsBlock true u v xs → AfterBlock true v r → Blocks true b s r (data'.children xs)
block_of no_star ss c d = block ss c d
block_of (more (DroppedBlock.dropped us m b) ds) ss c d = dropped_block us m b (block_of ds ss c d)

unfoldable pub later_of : {s r : Text} → AfterChildren s r → AfterBlock true s r
later_of (after no_star ss) = no_more ss
later_of (after (more (DroppedBlock.dropped us m b) ds) ss) = dropped_later us m b (later_of (after ds ss))

unfoldable pub plain_of : {s r : Text} → BeforeChildren s r → AfterName true s r [] data'.no_children
plain_of (before ds (after bs ss)) = dropped_first ds (AfterName.blocks (no_block_of bs ss))

unfoldable pub braced_of : {s t u r : Text} {xs : data'.Nodes} → BeforeChildren s t → IsBlock true t u xs → AfterBlock true u r → AfterName true s r [] (data'.children xs)
braced_of (before ds (after bs ss)) c d = dropped_first ds (AfterName.blocks (block_of bs ss c d))

unfoldable pub first_entry : {s t u r : Text} {e : entry_data'.Entry} {es : List entry_data'.Entry} {k : data'.Children} → EntryLeading s t → IsEntry true t u e → AfterName true u r es k → AfterName true s r (e ∷ es) k
first_entry (leading ds n) i d = dropped_first ds (kept_entry n i d)

module _ (exact : Bool) (whole : Text) where
  unfoldable pub name_of : {s t r : Text} {es : List Entry} {k : data'.Children} → LaidEntries exact whole es s t → AfterName true t r [] k → AfterName true s r (map entry_data es) k
  name_of no_entry d = d
  name_of (an_entry (laid_entry l i x) es) d = first_entry l.is (item_of exact whole i) (name_of es d)

  unfoldable mutual
    pub node_of : {leading end trailing s r : Text} {span : SourceSpan} {x : Node} → LaidNode exact whole leading end trailing span x s r → IsNode true s r (node_data x)
    node_of (laid_node y n es k) = named (type_of exact whole y) (string_of exact whole n) (name_of es (children_of k))

    pub children_of : {before after s r : Text} {k : Children} → LaidChildren exact whole k before after s r → AfterName true s r [] (children_data k)
    children_of (laid_no_block b) = plain_of b.is
    children_of (a_block b d l) = braced_of b.is (braces (content_of d)) (later_of l.is)

    pub nodes_of : {s t r : Text} {xs : Nodes} → LaidNodes exact whole xs s t → Gap true t r → AreNodes true s r (nodes_data xs)
    nodes_of no_node g = last_gap g
    nodes_of (a_node l x e z ns) g = node_then l.is (node_of x) e.is (nodes_of ns g)

    pub content_of : {s r : Text} {d : Document} → LaidContent exact whole d s r → AreNodes true s r (document_data d)
    content_of (without_nodes g z) = last_gap g.is
    content_of (with_nodes ns g z) = nodes_of ns g.is

pub document_of : (exact : Bool) (d : Document) (t : Text) → LaidDocumentAs exact d t → IsDocument t (document_data d)
document_of exact d t (LaidDocumentAs.no_bom c) = IsDocumentIn.no_bom (content_of exact t c)
document_of exact d' t (LaidDocumentAs.after_bom {d = d} c) = subst (λ (z : data'.Nodes). IsDocument t z) (sym (bom_data d)) (IsDocumentIn.after_bom (content_of exact t c))

pub node_text_of : (exact : Bool) (x : Node) (t : Text) → LaidNodeTextAs exact t x → IsNodeText t (node_data x)
node_text_of exact x t (laid_node_text g n e ls z) = node_text g.is (node_of exact t n) e.is ls.is
