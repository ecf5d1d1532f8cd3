-- What the calls that lay out promise of a document d that is e afterwards, or of a node n that is m afterwards, with settings s, where the call returned r.
use Rattle.std.specs.Prelude.{◌≡◌, false, true, OnOk, Result}
use Rattle.kdl_grammar.specs.Data as data'
use Rattle.kdl_grammar.specs.Grammar.{IsDocument}
use Rattle.kdl_layout.specs.Canonical.{Canonical, CanonicalNode, canonical, canonical_node}
use Rattle.kdl_layout.specs.Comments.{AllCommentsStay, CommentsStay}
use Rattle.kdl_layout.specs.Config.{IndentsBySpaces, IsPlain, Settings, keeping, keeps_texts, settings}
use Rattle.kdl_layout.specs.Formatted.{DocumentLevelsFit, NodeLevelsFit}
use Rattle.kdl.specs.Finds.{FindsSame, NodeFindsSame}
use Rattle.kdl.specs.Layout.{DocumentKeepsNoForm, DocumentKeepsReading, DocumentLaidOut, NodeAllCommentsStay, NodeCommentsStay, NodeKeepsNoForm, NodeKeepsReading, NodeLaidOut, document_bare, node_bare, plain_document, plain_node}
use Rattle.kdl.specs.ReadsBack.{DocumentReadsBack, ReadsAs}
use Rattle.kdl.specs.Tree.{document_prints, document_says, document_tree, node_prints, node_says, node_tree}
use Rattle.kdl_layout.specs.declared.config.Layout.{Layout}
use Rattle.kdl.specs.declared.document.KdlDocument.{KdlDocument}
use Rattle.kdl.specs.declared.node.KdlNode.{KdlNode}

-- what each layout keeps of a document
pub record KeepsDocument {A E : Type 0} (s : Settings) (d e : KdlDocument) (r : Result A E) : Type 0 where
  -- the data are unchanged, also with an error; so is what look-ups find, and all but formats and spellings
  pub «data» : document_says e ≡ document_says d
  pub finds : FindsSame d e
  pub kept : document_bare e ≡ document_bare d
  -- each level is one that a machine can count
  pub levels : OnOk r (DocumentLevelsFit s.indent_level (document_tree d))
  -- no entry is flagged to keep its form
  pub keeps_none : OnOk r (DocumentKeepsNoForm e)

-- what is read in the printed text, if the indent contains only spaces
pub record RereadsDocument {A E : Type 0} (s : Settings) (d e : KdlDocument) (r : Result A E) : Type 0 where
  -- a document that reads back still does, also with an error
  pub reads_back : DocumentKeepsReading s d → DocumentReadsBack d → DocumentReadsBack e
  -- the text is a document with the same data
  pub derived : s.entry_autoformate_keep ≡ false → OnOk r (DocumentKeepsNoForm d → IsDocument (document_prints e) (document_says d))
  -- the comments stay
  pub comments : s.entry_autoformate_keep ≡ false → s.no_comments ≡ false → OnOk r (DocumentKeepsNoForm d → CommentsStay (document_tree d) (document_prints e))
  -- the canonical text is a document with these data, and no other
  pub reads : OnOk r (Canonical s.indent s.indent_level (document_says d))

-- what layout makes of a document if it keeps no blank lines, no spellings, no comments inside, and no blocks on one line
pub record FormatsDocument {A E : Type 0} (s : Settings) (d e : KdlDocument) (r : Result A E) : Type 0 where
  -- with comments
  pub formatted : OnOk r (DocumentLaidOut s d e)
  -- without comments: the document, and its text
  pub plain : s.no_comments ≡ true → OnOk r (document_tree e ≡ plain_document s d)
  pub prints : IsPlain s → OnOk r (DocumentKeepsNoForm d → document_prints e ≡ canonical s.indent s.indent_level (document_says d))

-- if the layout keeps comments inside entries and types, or spellings, and removes none, all comments stay
abbrev pub KeepsComments : {A E : Type 0} → Layout → KdlDocument → KdlDocument → Result A E → Type 0
KeepsComments l d e r =
    keeps_texts (keeping l) ≡ true → l.config.no_comments ≡ false → IndentsBySpaces (settings l.config) → l.config.entry_autoformate_keep ≡ false
    → OnOk r (DocumentKeepsNoForm d → AllCommentsStay (document_tree d) (document_prints e))

abbrev pub NodeKeepsComments : {A E : Type 0} → Layout → KdlNode → KdlNode → Result A E → Type 0
NodeKeepsComments l n m r =
    keeps_texts (keeping l) ≡ true → l.config.no_comments ≡ false → IndentsBySpaces (settings l.config) → l.config.entry_autoformate_keep ≡ false
    → OnOk r (NodeKeepsNoForm n → NodeAllCommentsStay (node_tree n) (node_prints m))

-- the same of a node
pub record KeepsNode {A E : Type 0} (s : Settings) (n m : KdlNode) (r : Result A E) : Type 0 where
  pub «data» : node_says m ≡ node_says n
  pub finds : NodeFindsSame n m
  pub kept : node_bare m ≡ node_bare n
  pub levels : OnOk r (NodeLevelsFit s.indent_level (node_tree n))
  pub keeps_none : OnOk r (NodeKeepsNoForm m)

-- a text in which a node reads back still has it; the node alone prints a document of that one node
pub record RereadsNode {A E : Type 0} (s : Settings) (n m : KdlNode) (r : Result A E) : Type 0 where
  pub reads_back : NodeKeepsReading s n → ReadsAs n m
  pub derived : s.entry_autoformate_keep ≡ false → OnOk r (NodeKeepsNoForm n → IsDocument (node_prints m) (data'.first (node_says n) data'.none))
  pub comments : s.entry_autoformate_keep ≡ false → s.no_comments ≡ false → OnOk r (NodeKeepsNoForm n → NodeCommentsStay (node_tree n) (node_prints m))
  pub reads : OnOk r (CanonicalNode s.indent s.indent_level (node_says n))

pub record FormatsNode {A E : Type 0} (s : Settings) (n m : KdlNode) (r : Result A E) : Type 0 where
  pub formatted : OnOk r (NodeLaidOut s n m)
  pub plain : s.no_comments ≡ true → OnOk r (node_tree m ≡ plain_node s n)
  pub prints : IsPlain s → OnOk r (NodeKeepsNoForm n → node_prints m ≡ canonical_node s.indent s.indent_level (node_says n))
