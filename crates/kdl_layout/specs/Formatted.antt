-- The result of layout if comments are removed: only formats and spellings change.
use Rattle.std.specs.Prelude.{◌≡◌, ℕ, ◌+◌, ◌<◌, ◌^◌, Bool, true, false, List, [], ◌∷◌, ◌++◌, map, Option, Some, None, option_map}
use Rattle.kdl_text.specs.Chars.{Text}
use Rattle.kdl_entry.specs.Tree.{Entry, unspelled, with_keep, autoformatted, cleared}
use Rattle.kdl_grammar.specs.Tree.{NodeFormat, DocumentFormat, Head, Node, node, Children, no_children, children, Document, document, Nodes, none, first}
use Rattle.kdl_parts.specs.Formats.{empty_node_format}
use Rattle.kdl_layout.specs.Config.{Settings, indentation}
use Rattle.kdl_layout.specs.Kept.{is_kept_format}
use Rattle.kdl_layout.specs.Plain.{plain_line}

-- the entry, flagged to keep its form if it has a format
abbrev pub with_keep_if : Bool → Entry → Entry
with_keep_if false e = e
with_keep_if true e = record e { format = option_map with_keep e.format }

-- the entry, laid out
abbrev pub formatted_entry : Settings → Entry → Entry
formatted_entry s e = autoformatted (with_keep_if s.entry_autoformate_keep e)

-- a format whose texts are empty represents one that is missing
abbrev pub or_empty : Option NodeFormat → NodeFormat
or_empty None = empty_node_format
or_empty (Some f) = f

-- the same for the texts around the nodes of a document
abbrev pub or_empty_document : Option DocumentFormat → DocumentFormat
or_empty_document None = record { leading = []; trailing = [] }
or_empty_document (Some f) = f

-- a newline if there are no nodes
abbrev pub newline_if_none : Nodes → Text
newline_if_none none = 10 ∷ []
newline_if_none (first n ns) = []

-- the texts around the nodes of a document
abbrev pub content_format : Nodes → DocumentFormat
content_format ns = record { leading = []; trailing = newline_if_none ns }

-- the same between braces: a newline after the `{`, and the indentation of the node before the `}`
abbrev pub in_braces : Text → DocumentFormat → DocumentFormat
in_braces before f = record { leading = 10 ∷ f.leading; trailing = f.trailing ++ before }

-- a node without its children
abbrev pub formatted_head : Settings → ℕ → Head → Head
formatted_head s level h = record h {
  ty = option_map unspelled h.ty;
  name = unspelled h.name;
  entries = map (formatted_entry s) h.entries;
  format = Some (plain_line (indentation s level));
}

-- the node, laid out at the level
abbrev mutual
  pub formatted_node : Settings → ℕ → Node → Node
  formatted_node s level (node h k) = node (formatted_head s level h) (formatted_children s level k)

  pub formatted_children : Settings → ℕ → Children → Children
  formatted_children s level no_children = no_children
  formatted_children s level (children (document f span ns)) =
      children (document (Some (in_braces (indentation s level) (content_format ns))) span (formatted_nodes s (level + 1) ns))

  pub formatted_nodes : Settings → ℕ → Nodes → Nodes
  formatted_nodes s level none = none
  formatted_nodes s level (first n ns) = first (formatted_node s level n) (formatted_nodes s level ns)

-- the document, laid out with its nodes at the level
abbrev pub formatted_document : Settings → ℕ → Document → Document
formatted_document s level (document f span ns) = document (Some (content_format ns)) span (formatted_nodes s level ns)

-- if the node is at the level, the nodes in each block inside it are at levels below 2 ^ 64
abbrev mutual
  pub NodeLevelsFit : ℕ → Node → Type 0
  NodeLevelsFit level (node h k) = ChildrenLevelsFit level k

  pub ChildrenLevelsFit : ℕ → Children → Type 0
  ChildrenLevelsFit level no_children = Unit {0}
  ChildrenLevelsFit level (children (document f span ns)) = (level + 1 < 2 ^ 64) × NodesLevelsFit (level + 1) ns

  pub NodesLevelsFit : ℕ → Nodes → Type 0
  NodesLevelsFit level none = Unit {0}
  NodesLevelsFit level (first n ns) = NodeLevelsFit level n × NodesLevelsFit level ns

-- the same, if the nodes of the document are at the level
abbrev pub DocumentLevelsFit : ℕ → Document → Type 0
DocumentLevelsFit level (document f span ns) = NodesLevelsFit level ns

-- what layout does not change: everything except formats and spellings
abbrev pub bare_head : Head → Head
bare_head h = record h { ty = option_map unspelled h.ty; name = unspelled h.name; entries = map cleared h.entries; format = None }

abbrev mutual
  pub bare_node : Node → Node
  bare_node (node h k) = node (bare_head h) (bare_children k)

  pub bare_children : Children → Children
  bare_children no_children = no_children
  bare_children (children d) = children (bare_document d)

  pub bare_document : Document → Document
  bare_document (document f span ns) = document None span (bare_nodes ns)

  pub bare_nodes : Nodes → Nodes
  bare_nodes none = none
  bare_nodes (first n ns) = first (bare_node n) (bare_nodes ns)

-- no entry is flagged to keep its form
abbrev pub EntriesKeepNone : List Entry → Type 0
EntriesKeepNone [] = Unit {0}
EntriesKeepNone (e ∷ es) = (is_kept_format e.format ≡ false) × EntriesKeepNone es

-- no entry at any depth is flagged to keep its form
abbrev mutual
  pub NodeKeepsNone : Node → Type 0
  NodeKeepsNone (node h k) = EntriesKeepNone h.entries × ChildrenKeepNone k

  pub ChildrenKeepNone : Children → Type 0
  ChildrenKeepNone no_children = Unit {0}
  ChildrenKeepNone (children d) = DocumentKeepsNone d

  pub DocumentKeepsNone : Document → Type 0
  DocumentKeepsNone (document f span ns) = NodesKeepNone ns

  pub NodesKeepNone : Nodes → Type 0
  NodesKeepNone none = Unit {0}
  NodesKeepNone (first n ns) = NodeKeepsNone n × NodesKeepNone ns
