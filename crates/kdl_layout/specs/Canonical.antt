-- The canonical text of the data of documents and nodes, whatever their form.
use Rattle.std.specs.Prelude.{◌≡◌, ℕ, ◌+◌, [], ◌∷◌, ◌++◌, List, Option, Some, None}
use Rattle.std.specs.List.{repeat}
use Rattle.kdl_text.specs.Chars.{Text}
use Rattle.kdl_value.specs.Print.{print_value}
use Rattle.kdl_value.specs.Spelled.{spelled}
use Rattle.kdl_entry.specs.Data.{Entry}
use Rattle.kdl_grammar.specs.Data.{Node, node, Children, no_children, children, Nodes, none, first}
use Rattle.kdl_grammar.specs.Grammar.{IsDocument, IsNodeText}
use Rattle.kdl_layout.specs.Config.{without_comments}
use Rattle.kdl_layout.specs.WellFormed.{IsWellFormedNode, AreWellFormed}

-- `(type)`
abbrev pub canonical_type : Option Text → Text
canonical_type None = []
canonical_type (Some s) = 40 ∷ spelled s ++ (41 ∷ [])

-- `key=`
abbrev pub canonical_key : Option Text → Text
canonical_key None = []
canonical_key (Some s) = spelled s ++ (61 ∷ [])

-- each entry after a space, as `key=(type)value`
abbrev pub canonical_entries : List Entry → Text
canonical_entries [] = []
canonical_entries (e ∷ es) = (32 ∷ canonical_key e.key ++ canonical_type e.ty ++ print_value e.value) ++ canonical_entries es

-- a newline if there are no nodes
abbrev pub newline_if_none : Nodes → Text
newline_if_none none = 10 ∷ []
newline_if_none (first n ns) = []

-- the indent once for each level, `(type)`, the name, the entries, the children between braces, a newline
abbrev mutual
  pub canonical_node : Text → ℕ → Node → Text
  canonical_node indent level (node ty name es k) = repeat level indent ++ canonical_type ty ++ spelled name ++ canonical_entries es ++ canonical_children indent level k ++ (10 ∷ [])

  pub canonical_children : Text → ℕ → Children → Text
  canonical_children indent level no_children = []
  canonical_children indent level (children ns) = (32 ∷ 123 ∷ 10 ∷ []) ++ (canonical_nodes indent (level + 1) ns ++ newline_if_none ns) ++ repeat level indent ++ (125 ∷ [])

  pub canonical_nodes : Text → ℕ → Nodes → Text
  canonical_nodes indent level none = []
  canonical_nodes indent level (first n ns) = canonical_node indent level n ++ canonical_nodes indent level ns

-- the canonical text of a document or of a block: its nodes, or a newline if there are none
abbrev pub canonical : Text → ℕ → Nodes → Text
canonical indent level ns = canonical_nodes indent level ns ++ newline_if_none ns

-- the canonical text from level 0 on, with four spaces for each level
abbrev pub canonical_text : Nodes → Text
canonical_text ns = canonical without_comments.indent 0 ns

-- the canonical text of the data is a document with these data only, and no other data have the same canonical text
pub record Canonical (indent : Text) (level : ℕ) (x : Nodes) : Type 0 where
  pub derived : IsDocument (canonical indent level x) x
  pub alone : (y : Nodes) → IsDocument (canonical indent level x) y → y ≡ x
  pub apart : (y : Nodes) → AreWellFormed y → canonical indent level y ≡ canonical indent level x → y ≡ x

-- the same for a node
pub record CanonicalNode (indent : Text) (level : ℕ) (x : Node) : Type 0 where
  pub derived : IsNodeText (canonical_node indent level x) x
  pub alone : (y : Node) → IsNodeText (canonical_node indent level x) y → y ≡ x
  pub apart : (y : Node) → IsWellFormedNode y → canonical_node indent level y ≡ canonical_node indent level x → y ≡ x
