-- The compact text of the data of documents and nodes: the canonical text, but for blocks and documents without nodes.
use Rattle.std.specs.Prelude.{ℕ, ◌+◌, [], ◌∷◌, ◌++◌}
use Rattle.std.specs.List.{repeat}
use Rattle.kdl_text.specs.Chars.{Text}
use Rattle.kdl_value.specs.Spelled.{spelled}
use Rattle.kdl_grammar.specs.Data.{Node, node, Children, no_children, children, Nodes, none, first}
use Rattle.kdl_layout.specs.Canonical.{canonical_entries, canonical_type}

-- the indent once for each level, `(type)`, the name, the entries, the children between braces, a newline; a block without
-- nodes is `{}`
abbrev mutual
  pub compact_node : Text → ℕ → Node → Text
  compact_node indent level (node ty name es k) = repeat level indent ++ canonical_type ty ++ spelled name ++ canonical_entries es ++ compact_children indent level k ++ (10 ∷ [])

  pub compact_children : Text → ℕ → Children → Text
  compact_children indent level no_children = []
  compact_children indent level (children none) = 32 ∷ 123 ∷ 125 ∷ []
  compact_children indent level (children (first n ns)) = (32 ∷ 123 ∷ 10 ∷ []) ++ compact_nodes indent (level + 1) (first n ns) ++ repeat level indent ++ (125 ∷ [])

  pub compact_nodes : Text → ℕ → Nodes → Text
  compact_nodes indent level none = []
  compact_nodes indent level (first n ns) = compact_node indent level n ++ compact_nodes indent level ns
