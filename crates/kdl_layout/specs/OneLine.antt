-- Blocks that stay on one line.
use Rattle.std.specs.Prelude.{◌≡◌, ℕ, zero, suc, Bool, true, false, ◌&&◌, ◌==◌, if◌then◌else◌, List, [], ◌∷◌, Option, Some, None}
use Rattle.std.specs.List.{list_all}
use Rattle.kdl_text.specs.Chars.{Text}
use Rattle.kdl_entry.specs.Tree.{Identifier, Entry, EntryFormat}
use Rattle.kdl_grammar.specs.Tree.{NodeFormat, DocumentFormat, Head, Node, node, Children, no_children, children, Document, document, Nodes, none, first}
use Rattle.kdl_parts.specs.Formats.{empty_node_format}
use Rattle.kdl_layout.specs.Config.{Settings, Keeping}
use Rattle.kdl_layout.specs.Formatted.{or_empty}
use Rattle.kdl_layout.specs.Plain.{no_newline, only_spaces}
use Rattle.kdl_layout.specs.Respelled.{IsSpelledDocument, IsSpelledNode}
use Rattle.kdl_layout.specs.declared.blank.Before.{Before}

-- a name whose spelling, if it has one, contains no newline
abbrev pub spelling_on_line : Option Text → Bool
spelling_on_line None = true
spelling_on_line (Some t) = no_newline t

abbrev pub name_on_line : Identifier → Bool
name_on_line i = spelling_on_line i.repr

-- the same for a key or a type, if there is one
abbrev pub maybe_on_line : Option Identifier → Bool
maybe_on_line None = true
maybe_on_line (Some i) = name_on_line i

-- only spaces around the parts of an entry, and no newline in the spelling of its value
abbrev pub form_on_line : EntryFormat → Bool
form_on_line f =
    only_spaces f.leading && only_spaces f.trailing && only_spaces f.after_ty && only_spaces f.before_ty_name && only_spaces f.after_ty_name && only_spaces f.after_key && only_spaces f.after_eq
    && no_newline f.value_repr

-- an entry without a format prints its value, which contains no newline
abbrev pub maybe_form_on_line : Option EntryFormat → Bool
maybe_form_on_line None = true
maybe_form_on_line (Some f) = form_on_line f

abbrev pub entry_on_line : Entry → Bool
entry_on_line e = maybe_on_line e.name && maybe_on_line e.ty && maybe_form_on_line e.format

-- a `;` ends the node, or nothing if it is the last one
abbrev pub end_on_line : Bool → Text → Bool
end_on_line last [] = last
end_on_line last (c ∷ s) = list_all (λ d. d == 59) (c ∷ s)

-- only spaces around the parts of a node
abbrev pub line_on_line : Bool → NodeFormat → Bool
line_on_line last f =
    only_spaces f.leading && only_spaces f.before_ty_name && only_spaces f.after_ty_name && only_spaces f.after_ty && only_spaces f.before_terminator && only_spaces f.trailing && end_on_line last f.terminator

-- a node, but for its block
abbrev pub head_on_line : Bool → Head → Bool
head_on_line last h = maybe_on_line h.ty && name_on_line h.name && list_all entry_on_line h.entries && line_on_line last (or_empty h.format)

-- whether no node follows
abbrev pub is_end : Nodes → Bool
is_end none = true
is_end (first n ns) = false

-- a node that has no block
abbrev pub node_on_line : Bool → Node → Bool
node_on_line last (node h no_children) = head_on_line last h
node_on_line last (node h (children d)) = false

-- each of the nodes
abbrev pub nodes_on_line : Nodes → Bool
nodes_on_line none = true
nodes_on_line (first n ns) = node_on_line (is_end ns) n && nodes_on_line ns

-- only spaces after the `{` and before the `}`; without a format, newlines come there
abbrev pub braces_on_line : Option DocumentFormat → Bool
braces_on_line None = false
braces_on_line (Some f) = only_spaces f.leading && only_spaces f.trailing

-- a block that is on one line: it prints no newline, no comment, no slashdashed piece and no line continuation, and its
-- nodes have no blocks
abbrev pub is_on_one_line : Document → Bool
is_on_one_line (document f span ns) = braces_on_line f && nodes_on_line ns

-- the texts around a node on the line of its block: a space before it and a `;` after it, or a space after the last one
abbrev pub node_in_line : Bool → NodeFormat
node_in_line last = record empty_node_format {
  leading = 32 ∷ [];
  before_children = 32 ∷ [];
  before_terminator = if last then 32 ∷ [] else [];
  terminator = if last then [] else 59 ∷ [];
}

-- the texts around the nodes of a block: the nodes have the spaces
abbrev pub braces_in_line : DocumentFormat
braces_in_line = record { leading = []; trailing = [] }

-- the same of so many nodes
abbrev pub formats_in_line : ℕ → List NodeFormat
formats_in_line zero = []
formats_in_line (suc n) = node_in_line (n == 0) ∷ formats_in_line n

-- nodes with these texts around them
abbrev pub nodes_in_line : Nodes → Nodes
nodes_in_line none = none
nodes_in_line (first (node h k) ns) = first (node (record h { format = Some (node_in_line (is_end ns)) }) k) (nodes_in_line ns)

-- a block on one line
abbrev pub in_one_line : Document → Document
in_one_line (document f span ns) = document (Some braces_in_line) span (nodes_in_line ns)

-- the second node, laid out from the first one, with each block on one line that is on one line in the first one, if
-- `keep` is true
abbrev mutual
  pub one_lined_node : Bool → Node → Node → Node
  one_lined_node keep (node h k) (node h' k') = node h' (one_lined_children keep k k')

  pub one_lined_children : Bool → Children → Children → Children
  one_lined_children keep no_children k' = k'
  one_lined_children keep (children d) no_children = no_children
  one_lined_children keep (children d) (children d') = children (if keep && is_on_one_line d then in_one_line d' else one_lined_document keep d d')

  pub one_lined_document : Bool → Document → Document → Document
  one_lined_document keep (document f span ns) (document f' span' ns') = document f' span' (one_lined_nodes keep ns ns')

  pub one_lined_nodes : Bool → Nodes → Nodes → Nodes
  one_lined_nodes keep none ns' = ns'
  one_lined_nodes keep (first n ns) none = none
  one_lined_nodes keep (first n ns) (first n' ns') = first (one_lined_node keep n n') (one_lined_nodes keep ns ns')

-- the second node is the first one, laid out at the level with blank lines, and with what `keep` keeps inside nodes; each
-- block that is on one line stays there if `line` is true, and no newline is in place of nodes if `compact` is true
abbrev pub IsLaidNode : Keeping → Bool → Bool → ℕ → Settings → ℕ → Before → Node → Node → Type 0
IsLaidNode keep line compact number s level b n n' = (r : Node) × IsSpelledNode keep compact number s level b n r × (n' ≡ one_lined_node line n r)

-- the same for a document
abbrev pub IsLaidDocument : Keeping → Bool → Bool → ℕ → Settings → ℕ → Document → Document → Type 0
IsLaidDocument keep line compact number s level d d' = (r : Document) × IsSpelledDocument keep compact number s level d r × (d' ≡ one_lined_document line d r)
