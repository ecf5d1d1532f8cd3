-- What the functions do that lay out texts, by the layout in memory.
use Rattle.std.specs.Prelude.{◌≡◌, ℕ, ◌++◌, Bool, Option, unwrap_or}
use Rattle.kdl_text.specs.Chars.{Text}
use Rattle.kdl_grammar.specs.Tree.{NodeFormat, DocumentFormat, Nodes}
use Rattle.kdl_layout.specs.Blank.{empty_lines}
use Rattle.kdl_layout.specs.Config.{indentation, settings}
use Rattle.kdl_layout.specs.Items.{Place}
use Rattle.kdl_layout.specs.Kept.{last_place}
use Rattle.kdl_layout.specs.Spaced.{SpacedLines, IsSpacedLine, IsSpacedContent, PassesFormat, PassesNodes}
use Rattle.kdl_layout.specs.declared.blank.Before.{Before}
use Rattle.kdl_layout.specs.declared.config.Layout.{Layout}

-- what is kept of a text between nodes at a level
abbrev pub KeepsLines : Layout → ℕ → Before → Text → Text → Before → Type 0
KeepsLines l = SpacedLines l.blank_lines (settings l.config)

-- the same, each line after the indentation of the level
abbrev pub KeepsLinesAfter : Layout → Text → Before → Text → Text → Before → Type 0
KeepsLinesAfter l margin b place t b' = (level : ℕ) → margin ≡ indentation (settings l.config) level → KeepsLines l level b place t b'

-- what is kept of the text before a node, and then the blank lines before the node
abbrev pub KeepsBeforeNode : Layout → Text → Before → Text → Text → Type 0
KeepsBeforeNode l margin b place t =
    (level : ℕ) → margin ≡ indentation (settings l.config) level → (lines : Text) × (at_node : Before) × KeepsLines l level b place lines at_node × (t ≡ lines ++ empty_lines l.blank_lines at_node)

-- what comes before the thing after a node with the format
abbrev pub PassesLine : Layout → NodeFormat → Before → Type 0
PassesLine l = PassesFormat l.blank_lines (settings l.config)

-- the second format has the texts around the parts of a node, whose first format is laid out after the indentation of
-- its level, and what comes before the thing after the node
abbrev pub SetsLine : NodeFormat → Option NodeFormat → Layout → Text → Place → Before → Before → Type 0
SetsLine f g l margin last b next =
    (level : ℕ) (has_block : Bool) → margin ≡ indentation (settings l.config) level → last ≡ last_place has_block → IsSpacedLine l.blank_lines (settings l.config) level has_block b f g × PassesLine l f next

-- what comes before the text after the nodes, or nothing if there are no nodes
abbrev pub EndsNodes : Layout → Option Before → Nodes → Type 0
EndsNodes l last ns = (b : Before) → PassesNodes l.blank_lines (settings l.config) b ns (unwrap_or last b)

-- the second format has the texts around the nodes of a document at a level
abbrev pub SetsContent : Layout → ℕ → Nodes → DocumentFormat → Before → Option DocumentFormat → Type 0
SetsContent l = IsSpacedContent l.compact_empty l.blank_lines (settings l.config)
