-- The result of layout: the comments that stay, and at most a number of blank lines before each thing on its own line.
use Rattle.std.specs.Prelude.{◌≡◌, ℕ, zero, suc, ◌+◌, ◌<◌, ◌^◌, Bool, List, ◌++◌, Option, Some, option_map}
use Rattle.kdl_text.specs.Chars.{Text}
use Rattle.kdl_entry.specs.Tree.{unspelled}
use Rattle.kdl_grammar.specs.Tree.{NodeFormat, DocumentFormat, Head, Node, node, Children, no_children, children, Document, document, Nodes, none, first}
use Rattle.kdl_layout.specs.Items.{Item, GapItems}
use Rattle.kdl_layout.specs.Blank.{at_start, past_items, past_node, empty_lines, spaced_lines}
use Rattle.kdl_layout.specs.Config.{Settings, indentation}
use Rattle.kdl_layout.specs.Formatted.{or_empty, or_empty_document}
use Rattle.kdl_layout.specs.Kept.{WrittenUnless, KeptTail, KeptBeforeBlock, last_place, KeptEnd, without_bom}
use Rattle.kdl_layout.specs.Parts.{AreFormattedEntries, NodeTexts, line_of, content_of, block_of, has_block}
use Rattle.kdl_layout.specs.declared.blank.Before.{Before}

-- what comes before the thing after a text between nodes; a text that can't be in the place changes nothing
pub data Passes (left_out : Bool) (b : Before) (place : Text) : Before → Type 0 where
  items : {is : List Item} → GapItems place is → Passes left_out b place (past_items left_out b place is)
  no_gap : ((is : List Item) → GapItems place is → ⊥) → Passes left_out b place b

-- if no blank lines are kept, nothing is counted
abbrev pub PassesText : ℕ → Settings → Before → Text → Before → Type 0
PassesText zero s b place b' = Unit {0}
PassesText (suc number) s b place b' = Passes s.no_comments b place b'

-- what is kept of a text between nodes at a level: a line for each item, after the blank lines before it
abbrev pub SpacedLines : ℕ → Settings → ℕ → Before → Text → Text → Before → Type 0
SpacedLines number s level b place t b' = WrittenUnless s.no_comments (GapItems place) (spaced_lines number (indentation s level) b place) t × PassesText number s b place b'

-- what is kept of the texts around the parts of a node, and the blank lines before the node
pub record SpacesTexts (number : ℕ) (s : Settings) (level : ℕ) (has_block : Bool) (b : Before) (f : NodeFormat) (k : NodeTexts) : Type 0 where
  pub lines : Text
  pub at_node : Before
  pub after_it : Before
  pub leading : SpacedLines number s level b f.leading lines at_node
  pub before : k.before ≡ lines ++ empty_lines number at_node
  pub before_block : KeptBeforeBlock s has_block f.before_children k.before_block
  pub last : KeptTail s (last_place has_block) f.before_terminator k.last
  pub end : KeptEnd s.no_comments f.terminator k.space k.comment
  pub following : SpacedLines number s level (past_node f.terminator) f.trailing k.following after_it

-- the texts around the parts of a node on its own line, at a level
abbrev pub IsSpacedLine : ℕ → Settings → ℕ → Bool → Before → NodeFormat → Option NodeFormat → Type 0
IsSpacedLine number s level has_block b f g = (k : NodeTexts) × SpacesTexts number s level has_block b f k × (g ≡ Some (line_of (indentation s level) k))

-- a node without its children
pub record IsSpacedHead (number : ℕ) (s : Settings) (level : ℕ) (has_block : Bool) (b : Before) (h h' : Head) : Type 0 where
  pub ty : h'.ty ≡ option_map unspelled h.ty
  pub name : h'.name ≡ unspelled h.name
  pub entries : AreFormattedEntries s h.entries h'.entries
  pub format : IsSpacedLine number s level has_block b (or_empty h.format) h'.format
  pub span : h'.span ≡ h.span

-- what comes before the thing after a node
abbrev pub PassesFormat : ℕ → Settings → NodeFormat → Before → Type 0
PassesFormat number s f b = PassesText number s (past_node f.terminator) f.trailing b

abbrev pub PassesNode : ℕ → Settings → Node → Before → Type 0
PassesNode number s (node h k) b = PassesFormat number s (or_empty h.format) b

-- what comes before the thing after all nodes
abbrev pub PassesNodes : ℕ → Settings → Before → Nodes → Before → Type 0
PassesNodes number s b none e = e ≡ b
PassesNodes number s b (first n none) e = PassesNode number s n e
PassesNodes number s b (first n (first m ns)) e = PassesNodes number s b (first m ns) e

-- what is kept of the texts around the nodes of a document, what comes before the first node, and what comes before the
-- text after the last one
pub record SpacesContent (number : ℕ) (s : Settings) (level : ℕ) (ns : Nodes) (f : DocumentFormat) (b : Before) (before following : Text) : Type 0 where
  pub last : Before
  pub after_it : Before
  pub leading : SpacedLines number s level at_start (without_bom f.leading) before b
  pub passes : PassesNodes number s b ns last
  pub trailing : SpacedLines number s level last f.trailing following after_it

-- the second texts are those around the nodes of a document that is laid out at a level, without a newline in place of
-- nodes if `compact` is true
abbrev pub IsSpacedContent : Bool → ℕ → Settings → ℕ → Nodes → DocumentFormat → Before → Option DocumentFormat → Type 0
IsSpacedContent compact number s level ns f b g = (before following : Text) × SpacesContent number s level ns f b before following × (g ≡ Some (content_of compact ns before following))

-- the same between the braces of a node at the level
abbrev pub IsSpacedBraced : Bool → ℕ → Settings → ℕ → Nodes → DocumentFormat → Before → Option DocumentFormat → Type 0
IsSpacedBraced compact number s level ns f b g = (before following : Text) × SpacesContent number s (level + 1) ns f b before following × (g ≡ Some (block_of compact (indentation s level) ns before following))

-- the second node is the first one, laid out at the level, after the blank lines before it
abbrev mutual
  pub IsSpacedNode : Bool → ℕ → Settings → ℕ → Before → Node → Node → Type 0
  IsSpacedNode compact number s level b (node h k) (node h' k') = IsSpacedHead number s level (has_block k) b h h' × IsSpacedChildren compact number s level k k'

  pub IsSpacedChildren : Bool → ℕ → Settings → ℕ → Children → Children → Type 0
  IsSpacedChildren compact number s level no_children no_children = Unit {0}
  IsSpacedChildren compact number s level (children (document f span ns)) (children (document f' span' ns')) =
      (b : Before) × IsSpacedBraced compact number s level ns (or_empty_document f) b f' × (span' ≡ span) × AreSpacedNodes compact number s (level + 1) b ns ns' × (level + 1 < 2 ^ 64)
  IsSpacedChildren compact number s level _ _ = ⊥

  pub AreSpacedNodes : Bool → ℕ → Settings → ℕ → Before → Nodes → Nodes → Type 0
  AreSpacedNodes compact number s level b none none = Unit {0}
  AreSpacedNodes compact number s level b (first n ns) (first n' ns') =
      (b' : Before) × IsSpacedNode compact number s level b n n' × PassesNode number s n b' × AreSpacedNodes compact number s level b' ns ns'
  AreSpacedNodes compact number s level b _ _ = ⊥

-- the second document is the first one, laid out with its nodes at the level
abbrev pub IsSpacedDocument : Bool → ℕ → Settings → ℕ → Document → Document → Type 0
IsSpacedDocument compact number s level (document f span ns) (document f' span' ns') =
    (b : Before) × IsSpacedContent compact number s level ns (or_empty_document f) b f' × (span' ≡ span) × AreSpacedNodes compact number s level b ns ns'
