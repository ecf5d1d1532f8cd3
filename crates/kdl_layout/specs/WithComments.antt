-- The result of layout if no blank lines are kept, with the comments that it keeps.
use Rattle.std.specs.Prelude.{ℕ, false}
use Rattle.kdl_grammar.specs.Tree.{Node, Document}
use Rattle.kdl_layout.specs.Blank.{at_start}
use Rattle.kdl_layout.specs.Config.{Settings}
use Rattle.kdl_layout.specs.Spaced.{IsSpacedNode, IsSpacedDocument}
pub use Rattle.kdl_layout.specs.Parts.{has_block}

-- the second document is the first one, laid out with its nodes at the level
abbrev pub IsFormattedDocument : Settings → ℕ → Document → Document → Type 0
IsFormattedDocument s level d d' = IsSpacedDocument false 0 s level d d'

abbrev pub IsFormattedNode : Settings → ℕ → Node → Node → Type 0
IsFormattedNode s level n n' = IsSpacedNode false 0 s level at_start n n'
