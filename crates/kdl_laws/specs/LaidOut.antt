-- What layout makes of a text.
use Rattle.std.specs.Prelude.{◌≡◌, ℕ, Bool}
use Rattle.kdl_text.specs.Chars.{Text}
use Rattle.kdl_grammar.specs.Laid.{LaidDocument}
use Rattle.kdl_grammar.specs.Print.{print_document}
use Rattle.kdl_grammar.specs.Tree.{Document}
use Rattle.kdl_layout.specs.Comments.{CommentsStay}
use Rattle.kdl_layout.specs.Config.{Keeping, defaults}
use Rattle.kdl_layout.specs.OneLine.{IsLaidDocument}
use Rattle.kdl_layout.specs.WithComments.{IsFormattedDocument}

-- out is what the document of the text prints after layout; the comments are kept, and a second layout changes nothing
pub record IsLaidOut (text out : Text) : Type 0 where
  pub before : Document
  pub after : Document
  pub laid : LaidDocument before text
  pub formatted : IsFormattedDocument defaults 0 before after
  pub prints : out ≡ print_document after 0
  pub comments : CommentsStay before out
  pub again : (y : Document) → IsFormattedDocument defaults 0 after y → y ≡ after

-- the same if blank lines are kept, at most a number of them between two nodes or comments, and what `keep` keeps inside
-- nodes, blocks stay on one line if `line` is true, and no newline is in place of nodes if `compact` is true
pub record IsSpacedOut (keep : Keeping) (line compact : Bool) (number : ℕ) (text out : Text) : Type 0 where
  pub before : Document
  pub after : Document
  pub laid : LaidDocument before text
  pub formatted : IsLaidDocument keep line compact number defaults 0 before after
  pub prints : out ≡ print_document after 0
  pub comments : CommentsStay before out
  pub again : (y : Document) → IsLaidDocument keep line compact number defaults 0 after y → y ≡ after
