-- What may be in the places of a node.
use Rattle.std.specs.Prelude.{true}
use Rattle.kdl_text.specs.Chars.{Text, Star}
use Rattle.kdl_text.specs.Trivia.{NodeSpace, Slashdash}
use Rattle.kdl_entry.specs.Places.{DroppedEntry}
use Rattle.kdl_grammar.specs.Data.{Nodes}
use Rattle.kdl_grammar.specs.Grammar.{IsBlock}

-- node-spaces, a slashdash, and the block that it drops
pub data DroppedBlock : Text → Text → Type 0 where
  dropped : {s t u r : Text} {xs : Nodes} → Star NodeSpace s t → Slashdash t u → IsBlock true u r xs → DroppedBlock s r

-- after a node's block: slashdashed blocks, and node-spaces
pub data AfterChildren : Text → Text → Type 0 where
  after : {s t r : Text} → Star DroppedBlock s t → Star NodeSpace t r → AfterChildren s r

-- after a name or the last entry: slashdashed entries, and then the same
pub data BeforeChildren : Text → Text → Type 0 where
  before : {s t r : Text} → Star DroppedEntry s t → AfterChildren t r → BeforeChildren s r
