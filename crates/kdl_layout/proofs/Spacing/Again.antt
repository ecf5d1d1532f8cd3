-- What is laid out without spellings is the same once it is laid out again, however many blank lines are kept.
use Rattle.kdl_layout.proofs.Common.{◌≡◌, ℕ, Bool, true, false, list_all, is_space, Node, Document, at_start, Settings, NodeKeepsNone, DocumentKeepsNone, IsSpacedNode, IsSpacedDocument}
use Rattle.kdl_layout.proofs.Respelling.Again.{document_again, node_again}
use Rattle.kdl_layout.proofs.Respelling.Off.{document_itself, node_itself}
use Rattle.kdl_layout.proofs.Respelling.Spelled.{spelled_document, spelled_node}
use Rattle.kdl_layout.specs.Config.{nothing}
use Rattle.kdl_layout.proofs.Spacing.TextsAgain.{start_again}

pub document_stays : (compact : Bool) (number : ℕ) (s : Settings) (level : ℕ) → list_all is_space s.indent ≡ true → s.entry_autoformate_keep ≡ false → (d x y : Document)
    → IsSpacedDocument compact number s level d x → DocumentKeepsNone d → IsSpacedDocument compact number s level x y → y ≡ x
document_stays compact number s level ok flag d x y f none g =
    document_again s ok flag nothing compact number level d x y (spelled_document compact number s nothing level d x x f (document_itself compact number s level d x f)) none (spelled_document compact number s nothing level x y y g (document_itself compact number s level x y g))

pub node_stays : (compact : Bool) (number : ℕ) (s : Settings) (level : ℕ) → list_all is_space s.indent ≡ true → s.entry_autoformate_keep ≡ false → (n x y : Node)
    → IsSpacedNode compact number s level at_start n x → NodeKeepsNone n → IsSpacedNode compact number s level at_start x y → y ≡ x
node_stays compact number s level ok flag n x y f none g =
    node_again s ok flag nothing compact number (spelled_node compact number s nothing level at_start n x x f (node_itself compact number s level at_start n x f)) none (spelled_node compact number s nothing level at_start x y y g (node_itself compact number s level at_start x y g)) (start_again number)
