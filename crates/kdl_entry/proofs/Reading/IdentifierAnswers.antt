-- What an identifier laid in a text says of the grammar.
use Rattle.std.proofs.Common.{◌≡◌, true}
use Rattle.kdl_text.specs.Chars.{Text}
use Rattle.kdl_entry.specs.Entries.{IsIdentifierText}
use Rattle.kdl_entry.specs.Laid.{LaidIdentifierText}
use Rattle.kdl_entry.specs.Print.{print_identifier}
use Rattle.kdl_entry.specs.Tree.{Identifier}
use Rattle.kdl_entry.proofs.Laying.TextLaws.{laid_identifier_is_derived}
use Rattle.kdl_entry.proofs.Laying.TextUnique.{one_identifier}

pub found : (t : Text) (i : Identifier) → LaidIdentifierText i t → IsIdentifierText t i.value
found t i l = (laid_identifier_is_derived true t i l).0

pub only : (t : Text) (i : Identifier) → LaidIdentifierText i t → (v : Text) → IsIdentifierText t v → v ≡ i.value
only t i l v d = one_identifier true t v i.value d (found t i l)

pub prints : (t : Text) (i : Identifier) → LaidIdentifierText i t → print_identifier i ≡ t
prints t i l = (laid_identifier_is_derived true t i l).1
