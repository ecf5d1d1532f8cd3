-- What is proved of the written grammar of identifiers and entries.
use Rattle.std.specs.Prelude.{◌≡◌, Bool}
use Rattle.kdl_text.specs.Chars.{Text}
use Rattle.kdl_entry.specs.Data as data'
use Rattle.kdl_entry.specs.Entries.{IsIdentifierText, IsIdentifierTextIn, IsEntryText, IsEntryTextIn}
use Rattle.kdl_entry.specs.Laid.{LaidIdentifierText, LaidIdentifierTextAs, LaidEntryText, LaidEntryTextAs}
use Rattle.kdl_entry.specs.Print.{print_identifier, print_entry}
use Rattle.kdl_entry.specs.Tree.{Identifier, Entry, entry_data}

-- a text is at most one identifier
abbrev pub OneIdentifier : Type 0
OneIdentifier = (wide : Bool) (t x y : Text) → IsIdentifierTextIn wide t x → IsIdentifierTextIn wide t y → x ≡ y

-- a text is at most one entry
abbrev pub OneEntry : Type 0
OneEntry = (wide : Bool) (t : Text) (x y : data'.Entry) → IsEntryTextIn wide t x → IsEntryTextIn wide t y → x ≡ y

-- if an identifier is located as a whole text, the text is an identifier with its value, and it is what is printed
abbrev pub LaidIdentifierIsDerived : Type 0
LaidIdentifierIsDerived = (exact : Bool) (t : Text) (i : Identifier) → LaidIdentifierTextAs exact i t → IsIdentifierText t i.value × (print_identifier i ≡ t)

-- the same for entries
abbrev pub LaidEntryIsDerived : Type 0
LaidEntryIsDerived = (exact : Bool) (t : Text) (e : Entry) → LaidEntryTextAs exact t e → IsEntryText t (entry_data e) × (print_entry e ≡ t)

-- at most one identifier is located as a whole text with its span
abbrev pub OneLaidIdentifier : Type 0
OneLaidIdentifier = (t : Text) (i j : Identifier) → LaidIdentifierText i t → LaidIdentifierText j t → i ≡ j

-- at most one entry is located as a whole text with the spans of its pieces
abbrev pub OneLaidEntry : Type 0
OneLaidEntry = (t : Text) (d e : Entry) → LaidEntryText t d → LaidEntryText t e → d ≡ e

-- each text that is an identifier has one located in it, with its value, and so for entries
abbrev pub TextsAreLaid : Type 0
TextsAreLaid = ((t v : Text) → IsIdentifierText t v → (i : Identifier) × LaidIdentifierText i t × (i.value ≡ v)) × ((t : Text) (x : data'.Entry) → IsEntryText t x → (e : Entry) × LaidEntryText t e × (entry_data e ≡ x))
