-- Entries without format and spelling, and the form in which they are in a node.
use Rattle.std.specs.Prelude.{◌≡◌, true, [], ◌∷◌, Option, Some, None, option_map, IfSome}
use Rattle.std.specs.List.{list_all}
use Rattle.kdl_text.specs.Chars.{Text, is_scalar}
use Rattle.kdl_entry.specs.Entries.{IsIdentifierText, IsEntryText}
use Rattle.kdl_value.specs.Print.{print_value}
use Rattle.kdl_entry.specs.Print.{print_identifier, print_entry}
use Rattle.kdl_value.specs.Spelled.{spelled}
use Rattle.kdl_value.specs.WellFormed.{IsWellFormed}
use Rattle.kdl_entry.specs.Tree.{Identifier, EntryFormat, empty_format, Entry, without_keep, cleared, entry_data}

-- an entry without format and spelling; its key and its type are of Unicode scalar values, and its value is one that memory can hold
pub record IsFormless (e : Entry) : Type 0 where
  pub plain : cleared e ≡ e
  pub key : IfSome e.name (λ i. list_all is_scalar i.value ≡ true)
  pub ty : IfSome e.ty (λ i. list_all is_scalar i.value ≡ true)
  pub value : IsWellFormed e.value

-- an identifier with the spelling that it prints
abbrev pub formed_identifier : Identifier → Identifier
formed_identifier i = record i { repr = Some (print_identifier i) }

-- an entry with the form that it prints in a node: the texts of its format, flagged or not; without a format, one space and the value as it is spelled
abbrev pub formed : Entry → Entry
formed e = record e { ty = option_map formed_identifier e.ty; name = option_map formed_identifier e.name; format = Some (form e.format) }
  where
    form : Option EntryFormat → EntryFormat
    form (Some f) = without_keep f
    form None = record empty_format { value_repr = print_value e.value; leading = 32 ∷ [] }

-- a printed string is an identifier with that string, and what an entry without format and spelling prints is an entry with its data
abbrev pub FormlessReadsBack : Type 0
FormlessReadsBack = ((s : Text) → list_all is_scalar s ≡ true → IsIdentifierText (spelled s) s) × ((e : Entry) → IsFormless e → IsEntryText (print_entry e) (entry_data e))
