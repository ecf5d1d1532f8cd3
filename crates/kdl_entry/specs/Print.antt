-- What identifiers and entries print.
use Rattle.std.specs.Prelude.{[], ◌∷◌, ◌++◌, Option, Some, None}
use Rattle.kdl_text.specs.Chars.{Text}
use Rattle.kdl_value.specs.Print.{print_value}
use Rattle.kdl_value.specs.Spelled.{spelled}
use Rattle.kdl_entry.specs.Tree.{Identifier, EntryFormat, Entry}

-- the spelling of an identifier, or else its value as a string
abbrev pub print_identifier : Identifier → Text
print_identifier i = written i.repr
  where
    written : Option Text → Text
    written (Some r) = r
    written None = spelled i.value

-- `(`, a name between two texts, `)`
abbrev pub print_type : Option Identifier → Text → Text → Text
print_type None before after = []
print_type (Some i) before after = 40 ∷ before ++ print_identifier i ++ after ++ (41 ∷ [])

-- a key, `=`, and the texts around it
abbrev pub print_key : Option Identifier → Text → Text → Text
print_key None after_key after_eq = []
print_key (Some i) after_key after_eq = print_identifier i ++ after_key ++ (61 ∷ []) ++ after_eq

-- with a format all its texts, without one only the key, the type and the value
abbrev pub print_formatted : Entry → Option EntryFormat → Text
print_formatted e None = print_key e.name [] [] ++ print_type e.ty [] [] ++ print_value e.value
print_formatted e (Some f) =
    f.leading ++ print_key e.name f.after_key f.after_eq ++ print_type e.ty f.before_ty_name f.after_ty_name ++ f.after_ty ++ f.value_repr ++ f.trailing

abbrev pub print_entry : Entry → Text
print_entry e = print_formatted e e.format
