-- An entry with the form that it prints has the data of the entry and prints it, and reads back alone.
use Rattle.std.proofs.Common.{◌≡◌, [], ◌∷◌, ◌++◌, Option, Some, None, option_map, refl, ap, ◌∙◌, append-nil}
use Rattle.kdl_text.specs.Chars.{Text}
use Rattle.kdl_text.specs.declared.span.SourceSpan.{SourceSpan}
use Rattle.kdl_value.specs.Data.{Value}
use Rattle.kdl_entry.specs.Formless.{formed_identifier, formed}
use Rattle.kdl_value.specs.Print.{print_value}
use Rattle.kdl_entry.specs.Print.{print_type, print_key, print_entry}
use Rattle.kdl_entry.specs.Tree.{Identifier, EntryFormat, Entry, without_keep, unflagged, entry_data}

no_places : (a v : Text) → 32 ∷ (((a ++ []) ++ v) ++ []) ≡ 32 ∷ (a ++ v)
no_places a v = ap (λ (z : Text). 32 ∷ z) (append-nil ((a ++ []) ++ v) ∙ ap (λ (z : Text). z ++ v) (append-nil a))

module _ (v : Value) (at : SourceSpan) where
  abbrev an_entry : Option Identifier → Option Identifier → Option EntryFormat → Entry
  an_entry ty name f = record { ty = ty; value = v; name = name; format = f; span = at }

  formed_same : (ty name : Option Identifier) (o : Option EntryFormat) (f : EntryFormat) → option_map without_keep o ≡ Some f → option_map formed_identifier ty ≡ ty → option_map formed_identifier name ≡ name
      → formed (an_entry ty name o) ≡ unflagged (an_entry ty name o)
  formed_same ty name None f h a b = cc
  formed_same ty name (Some g) f h a b = rw (a, b) refl

  formed_data : (ty name : Option Identifier) (o : Option EntryFormat) → entry_data (formed (an_entry ty name o)) ≡ entry_data (an_entry ty name o)
  formed_data None None o = refl
  formed_data None (Some k) o = refl
  formed_data (Some y) None o = refl
  formed_data (Some y) (Some k) o = refl

  kept_printed : (ty name : Option Identifier) (f : EntryFormat) → print_entry (formed (an_entry ty name (Some f))) ≡ print_entry (an_entry ty name (Some f))
  kept_printed None None f = refl
  kept_printed None (Some k) f = refl
  kept_printed (Some y) None f = refl
  kept_printed (Some y) (Some k) f = refl

  formed_printed : (ty name : Option Identifier) → print_entry (formed (an_entry ty name None)) ≡ 32 ∷ print_entry (an_entry ty name None)
  formed_printed None None = no_places [] (print_value v)
  formed_printed None (Some k) = no_places (print_key (Some k) [] [] ++ []) (print_value v)
  formed_printed (Some y) None = no_places (print_type (Some y) [] []) (print_value v)
  formed_printed (Some y) (Some k) = no_places (print_key (Some k) [] [] ++ print_type (Some y) [] []) (print_value v)

-- an entry with a format and spellings is left as it is, but for the flag
pub formed_is : (e : Entry) (f : EntryFormat) → option_map without_keep e.format ≡ Some f → option_map formed_identifier e.ty ≡ e.ty → option_map formed_identifier e.name ≡ e.name → formed e ≡ unflagged e
formed_is e f h a b = formed_same e.value e.span e.ty e.name e.format f h a b

-- with a format it prints the same
pub same_printed : (e : Entry) (f : EntryFormat) → print_entry (formed (record e { format = Some f })) ≡ print_entry (record e { format = Some f })
same_printed e f = kept_printed e.value e.span e.ty e.name f

pub same_data : (e : Entry) → entry_data (formed e) ≡ entry_data e
same_data e = formed_data e.value e.span e.ty e.name e.format

-- without a format it prints one space before it
pub space_before : (e : Entry) → e.format ≡ None → print_entry (formed e) ≡ 32 ∷ print_entry e
space_before e h = go e.format h
  where
    go : (o : Option EntryFormat) → o ≡ None → print_entry (formed (record e { format = o })) ≡ 32 ∷ print_entry (record e { format = o })
    go None h = formed_printed e.value e.span e.ty e.name
    go (Some f) h = cc
