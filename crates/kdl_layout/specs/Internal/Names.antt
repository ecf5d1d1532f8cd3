-- The spellings of names that are kept, and those that are not.
use Rattle.std.specs.Prelude.{◌≡◌, [], Bool, true, false, Option, Some, None, option_map}
use Rattle.kdl_text.specs.Chars.{Text}
use Rattle.kdl_value.specs.Data.{Value}
use Rattle.kdl_entry.specs.Tree.{Identifier, EntryFormat, Entry, plain_identifier, unspelled, autoformatted}
use Rattle.kdl_layout.specs.Config.{Settings}
use Rattle.kdl_layout.specs.Kept.{KeptBefore}
use Rattle.kdl_layout.specs.Respelled.{IsRespelled, IsRespelledIf, IsSpelling}
use Rattle.kdl_layout.specs.Parts.{following}
use Rattle.kdl_layout.specs.declared.names.SpellingRule.{SpellingRule}
use Rattle.kdl_layout.specs.declared.names.SpellingRule.TheVariants.{Kept, Removed}

-- the identifier, with its spelling only if that is kept
abbrev pub with_spelling : SpellingRule → Identifier → Identifier
with_spelling Kept i = i
with_spelling Removed i = unspelled i

-- the same of a key or a type, if there is one
abbrev pub with_spelling_if : SpellingRule → Option Identifier → Option Identifier
with_spelling_if x o = option_map (with_spelling x) o

-- what is done with the spelling of a name
abbrev pub KeepsName : Bool → Identifier → SpellingRule → Type 0
KeepsName keep i x = IsRespelled keep i (unspelled i) (with_spelling x i)

-- the same of a key or a type, if there is one
abbrev pub Keeps : Bool → Option Identifier → SpellingRule → Type 0
Keeps keep o x = IsRespelledIf keep o (option_map unspelled o) (with_spelling_if x o)

-- an entry without format, with the spellings of its key and its type only if these are kept
abbrev pub autoformatted_but : SpellingRule → SpellingRule → Entry → Entry
autoformatted_but key ty e = record (autoformatted e) { name = with_spelling_if key e.name; ty = with_spelling_if ty e.ty }

-- e' is e, laid out as its format says, without spellings unless the entry is flagged to keep its form
abbrev pub IsLaid : Settings → Entry → Entry → Type 0
IsLaid s e e' = (t : Text) × KeptBefore s e.format t × (e' ≡ following t (autoformatted e))

-- a format without the spelling of the value
abbrev pub without_value : EntryFormat → EntryFormat
without_value f = record f { value_repr = [] }

-- the spelling of the value in a format, if there is one
abbrev pub spelling_of : Option EntryFormat → Text
spelling_of None = []
spelling_of (Some f) = f.value_repr

-- a string that is empty in place of an identifier
abbrev pub emptied : Option Identifier → Option Identifier
emptied o = option_map (λ (i : Identifier). plain_identifier []) o

-- the entry with an empty key, with an empty type, and without the spelling of its value, where it has them
abbrev pub emptied_key : Entry → Entry
emptied_key e = record e { name = emptied e.name }

abbrev pub emptied_type : Entry → Entry
emptied_type e = record e { ty = emptied e.ty }

abbrev pub unspelled_value : Entry → Entry
unspelled_value e = record e { format = option_map without_value e.format }

-- the format of an entry with the value v has a spelling of v
abbrev pub HasSpelling : Value → Option EntryFormat → Type 0
HasSpelling v None = ⊥
HasSpelling v (Some f) = IsSpelling v f.value_repr

-- whether that is kept
abbrev pub KeepsValue : Bool → Value → Option EntryFormat → Bool → Type 0
KeepsValue keep v o true = (keep ≡ true) × HasSpelling v o
KeepsValue keep v o false = keep ≡ true → HasSpelling v o → ⊥
