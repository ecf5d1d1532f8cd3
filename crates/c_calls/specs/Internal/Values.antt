-- Entries that are only a value.
use Rattle.std.specs.Prelude.{◌&&◌, Bool, true, false, [], ◌∷◌, Option, Some, None, is_none}
use Rattle.kdl.specs.Words.{Entry, EntryFormat, Text}

-- the text is empty
abbrev pub is_nil : Text → Bool
is_nil [] = true
is_nil (c ∷ s) = false

-- the format, if there is one, has no text before and after the entry
abbrev pub is_bare : Option EntryFormat → Bool
is_bare None = true
is_bare (Some f) = is_nil f.leading && is_nil f.trailing

-- the entry has neither a key nor a type, and no text before and after it
abbrev pub is_value : Entry → Bool
is_value e = is_none e.name && is_none e.ty && is_bare e.format
