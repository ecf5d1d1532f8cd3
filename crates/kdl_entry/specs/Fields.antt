-- The fields of an identifier or an entry in memory, and an entry with one field changed.
use Rattle.std.specs.Prelude.{Option, String}
use Rattle.std.specs.declared.alloc.Global.{Global}
use Rattle.kdl_value.specs.declared.value.KdlValue.{KdlValue}
use Rattle.kdl_entry.specs.declared.entry.KdlEntry.{KdlEntry}
use Rattle.kdl_entry.specs.declared.entry.KdlEntryFormat.{KdlEntryFormat}
use Rattle.kdl_entry.specs.declared.identifier.KdlIdentifier.{KdlIdentifier}

-- the string of an identifier
abbrev pub string_of : KdlIdentifier → String Global
string_of i = i.value

-- the key of an entry, if it is a property
abbrev pub entry_name_of : KdlEntry → Option KdlIdentifier
entry_name_of e = e.name

-- the type of an entry, if it has one
abbrev pub entry_ty_of : KdlEntry → Option KdlIdentifier
entry_ty_of e = e.ty

-- the value of an entry
abbrev pub entry_value_of : KdlEntry → KdlValue
entry_value_of e = e.value

-- the format of an entry, if it has one
abbrev pub entry_format_of : KdlEntry → Option KdlEntryFormat
entry_format_of e = e.format

-- the entry with another key, and all else unchanged; the same with another type, value or format
abbrev pub with_entry_name : KdlEntry → Option KdlIdentifier → KdlEntry
with_entry_name e i = record e { name = i }

abbrev pub with_entry_ty : KdlEntry → Option KdlIdentifier → KdlEntry
with_entry_ty e i = record e { ty = i }

abbrev pub with_entry_value : KdlEntry → KdlValue → KdlEntry
with_entry_value e v = record e { value = v }

abbrev pub with_entry_format : KdlEntry → Option KdlEntryFormat → KdlEntry
with_entry_format e f = record e { format = f }
