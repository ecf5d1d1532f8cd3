-- Identifiers and entries with every text and span, whatever their layout in memory.
use Rattle.std.specs.Prelude.{[], Bool, true, false, if◌then◌else◌, Option, Some, None, option_map, String}
use Rattle.std.specs.declared.alloc.Global.{Global}
use Rattle.kdl_text.specs.Chars.{Text}
use Rattle.kdl_text.specs.declared.span.SourceSpan.{SourceSpan}
use Rattle.kdl_value.specs.Data.{Value}
use Rattle.kdl_value.specs.Tree.{text_of, value_tree}
use Rattle.kdl_entry.specs.Data as data'
use Rattle.kdl_entry.specs.declared.identifier.KdlIdentifier.{KdlIdentifier}
use Rattle.kdl_entry.specs.declared.identifier.Spelling.{Spelling}
use Rattle.kdl_entry.specs.declared.identifier.Spelling.TheVariants.{NotKept, AsValue, Own}
use Rattle.kdl_entry.specs.declared.entry.KdlEntry.{KdlEntry}
use Rattle.kdl_entry.specs.declared.entry.KdlEntryFormat.{KdlEntryFormat}

-- a string, and its spelling if it keeps one
pub record Identifier : Type 0 where
  pub value : Text
  pub repr : Option Text
  pub span : SourceSpan

-- the spelling of the value, and the texts around the parts of an entry
pub record EntryFormat : Type 0 where
  pub value_repr : Text
  pub leading : Text
  pub trailing : Text
  pub after_ty : Text
  pub before_ty_name : Text
  pub after_ty_name : Text
  pub after_key : Text
  pub after_eq : Text
  pub autoformat_keep : Bool

pub record Entry : Type 0 where
  pub ty : Option Identifier
  pub value : Value
  pub name : Option Identifier
  pub format : Option EntryFormat
  pub span : SourceSpan

-- the span of what was not parsed
abbrev pub no_span : SourceSpan
no_span = record { offset = 0; len = 0 }

-- a string without a spelling
abbrev pub plain_identifier : Text → Identifier
plain_identifier s = record { value = s; repr = None; span = no_span }

-- empty texts, without the flag
abbrev pub empty_format : EntryFormat
empty_format = record {
  value_repr = [];
  leading = [];
  trailing = [];
  after_ty = [];
  before_ty_name = [];
  after_ty_name = [];
  after_key = [];
  after_eq = [];
  autoformat_keep = false;
}

-- a property if it has a key, else an argument, without a type and a format
abbrev pub plain_entry : Option Identifier → Value → Entry
plain_entry name value = record { ty = None; value = value; name = name; format = None; span = no_span }

-- an identifier, regardless of its span
abbrev pub without_span : Identifier → Identifier
without_span i = record i { span = no_span }

-- an entry, regardless of the spans of it and its identifiers
abbrev pub without_spans : Entry → Entry
without_spans e = record e { ty = option_map without_span e.ty; name = option_map without_span e.name; span = no_span }

-- an identifier without its spelling
abbrev pub unspelled : Identifier → Identifier
unspelled i = record i { repr = None }

-- an entry whose type and key are not spelled
abbrev pub unspelled_names : Entry → Entry
unspelled_names e = record e { ty = option_map unspelled e.ty; name = option_map unspelled e.name }

-- an entry without its format and without spellings
abbrev pub cleared : Entry → Entry
cleared e = record (unspelled_names e) { format = None }

-- a format that autoformat keeps
abbrev pub with_keep : EntryFormat → EntryFormat
with_keep f = record f { autoformat_keep = true }

-- a format that autoformat does not keep
abbrev pub without_keep : EntryFormat → EntryFormat
without_keep f = record f { autoformat_keep = false }

-- an entry that is not flagged
abbrev pub unflagged : Entry → Entry
unflagged e = record e { format = option_map without_keep e.format }

-- an entry, regardless of the spans of it and its identifiers, and of its flag
abbrev pub without_spans_and_flag : Entry → Entry
without_spans_and_flag e = without_spans (unflagged e)

-- what autoformat keeps of a format: the spelling of the value and the text before the entry, without the flag
abbrev pub kept : EntryFormat → EntryFormat
kept f = record empty_format { value_repr = f.value_repr; leading = f.leading }

-- a format as autoformat leaves it: what it keeps of a flagged one, and no format else
abbrev pub autoformatted_format : Option EntryFormat → Option EntryFormat
autoformatted_format None = None
autoformatted_format (Some f) = if f.autoformat_keep then Some (kept f) else None

-- an entry as autoformat leaves it
abbrev pub autoformatted : Entry → Entry
autoformatted e = record (unspelled_names e) { format = autoformatted_format e.format }

-- the spelling of an identifier in memory: none, its string, or a text of its own
abbrev pub spelling_of : KdlIdentifier → Option (String Global)
spelling_of i = spelled_by i.repr
  where
    spelled_by : Spelling → Option (String Global)
    spelled_by NotKept = None
    spelled_by AsValue = Some i.value
    spelled_by (Own s) = Some s

-- the identifier in memory, with texts as characters
abbrev pub identifier_tree : KdlIdentifier → Identifier
identifier_tree i = record { value = text_of i.value; repr = option_map text_of (spelling_of i); span = i.span }

-- the format of an entry in memory, with texts as characters
abbrev pub entry_format_tree : KdlEntryFormat → EntryFormat
entry_format_tree f = record {
  value_repr = text_of f.value_repr;
  leading = text_of f.leading;
  trailing = text_of f.trailing;
  after_ty = text_of f.after_ty;
  before_ty_name = text_of f.before_ty_name;
  after_ty_name = text_of f.after_ty_name;
  after_key = text_of f.after_key;
  after_eq = text_of f.after_eq;
  autoformat_keep = f.autoformat_keep;
}

-- the entry in memory, with texts as characters
abbrev pub entry_tree : KdlEntry → Entry
entry_tree e = record {
  ty = option_map identifier_tree e.ty;
  value = value_tree e.value;
  name = option_map identifier_tree e.name;
  format = option_map entry_format_tree e.format;
  span = e.span;
}

-- the data of an entry, whatever its form
abbrev pub entry_data : Entry → data'.Entry
entry_data e = record { key = option_map (λ i. i.value) e.name; ty = option_map (λ i. i.value) e.ty; value = e.value }
