-- Entries of a node.
use Rattle.std.specs.List.{remove}
use Rattle.std.specs.Prelude.{◌≡◌, ◌<◌, ℕ, [], String, length, true}
use Rattle.std.specs.declared.alloc.Global.{Global}
use Rattle.kdl.specs.Words.{EntryFormat, Text, Value, entries_of, held_entries, with_entries}
use Rattle.kdl.specs.declared.node.KdlNode.{KdlNode}
use Rattle.kdl_entry.specs.Entries.{IsPlainValue}
use Rattle.kdl_value.specs.Tree.{text_of}

-- the whole text is one value: a string, a number or a keyword
abbrev pub IsValueText : Text → Value → Type 0
IsValueText t v = IsPlainValue true t [] v

-- m is n without the entry at i
pub record EntryRemoved (i : ℕ) (n m : KdlNode) : Type 0 where
  pub place : i < length (entries_of n)
  pub entries : entries_of m ≡ remove (entries_of n) i
  pub rest : m ≡ with_entries n (held_entries m)

-- the format with another spelling of the value
abbrev pub respelled : String Global → EntryFormat → EntryFormat
respelled s f = record f { value_repr = text_of s }
