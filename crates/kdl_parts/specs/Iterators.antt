-- What the mutable iterator over the entries of a node has left.
use base.Fml.{GName}
use Rattle.std.specs.Prelude.{List}
use Rattle.std.specs.Slice.Iter.{iter_mut_rest, iter_mut_name}
use Rattle.kdl_entry.specs.declared.entry.KdlEntry.{KdlEntry}
use Rattle.kdl_parts.specs.declared.iter.EntryIterMut.{EntryIterMut}

-- the entries that are still to come
abbrev pub entries_left : EntryIterMut → List KdlEntry
entries_left it = iter_mut_rest it.0

-- the name of the loan
abbrev pub entries_name : EntryIterMut → GName
entries_name it = iter_mut_name it.0
