-- What entries in memory say.
use Rattle.kdl_entry.specs.Data as data'
use Rattle.kdl_entry.specs.Tree.{entry_data, entry_tree}
use Rattle.kdl_entry.specs.declared.entry.KdlEntry.{KdlEntry}

abbrev pub says : KdlEntry → data'.Entry
says e = entry_data (entry_tree e)
