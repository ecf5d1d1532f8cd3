use Rattle.std.proofs.Common.{◌≡◌, take}
use Rattle.kdl.specs.Words.{has_name}
use Rattle.kdl_parts.specs.EntryLists.{last_place}
use Rattle.c_calls.proofs.entries.last_property.Given as goal

-- what was found is the last among the entries so far
abbrev pub invariant-loop-index : goal.invariant-loop-index
invariant-loop-index l = l.found ≡ last_place (has_name l.name) (take l.index l.entries)
