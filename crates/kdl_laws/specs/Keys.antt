-- What keys look for, regardless of the spans of their names.
use Rattle.kdl_entry.specs.Tree.{without_span}
use Rattle.kdl_parts.specs.EntryLists.{Sought, property, argument}

-- what is looked for, without the span of the name
abbrev pub sought_anywhere : Sought → Sought
sought_anywhere (property i) = property (without_span i)
sought_anywhere (argument n) = argument n
