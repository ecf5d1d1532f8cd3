use Rattle.kdl_parts.proofs.Common.{map, entry_tree, cleared}
use Rattle.kdl_parts.proofs.Loops.{Changed}
use Rattle.kdl_parts.proofs.edit.clear_formats.Given as goal

abbrev pub invariant-loop-entry : goal.invariant-loop-entry
invariant-loop-entry l = Changed entry_tree cleared l.entry-items l.entry-index (map entry_tree l.initial.entry-items)
