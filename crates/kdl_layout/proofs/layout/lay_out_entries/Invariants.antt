use Rattle.kdl_layout.proofs.Common.{map, entry_tree, keeping, settings}
use Rattle.kdl_layout.proofs.Loops.{Turned, LaidEntry}
use Rattle.kdl_layout.proofs.layout.lay_out_entries.Given as goal

abbrev pub invariant-loop-entry : goal.invariant-loop-entry
invariant-loop-entry l = Turned entry_tree (LaidEntry (keeping l.layout) (settings l.layout.config)) l.entry-items l.entry-index (map entry_tree l.initial.entry-items)
