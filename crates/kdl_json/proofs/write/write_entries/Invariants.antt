use Rattle.kdl_json.proofs.Entries.{Listed}
use Rattle.kdl_json.proofs.write.write_entries.Given as goal

-- the entries so far are written, and fit
abbrev pub invariant-loop-entry : goal.invariant-loop-entry
invariant-loop-entry l = Listed l.fn.out l.out l.entries l.entry-index
