use Rattle.std.proofs.Common.{◌≡◌, ◌++◌, map, take}
use Rattle.use_files.specs.Breaches.{breach_view, entry_breaches}
use Rattle.use_files.proofs.schema.check_entries.Given as goal

abbrev pub invariant-loop-entry : goal.invariant-loop-entry
invariant-loop-entry l = map breach_view l.found.items ≡ map breach_view l.initial.found.items ++ entry_breaches l.rule (take l.entry-index l.entries)
