-- The statuses and counts of files.
use Rattle.std.specs.Prelude.{ℕ, List, [], ◌∷◌, ◌+◌, max}
use Rattle.cli_world.specs.Statuses.{code_of}
use Rattle.cli_world.specs.declared.status.Status.{Status}
use Rattle.cli_world.specs.declared.tally.Tally.{Tally}

-- the status, where nothing is counted
abbrev pub plain : Status → Tally
plain s = record { status = s; count = 0 }

-- the greatest number of their statuses, 0 if there are none
abbrev pub worst : List Tally → ℕ
worst [] = 0
worst (t ∷ ts) = max (code_of t.status) (worst ts)

-- the sum of their counts
abbrev pub counted : List Tally → ℕ
counted [] = 0
counted (t ∷ ts) = t.count + counted ts
