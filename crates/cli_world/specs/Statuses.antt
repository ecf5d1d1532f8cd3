-- The exit statuses.
use Rattle.std.specs.Prelude.{ℕ}
use Rattle.cli_world.specs.declared.status.Status.{Status}
use Rattle.cli_world.specs.declared.status.Status.TheVariants.{Done, Found, Usage, Failed}

-- 0 if all is well, 1 for a fault or a difference, 2 for a wrong command line, 3 if reading, writing or memory failed
abbrev pub code_of : Status → ℕ
code_of Done = 0
code_of Found = 1
code_of Usage = 2
code_of Failed = 3
