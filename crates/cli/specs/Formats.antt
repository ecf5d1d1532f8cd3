-- What becomes of files that are formatted.
use Rattle.std.specs.Prelude.{◌≡◌, ◌⊎◌, ◌++◌, ◌∷◌, [], Contains, List, chars, ℕ}
use Rattle.kdl_report.specs.Hunks.{IsDiff}
use Rattle.kdl_report.specs.Shown.{shown_bytes}
use Rattle.cli_world.specs.Acts.{Acts, Effect, InTurn}
use Rattle.cli_world.specs.Acts.Effect.{prints, replaces}
use Rattle.cli_world.specs.Files.{Files}
use Rattle.cli_world.specs.Seen.{Seen, shown_name}
use Rattle.cli_world.specs.Tallies.{plain}
use Rattle.cli_world.specs.declared.status.Status.{Status}
use Rattle.cli_world.specs.declared.status.Status.TheVariants.{Done, Found}
use Rattle.cli_world.specs.declared.tally.Tally.{Tally}
use Rattle.cli.specs.Formatted.{IsFormatted}
use Rattle.cli.specs.Reports.{ReportsFaults, ReportsNotUtf8}
use Rattle.cli.specs.declared.files.Job.{Job}
use Rattle.cli.specs.declared.files.Mode.{Mode}
use Rattle.cli.specs.declared.files.Mode.TheVariants.{Print, Check, Diff, Replace}

-- the name of a file, on a line
abbrev pub name_line : List ℕ → List ℕ
name_line name = shown_bytes (shown_name name) ++ (10 ∷ [])

-- the lines that differ are printed
abbrev pub ShowsLines : (name old new : List ℕ) → Effect → Type 0
ShowsLines name old new e = (lines : List ℕ) × IsDiff (shown_name name) old new lines × (e ≡ prints lines (plain Found))

-- what is done with a text that formatting changes
abbrev pub IsChange : Mode → (name old new : List ℕ) → Effect → Type 0
IsChange Print name old new e = e ≡ prints new (plain Done)
IsChange Check name old new e = e ≡ prints (name_line name) (plain Found)
IsChange Diff name old new e = ShowsLines name old new e
IsChange Replace name old new e = e ≡ replaces new

-- what is done with a text that is formatted already
abbrev pub IsNoChange : Mode → (text : List ℕ) → Effect → Type 0
IsNoChange Print text e = e ≡ prints text (plain Done)
IsNoChange _ text e = e ≡ prints [] (plain Done)

-- what is done with a text by what formatting makes of it
abbrev pub IsDelivery : Mode → (name old new : List ℕ) → Effect → Type 0
IsDelivery mode name old new e = ((old ≡ new) × IsNoChange mode new e) ⊎ ((old ≡ new → ⊥) × IsChange mode name old new e)

-- what is done with the text of a file: it is formatted, or its faults are reported
abbrev pub Formats : Job → List ℕ → List ℕ → Effect → Type 0
Formats job name text e =
    ((out : List ℕ) × IsFormatted job.settings (chars text) (chars out) × IsDelivery job.mode name text out e) ⊎ ReportsFaults job.style name text e

-- a file is formatted
abbrev pub FormatsFile : Job → List ℕ → Seen → Seen → Tally → Type 0
FormatsFile job name old new t = Acts (Formats job name) (ReportsNotUtf8 job.style name) name old new t

-- files are formatted one after another, and the status is the worst of theirs
abbrev pub FormatsFiles : Job → List (List ℕ) → Seen → Seen → Status → Type 0
FormatsFiles job names old new status = InTurn (FormatsFile job) names old new status

-- each file is as before, or it is one of these, which are replaced
abbrev pub ChangesNamed : Mode → List (List ℕ) → Files → Files → Type 0
ChangesNamed mode names old new = (p : List ℕ) → (new p ≡ old p) ⊎ (Contains names p × (mode ≡ Replace))
