-- What is done with files that are checked.
use Rattle.std.specs.Prelude.{◌≡◌, ◌⊎◌, ◌++◌, ◌∷◌, ◌==◌, [], List, chars, codes, count_by, decimal, if◌then◌else◌, length, min, nat_lt, ℕ, ◌^◌, ◌-◌}
use Rattle.kdl.specs.Words.{IsDocument, Nodes}
use Rattle.kdl_text.specs.declared.error.KdlError.{KdlError}
use Rattle.cli_world.specs.Acts.{Acts, Does, Each, Effect, output}
use Rattle.cli_world.specs.Acts.Effect.{prints}
use Rattle.cli_world.specs.Seen.{Seen}
use Rattle.cli_world.specs.Statuses.{code_of}
use Rattle.cli_world.specs.Tallies.{counted, plain, worst}
use Rattle.cli_world.specs.declared.status.Status.{Status}
use Rattle.cli_world.specs.declared.status.Status.TheVariants.{Done, Found}
use Rattle.cli_world.specs.declared.tally.Tally.{Tally}
use Rattle.kdl_path.specs.Failures.{TextFails}
use Rattle.cli.specs.Reports.{IsNotUtf8, faults_report, front}
use Rattle.cli.specs.declared.report.Form.{Form}
use Rattle.cli.specs.declared.report.Form.TheVariants.{Json}
use Rattle.cli.specs.declared.report.Style.{Style}

-- the text is a document
abbrev pub IsSound : List ℕ → Type 0
IsSound text = (x : Nodes) × IsDocument (chars text) x

-- the faults of an error in a text are printed, and counted
abbrev pub PrintsError : Style → (name text : List ℕ) → KdlError → Effect → Type 0
PrintsError style name text error e =
    e ≡ prints (faults_report style name text error.diagnostics.items) (record { status = Found; count = length error.diagnostics.items })

-- the faults of the text are printed
abbrev pub PrintsFaults : Style → (name text : List ℕ) → Effect → Type 0
PrintsFaults style name text e = (error : KdlError) × TextFails text error × PrintsError style name text error e

-- that the bytes are not UTF-8 is printed
abbrev pub PrintsNotUtf8 : Style → (name bytes : List ℕ) → Effect → Type 0
PrintsNotUtf8 style name bytes e = (error : KdlError) × IsNotUtf8 (front bytes) error × PrintsError style name (front bytes) error e

-- what is done with the text of a file: nothing if it is a document, and else its faults are printed
abbrev pub Checks : Style → (name text : List ℕ) → Effect → Type 0
Checks style name text e = (IsSound text × (e ≡ prints [] (plain Done))) ⊎ PrintsFaults style name text e

-- a file is checked
abbrev pub ChecksFile : Style → (name : List ℕ) → (old new : Seen) → Tally → Type 0
ChecksFile style name old new t = Acts (Checks style name) (PrintsNotUtf8 style name) name old new t

-- the number of faults of files, or the greatest that a machine can count
abbrev pub all_faults : List Tally → ℕ
all_faults ts = min (counted ts) (2 ^ 64 - 1)

-- the number of files that have a fault
abbrev pub faulty_files : List Tally → ℕ
faulty_files ts = count_by (λ t. nat_lt 0 t.count) ts

-- the words for so many
abbrev pub noun : ℕ → (one more : List ℕ) → List ℕ
noun n one more = if n == 1 then one else more

-- the line on all faults, as `2 faults in 1 file`
abbrev pub totals_line : (faults files : ℕ) → List ℕ
totals_line faults files = decimal faults ++ noun faults (codes " fault in ") (codes " faults in ") ++ decimal files ++ noun files (codes " file\n") (codes " files\n")

-- what is printed on all faults: nothing if each is an object, or if no file has one
abbrev pub totals : Form → (faults files : ℕ) → List ℕ
totals Json faults files = []
totals _ faults files = if files == 0 then [] else totals_line faults files

-- the same as an effect
abbrev pub PrintsTotals : Form → (faults files : ℕ) → Effect → Type 0
PrintsTotals form faults files e = e ≡ prints (totals form faults files) (plain Done)

-- files are checked one after another, then the line on all faults is printed, and the status is the worst
pub record ChecksFiles (style : Style) (names : List (List ℕ)) (old new : Seen) (status : Status) : Type 0 where
  pub tallies : List Tally
  pub between : Seen
  pub each : Each (ChecksFile style) names old between tallies
  pub last : Tally
  pub ends : Does (PrintsTotals style.form (all_faults tallies) (faulty_files tallies)) output between new last
  pub worst_of : code_of status ≡ worst (tallies ++ (last ∷ []))
