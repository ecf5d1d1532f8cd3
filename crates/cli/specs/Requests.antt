-- What a run does for a request.
use Rattle.std.specs.Borrow.{Bor}
use Rattle.std.specs.List.{count_by, flat_map}
use Rattle.std.specs.Prelude.{◌≡◌, ◌⊎◌, ◌++◌, ◌∷◌, [], Bool, Err, IsUtf8, List, None, Ok, Option, Result, Some, chars, codes, decimal, false, map, nat_lt, true, ℕ}
use Rattle.std.specs.Str.{bytes_eq}
use Rattle.kdl_report.specs.Places.{column, line_number}
use Rattle.kdl_report.specs.Shown.{shown_bytes}
use Rattle.kdl_text.specs.Chars.{Text}
use Rattle.cli_words.specs.Template.{IsManual, IsScript}
use Rattle.cli_world.specs.Acts.{Does, output}
use Rattle.cli_world.specs.Acts.Effect.{prints}
use Rattle.cli_world.specs.Files.{Files, Has}
use Rattle.cli_world.specs.Seen.{IsLost, Reports, Seen, complaint, problem, shown_name}
use Rattle.cli_world.specs.Tallies.{plain}
use Rattle.cli_world.specs.declared.status.Status.{Status}
use Rattle.cli_world.specs.declared.status.Status.TheVariants.{Done, Found, Usage, Failed}
use Rattle.cli_world.specs.declared.tally.Tally.{Tally}
use Rattle.cli.specs.Asks.{AsksFile}
use Rattle.cli.specs.Checks.{ChecksFiles}
use Rattle.cli.specs.Config.{Configures, why_text}
use Rattle.cli.specs.Formats.{FormatsFiles}
use Rattle.cli.specs.Reports.{ReportsNotUtf8, faults_report}
use Rattle.cli.specs.Searches.{SearchesFiles}
use Rattle.cli.specs.Settings.{default_settings, with_given}
use Rattle.cli.specs.declared.ask.Ask.{Ask}
use Rattle.cli.specs.declared.config.Misfit.{Misfit}
use Rattle.cli.specs.declared.config.Unfit.{Unfit}
use Rattle.cli.specs.declared.config.Unfit.TheVariants.{Memory, Misfits, Syntax}
use Rattle.cli.specs.declared.files.Job.{Job}
use Rattle.cli.specs.declared.files.Mode.{Mode}
use Rattle.cli.specs.declared.files.Mode.TheVariants.{Replace}
use Rattle.cli.specs.declared.query.Search.{Search}
use Rattle.cli.specs.declared.report.Style.{Style}
use Rattle.cli.specs.declared.request.Format.{Format}
use Rattle.cli.specs.declared.request.Request.{Request}
use Rattle.cli.specs.declared.request.Request.TheVariants as request
use Rattle.cli.specs.declared.settings.Given.{Given}
use Rattle.cli.specs.declared.settings.Settings.{Settings}

-- the file is the standard input
abbrev pub is_input : List ℕ → Bool
is_input name = bytes_eq name (codes "-")

-- how often the standard input is among the files
abbrev pub times_input : List (List ℕ) → ℕ
times_input names = count_by is_input names

-- the standard input is named more than once
abbrev pub has_input_twice : List (List ℕ) → Bool
has_input_twice names = nat_lt 1 (times_input names)

-- the files, or the standard input if none is named
abbrev pub or_input : List (List ℕ) → List (List ℕ)
or_input [] = codes "-" ∷ []
or_input (n ∷ ns) = n ∷ ns

-- the standard input is to be replaced
abbrev pub replaces_input : Mode → List (List ℕ) → Bool
replaces_input Replace names = nat_lt 0 (times_input (or_input names))
replaces_input _ names = false

-- the names of the files
abbrev pub names_of : List (Bor (List ℕ)) → List (List ℕ)
names_of names = map (λ n. n.now) names

-- the command line can't be followed, which is reported
abbrev pub IsUnusable : Seen → Seen → Status → Type 0
IsUnusable old new status = (status ≡ Usage) × ((why : List ℕ) × Reports (complaint why) old new)

-- a file gives these settings
abbrev pub GivesSettings : (name : List ℕ) → Files → Given → Type 0
GivesSettings name files given = (text : List ℕ) × Has files name text × Configures text (Ok given)

-- the settings are those by default, with those that the file gives in their place
abbrev pub AreByFile : Option (Bor (List ℕ)) → Files → Settings → Type 0
AreByFile None files s = s ≡ default_settings
AreByFile (Some name) files s = (given : Given) × GivesSettings name.now files given × (s ≡ with_given default_settings given)

-- the settings of a run: those of its file, with those of the command line in their place
abbrev pub AreSettings : Format → Seen → Settings → Type 0
AreSettings f old s = (by_file : Settings) × AreByFile f.config old.files by_file × (s ≡ with_given by_file f.given)

-- the line on a node that is no setting, in a text of the file with that name as it is shown
abbrev pub misfit_line : (name : List ℕ) → Text → Misfit → List ℕ
misfit_line name text m =
    name ++ codes ":" ++ decimal (line_number m.span.offset text) ++ codes ":" ++ decimal (column m.span.offset text) ++ codes ": error: " ++ why_text m.why ++ codes "\n"

-- the report of why a text has no settings
abbrev pub unfit_report : Style → (name text : List ℕ) → Unfit → List ℕ
unfit_report style name text (Syntax e) = faults_report style name text e.diagnostics.items
unfit_report style name text (Misfits ms) = flat_map (misfit_line (shown_bytes (shown_name name)) (chars text)) ms.items
unfit_report style name text Memory = []

-- the status if a text of settings has a fault
abbrev pub settings_status : Status → Status
settings_status Found = Usage
settings_status s = s

-- a file gives no settings, with the status for that: it is not read, is not UTF-8, or has a text that gives none, or memory runs out; each is reported
pub data IsUnsettled (style : Style) (name : List ℕ) (old new : Seen) : Status → Type 0 where
  lost : IsLost name old new → IsUnsettled style name old new Failed
  not_utf8 : {bytes : List ℕ} {t : Tally} {s : Status} → Has old.files name bytes → (IsUtf8 bytes → ⊥) → Does (ReportsNotUtf8 style name bytes) name old new t → s ≡ settings_status t.status
      → IsUnsettled style name old new s
  unfit : {text : List ℕ} (why : Unfit) → Has old.files name text → Configures text (Err why) → (why ≡ Memory → ⊥)
      → Reports (unfit_report style name text why) old new → IsUnsettled style name old new Usage
  memory : Reports (problem name (codes "out of memory")) old new → IsUnsettled style name old new Failed

-- what becomes of the settings of a run
abbrev pub Settles : Format → Seen → Seen → Result Settings Status → Type 0
Settles f old new (Ok s) = (new ≡ old) × AreSettings f old s
Settles f old new (Err status) = (name : Bor (List ℕ)) × (f.config ≡ Some name) × IsUnsettled f.style name.now old new status

-- how the files are formatted, with these settings
abbrev pub job_of : Format → Settings → Job
job_of f s = record { settings = s; mode = f.mode; style = f.style }

-- files are formatted with the settings of the run
pub data RunsFormat (f : Format) (old new : Seen) : Status → Type 0 where
  unusable : {s : Status} → (replaces_input f.mode (names_of f.names.now) ≡ true) ⊎ (has_input_twice (names_of f.names.now) ≡ true) → IsUnusable old new s → RunsFormat f old new s
  unsettled : {name : Bor (List ℕ)} {s : Status} → f.config ≡ Some name → IsUnsettled f.style name.now old new s → RunsFormat f old new s
  runs : {settings : Settings} {s : Status} → replaces_input f.mode (names_of f.names.now) ≡ false → has_input_twice (names_of f.names.now) ≡ false → AreSettings f old settings
      → FormatsFiles (job_of f settings) (or_input (names_of f.names.now)) old new s → RunsFormat f old new s

-- files are checked
abbrev pub RunsCheck : Style → List (List ℕ) → Seen → Seen → Status → Type 0
RunsCheck style names old new s = ((has_input_twice names ≡ true) × IsUnusable old new s) ⊎ ((has_input_twice names ≡ false) × ChecksFiles style (or_input names) old new s)

-- files are searched
abbrev pub RunsSearch : Search → List (List ℕ) → Seen → Seen → Status → Type 0
RunsSearch search names old new s = ((has_input_twice names ≡ true) × IsUnusable old new s) ⊎ ((has_input_twice names ≡ false) × SearchesFiles search (or_input names) old new s)

-- the standard input is to be replaced by what an action gives
abbrev pub AsksInput : Ask → Type 0
AsksInput a = (a.replace ≡ true) × (a.name.now ≡ codes "-")

-- an action is applied to a file
abbrev pub RunsAsk : Ask → Seen → Seen → Status → Type 0
RunsAsk a old new s = (AsksInput a × IsUnusable old new s) ⊎ ((AsksInput a → ⊥) × ((t : Tally) × AsksFile a old new t × (s ≡ t.status)))

-- such a text of the program itself is printed
abbrev pub Shows : (IsText : List ℕ → Type 0) → Seen → Seen → Status → Type 0
Shows IsText old new s = (t : Tally) × Does (λ e. (out : List ℕ) × IsText out × (e ≡ prints out (plain Done))) output old new t × (s ≡ t.status)

-- what is asked for is done, from the files and the standard input before, to the files, the output and the errors after, and the status
abbrev pub Runs : Request → Seen → Seen → Status → Type 0
Runs (request.Format f) old new s = RunsFormat f old new s
Runs (request.Check names style) old new s = RunsCheck style (names_of names.now) old new s
Runs (request.Ask a) old new s = RunsAsk a old new s
Runs (request.Search names search) old new s = RunsSearch search (names_of names.now) old new s
Runs (request.Completions shell) old new s = Shows (IsScript shell) old new s
Runs request.Manual old new s = Shows IsManual old new s
