-- How the faults of a text are reported.
use Rattle.std.specs.List.{flat_map}
use Rattle.std.specs.Prelude.{◌≡◌, ◌++◌, ◌∷◌, ◌-◌, ◌==◌, [], Bool, List, None, Some, chars, codes, decimal, if◌then◌else◌, length, min, option_map, string_bytes, take, ℕ}
use Rattle.std.specs.Str.{encode_utf8_all}
use Rattle.std.specs.Str.Lossy.{utf8_valid_len}
use Rattle.kdl_report.specs.Hints.{hint_of}
use Rattle.kdl_report.specs.Object.{fault_json}
use Rattle.kdl_report.specs.Picture.{one_line, picture}
use Rattle.kdl_path.specs.Failures.{TextFails}
use Rattle.kdl_text.specs.declared.error.KdlDiagnostic.{KdlDiagnostic}
use Rattle.kdl_text.specs.declared.error.KdlError.{KdlError}
use Rattle.kdl_text.specs.declared.span.Severity.TheVariants.{Error}
use Rattle.cli_world.specs.Acts.{Effect}
use Rattle.cli_world.specs.Acts.Effect.{reports}
use Rattle.cli_world.specs.Seen.{shown_name}
use Rattle.cli_world.specs.declared.status.Status.TheVariants.{Found}
use Rattle.cli.specs.declared.report.Extent.{Extent}
use Rattle.cli.specs.declared.report.Extent.TheVariants.{All, First}
use Rattle.cli.specs.declared.report.Form.{Form}
use Rattle.cli.specs.declared.report.Form.TheVariants.{Human, Short, Json}
use Rattle.cli.specs.declared.report.Style.{Style}

-- the report of a fault in a text, with the name of its file as it is shown
abbrev pub fault_report : Form → Bool → (name text : List ℕ) → KdlDiagnostic → List ℕ
fault_report Human color name text fault =
    encode_utf8_all (picture color (chars name) (chars text) fault (option_map chars (hint_of (chars text) fault)) ++ 10 ∷ [])
fault_report Short color name text fault = encode_utf8_all (one_line (chars name) (chars text) fault)
fault_report Json color name text fault = fault_json name (chars text) fault

-- the reports of faults, one after another
abbrev pub fault_reports : Style → (name text : List ℕ) → List KdlDiagnostic → List ℕ
fault_reports style name text faults = flat_map (fault_report style.form style.color name text) faults

-- how many of n faults are reported: for people 100 at most, unless they ask for all
abbrev pub reported : Extent → Form → ℕ → ℕ
reported All form n = n
reported First Human n = min n 100
reported First _ n = n

-- the line on n faults that are left out, and an empty line
abbrev pub rest_line : ℕ → List ℕ
rest_line n = if n == 0 then [] else codes "and " ++ decimal n ++ codes " more: `kdl check --all` shows them\n\n"

-- the report of the faults of a text, of which the first m are reported
abbrev pub report_to : ℕ → Style → (name text : List ℕ) → List KdlDiagnostic → List ℕ
report_to m style name text faults = fault_reports style (shown_name name) text (take m faults) ++ rest_line (length faults - m)

-- the report of the faults of a text
abbrev pub faults_report : Style → (name text : List ℕ) → List KdlDiagnostic → List ℕ
faults_report style name text faults = report_to (reported style.extent style.form (length faults)) style name text faults

-- the faults of an error in a text are reported
abbrev pub ReportsError : Style → (name text : List ℕ) → KdlError → Effect → Type 0
ReportsError style name text error e = e ≡ reports (faults_report style name text error.diagnostics.items) Found

-- the faults of the text are reported
abbrev pub ReportsFaults : Style → (name text : List ℕ) → Effect → Type 0
ReportsFaults style name text e = (error : KdlError) × TextFails text error × ReportsError style name text error e

-- the text at the front of bytes, up to the first byte that is not UTF-8
abbrev pub front : List ℕ → List ℕ
front bytes = take (utf8_valid_len bytes) bytes

-- the error of bytes that are not UTF-8: its one fault is the byte after the text at their front
pub record IsNotUtf8 (text : List ℕ) (error : KdlError) : Type 0 where
  pub fault : KdlDiagnostic
  pub only : error.diagnostics.items ≡ fault ∷ []
  pub span : fault.span ≡ record { offset = length text; len = 1 }
  pub message : option_map string_bytes fault.message ≡ Some (codes "Input is not UTF-8")
  pub label : fault.label ≡ None
  pub help : fault.help ≡ None
  pub severity : fault.severity ≡ Error

-- that the bytes are not UTF-8 is reported
abbrev pub ReportsNotUtf8 : Style → (name bytes : List ℕ) → Effect → Type 0
ReportsNotUtf8 style name bytes e = (error : KdlError) × IsNotUtf8 (front bytes) error × ReportsError style name (front bytes) error e
