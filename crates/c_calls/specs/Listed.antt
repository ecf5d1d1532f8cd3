-- The faults of a text as they are written: their rows, and the strings to which the rows refer.
use Rattle.std.specs.Prelude.{◌≡◌, ℕ, ◌+◌, ◌≤◌, List, [], ◌∷◌, All, length, map, zip}
use Rattle.kdl_text.specs.Failures.{Tells}
use Rattle.kdl_text.specs.Spans.{raise}
use Rattle.kdl_text.specs.declared.error.KdlDiagnostic.{KdlDiagnostic}
use Rattle.kdl_text.specs.declared.error.KdlError.{KdlError}
use Rattle.kdl_text.specs.declared.span.SourceSpan.{SourceSpan}
use Rattle.c_calls.specs.Says.{IsBytes}
use Rattle.c_calls.specs.Strings.{HasPut, over, words_of}
use Rattle.c_calls.specs.declared.faults.KdlFault.{KdlFault}
use Rattle.c_calls.specs.declared.reports.KdlReport.{KdlReport}

-- a fault: the bytes of the text that it concerns, and its message, its label and its help
pub record Fault : Type 0 where
  pub span : SourceSpan
  pub message : List ℕ
  pub label : List ℕ
  pub help : List ℕ

-- the fault of a diagnostic
abbrev pub fault_of : KdlDiagnostic → Fault
fault_of d = record { span = d.span; message = words_of d.message; label = words_of d.label; help = words_of d.help }

-- the row of a fault whose message begins after `used` bytes of the strings
abbrev pub fault_row : ℕ → Fault → KdlFault
fault_row used f = record { start = f.span.offset; len = f.span.len; message_start = used; message_len = length f.message }

-- the rows of the faults, whose messages follow each other after `used` bytes of the strings
abbrev pub fault_rows : ℕ → List Fault → List KdlFault
fault_rows used [] = []
fault_rows used (f ∷ fs) = fault_row used f ∷ fault_rows (raise used (length f.message)) fs

-- the messages of the faults
abbrev pub messages : List Fault → List (List ℕ)
messages [] = []
messages (f ∷ fs) = f.message ∷ messages fs

-- the report of a fault whose message, label and help begin after `used` bytes of the strings
abbrev pub report_row : ℕ → Fault → KdlReport
report_row used f =
    let label_start : ℕ = raise used (length f.message) in
    record {
      start = f.span.offset;
      len = f.span.len;
      message_start = used;
      message_len = length f.message;
      label_start = label_start;
      label_len = length f.label;
      help_start = raise label_start (length f.label);
      help_len = length f.help;
    }

-- the reports of the faults, whose strings follow each other after `used` bytes of the strings
abbrev pub report_rows : ℕ → List Fault → List KdlReport
report_rows used [] = []
report_rows used (f ∷ fs) = report_row used f ∷ report_rows (raise (raise (raise used (length f.message)) (length f.label)) (length f.help)) fs

-- the messages, labels and helps of the faults
abbrev pub all_words : List Fault → List (List ℕ)
all_words [] = []
all_words (f ∷ fs) = f.message ∷ f.label ∷ f.help ∷ all_words fs

-- the place is as long as these bytes, and contains them if it ends within the strings
abbrev pub HasBytes : List ℕ → ℕ → ℕ → List ℕ → Type 0
HasBytes strings start len bs = (len ≡ length bs) × (start + len ≤ length strings → IsBytes strings start len bs)

-- the row has the span of the fault, and the place of its message in the strings
pub record SaysFault (strings : List ℕ) (r : KdlFault) (f : Fault) : Type 0 where
  pub start : r.start ≡ f.span.offset
  pub len : r.len ≡ f.span.len
  pub message : HasBytes strings r.message_start r.message_len f.message

-- the report has the span of the fault, and the places of its message, label and help in the strings
pub record SaysReport (strings : List ℕ) (r : KdlReport) (f : Fault) : Type 0 where
  pub start : r.start ≡ f.span.offset
  pub len : r.len ≡ f.span.len
  pub message : HasBytes strings r.message_start r.message_len f.message
  pub label : HasBytes strings r.label_start r.label_len f.label
  pub help : HasBytes strings r.help_start r.help_len f.help

-- the faults are counted; their rows and messages are written, as far as there is room; each row that is written has
-- the data of its fault
pub record AreListed (fs : List Fault) (out out' : List KdlFault) (count : ℕ) (strings strings' : List ℕ) (used : ℕ) : Type 0 where
  pub counted : count ≡ length fs
  pub rows : out' ≡ over (fault_rows 0 fs) out
  pub words : HasPut strings (messages fs) strings' used
  pub each : All (λ (p : KdlFault × Fault). SaysFault strings' p.0 p.1) (zip out' fs)

-- the faults are counted; their reports, messages, labels and helps are written, as far as there is room; each report
-- that is written has the data of its fault
pub record AreReportsListed (fs : List Fault) (out out' : List KdlReport) (count : ℕ) (strings strings' : List ℕ) (used : ℕ) : Type 0 where
  pub counted : count ≡ length fs
  pub rows : out' ≡ over (report_rows 0 fs) out
  pub words : HasPut strings (all_words fs) strings' used
  pub each : All (λ (p : KdlReport × Fault). SaysReport strings' p.0 p.1) (zip out' fs)

-- nothing is listed: both counts are 0, and nothing is written
pub record ListsNothing {Row : Type 0} (out out' : List Row) (count : ℕ) (strings strings' : List ℕ) (used : ℕ) : Type 0 where
  pub counted : count ≡ 0
  pub measured : used ≡ 0
  pub rows : out' ≡ out
  pub words : strings' ≡ strings

-- the faults are the diagnostics of an error of the text
abbrev pub AreFaultsOf : List ℕ → List Fault → Type 0
AreFaultsOf text fs = (e : KdlError) × Tells text e × (fs ≡ map fault_of e.diagnostics.items)
