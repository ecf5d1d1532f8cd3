-- The faults of a text, with their labels and helps.
use Rattle.std.specs.Prelude.{ℕ, ◌+◌, ◌≤◌, List, All, length, take}
use Rattle.std.specs.Str.{chars}
use Rattle.kdl_text.specs.Spans.{InText}
use Rattle.c_calls.specs.declared.reports.KdlReport.{KdlReport}

-- the report concerns a piece of the text, and its message, label and help are in the first n bytes of the strings
pub record IsReported (text : List ℕ) (n : ℕ) (r : KdlReport) : Type 0 where
  pub piece : InText (chars text) (record { offset = r.start; len = r.len })
  pub message : r.message_start + r.message_len ≤ n
  pub label : r.label_start + r.label_len ≤ n
  pub help : r.help_start + r.help_len ≤ n

-- if the reports and the strings fit, each report concerns a piece of the text, and its texts are in the strings
abbrev pub AreReported : List ℕ → List KdlReport → ℕ → List ℕ → ℕ → Type 0
AreReported text rows count strings used = count ≤ length rows → used ≤ length strings → All (IsReported text used) (take count rows)
