-- What a diagnostic says.
use Rattle.std.specs.Prelude.{[], Option, option_map, unwrap_or, chars, codes}
use Rattle.std.specs.declared.alloc.Global.{Global}
use Rattle.std.specs.Prelude.{String}
use Rattle.kdl_text.specs.Chars.{Text}
use Rattle.kdl_text.specs.declared.error.KdlDiagnostic.{KdlDiagnostic}
use Rattle.kdl_text.specs.declared.span.Severity.{Severity}
use Rattle.kdl_text.specs.declared.span.Severity.TheVariants.{Advice, Warning, Error}
use Rattle.kdl_report.specs.Shown.{text_of}

-- the word for a severity
abbrev pub word_of : Severity → Text
word_of Error = chars (codes "error")
word_of Warning = chars (codes "warning")
word_of Advice = chars (codes "advice")

-- the text of an optional string
abbrev pub optional : Option (String Global) → Option Text
optional = option_map text_of

-- the message, or that of a diagnostic without one
abbrev pub message_of : KdlDiagnostic → Text
message_of fault = unwrap_or (optional fault.message) (chars (codes "Unexpected error"))

-- the label, or nothing
abbrev pub label_of : KdlDiagnostic → Text
label_of fault = unwrap_or (optional fault.label) (chars [])
