-- The exit status of each outcome, and what is written to standard error.
use Rattle.std.specs.Prelude.{ℕ, ◌+◌, ◌-◌, ◌^◌, min, List, [], ◌∷◌, ◌++◌, flat_map, Option, Some, None, codes, decimal, String, string_bytes}
use Rattle.std.specs.declared.alloc.Global.{Global}
use Rattle.kdl_text.specs.declared.error.KdlDiagnostic.{KdlDiagnostic}
use Rattle.kdl_text.specs.declared.error.KdlError.{KdlError}
use Rattle.kdl_text.specs.declared.span.SourceSpan.{SourceSpan}
use Rattle.tool.specs.declared.Outcome.{Outcome}
use Rattle.tool.specs.declared.Outcome.TheVariants.{Done, Refused, NotUtf8, NoValue, Usage, ReadFailed, WriteFailed, Memory}

-- 0 on success, 1 if the input is refused, 2 for other arguments, 3 if a read, a write or an allocation failed
abbrev pub status_of : Outcome → ℕ
status_of Done = 0
status_of (Refused e) = 1
status_of NotUtf8 = 1
status_of NoValue = 1
status_of Usage = 2
status_of ReadFailed = 3
status_of WriteFailed = 3
status_of Memory = 3

-- the text, and a line feed
abbrev pub line : List ℕ → List ℕ
line text = text ++ (10 ∷ [])

-- the end of a span, in bytes
abbrev pub span_end : SourceSpan → ℕ
span_end s = min (s.offset + s.len) (2 ^ 64 - 1)

-- the message, if there is one
abbrev pub message_of : Option (String Global) → List ℕ
message_of (Some m) = string_bytes m
message_of None = codes "Unexpected error"

-- `offset..end message`
abbrev pub diagnostic_line : KdlDiagnostic → List ℕ
diagnostic_line d =
    line (decimal d.span.offset ++ codes ".." ++ decimal (span_end d.span) ++ (32 ∷ message_of d.message))

-- a line for each diagnostic
abbrev pub lines_of : KdlError → List ℕ
lines_of e = flat_map diagnostic_line e.diagnostics.items

-- what is written on standard error
abbrev pub report_of : Outcome → List ℕ
report_of Done = []
report_of (Refused e) = lines_of e
report_of NotUtf8 = line (codes "0..0 Input is not UTF-8")
report_of NoValue = line (codes "0..0 No such value")
report_of Usage = line (codes "usage: kdl-tool cat, fmt, strip or get NAME")
report_of ReadFailed = line (codes "reading failed")
report_of WriteFailed = line (codes "writing failed")
report_of Memory = line (codes "out of memory")
