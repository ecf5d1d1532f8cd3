-- Errors with every text as its bytes, and every span, whatever their layout in memory.
use Rattle.std.specs.Prelude.{ℕ, List, Option, map, option_map, string_bytes}
use Rattle.std.specs.Rc.{rc_str_bytes}
use Rattle.kdl_text.specs.declared.error.KdlDiagnostic.{KdlDiagnostic}
use Rattle.kdl_text.specs.declared.error.KdlError.{KdlError}
use Rattle.kdl_text.specs.declared.error.ParseFailure.{ParseFailure}
use Rattle.kdl_text.specs.declared.error.ParseFailure.TheVariants.{Syntax, Memory}
use Rattle.kdl_text.specs.declared.span.Severity.{Severity}
use Rattle.kdl_text.specs.declared.span.SourceSpan.{SourceSpan}

-- a fault: the text that was read, the span of the fault, its message, label and hint, and its severity
pub record Diagnostic : Type 0 where
  pub input : List ℕ
  pub span : SourceSpan
  pub message : Option (List ℕ)
  pub label : Option (List ℕ)
  pub help : Option (List ℕ)
  pub severity : Severity

-- an error: the text that was read, and its faults in order
pub record Refusal : Type 0 where
  pub input : List ℕ
  pub diagnostics : List Diagnostic

-- why a text was not parsed
pub data Failure : Type 0 where
  syntax' : Refusal → Failure
  memory : Failure

-- the diagnostic in memory, with texts as bytes
abbrev pub diagnostic_tree : KdlDiagnostic → Diagnostic
diagnostic_tree d = record {
  input = rc_str_bytes d.input;
  span = d.span;
  message = option_map string_bytes d.message;
  label = option_map string_bytes d.label;
  help = option_map string_bytes d.help;
  severity = d.severity;
}

-- the error in memory, with texts as bytes
abbrev pub error_tree : KdlError → Refusal
error_tree e = record { input = rc_str_bytes e.input; diagnostics = map diagnostic_tree e.diagnostics.items }

-- the failure in memory, with texts as bytes
abbrev pub failure_tree : ParseFailure → Failure
failure_tree (Syntax e) = syntax' (error_tree e)
failure_tree Memory = memory
