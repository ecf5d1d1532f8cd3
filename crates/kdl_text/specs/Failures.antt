-- The error of a refused text.
use Rattle.std.specs.Prelude.{◌≡◌, ℕ, ◌<◌, List, length, All, Result, Ok, Err}
use Rattle.std.specs.Rc.{rc_str_bytes}
use Rattle.std.specs.Str.{chars}
use Rattle.kdl_text.specs.Spans.{InText}
use Rattle.kdl_text.specs.declared.error.KdlError.{KdlError}
use Rattle.kdl_text.specs.declared.error.KdlDiagnostic.{KdlDiagnostic}
use Rattle.kdl_text.specs.declared.error.ParseFailure.{ParseFailure}
use Rattle.kdl_text.specs.declared.error.ParseFailure.TheVariants.{Syntax, Memory}

-- the text was refused
abbrev pub IsSyntax : {A : Type 0} → Result A ParseFailure → Type 0
IsSyntax (Ok x) = ⊥
IsSyntax (Err (Syntax e)) = Unit {0}
IsSyntax (Err Memory) = ⊥

-- a diagnostic of this text, whose span is in it, on character boundaries
pub record IsToldOf (text : List ℕ) (d : KdlDiagnostic) : Type 0 where
  pub input : rc_str_bytes d.input ≡ text
  pub span : InText (chars text) d.span

-- an error of this text, with at least one diagnostic
pub record Tells (text : List ℕ) (e : KdlError) : Type 0 where
  pub input : rc_str_bytes e.input ≡ text
  pub some : 0 < length e.diagnostics.items
  pub each : All (IsToldOf text) e.diagnostics.items

-- a syntax error is an error of this text
abbrev pub TellsOf : List ℕ → ParseFailure → Type 0
TellsOf text (Syntax e) = Tells text e
TellsOf text Memory = Unit {0}

-- if the text was refused, the error is an error of it
abbrev pub TellsOnSyntax : {A : Type 0} → List ℕ → Result A ParseFailure → Type 0
TellsOnSyntax text (Ok x) = Unit {0}
TellsOnSyntax text (Err e) = TellsOf text e
