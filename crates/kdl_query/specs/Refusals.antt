-- Refused query texts.
use Rattle.std.specs.Prelude.{Result, Err}
use Rattle.kdl_text.specs.Chars.{Text}
use Rattle.kdl_text.specs.Spans.{InText}
use Rattle.kdl_query.specs.declared.error.QueryFailure.{QueryFailure}
use Rattle.kdl_query.specs.declared.error.QueryFailure.TheVariants.{Syntax}

-- the text was refused
abbrev pub IsSyntax : {A : Type 0} → Result A QueryFailure → Type 0
IsSyntax (Err (Syntax e)) = Unit {0}
IsSyntax _ = ⊥

-- if so, the span of the fault is in it
abbrev pub LocatesFault : {A : Type 0} → Text → Result A QueryFailure → Type 0
LocatesFault t (Err (Syntax e)) = InText t e.span
LocatesFault t _ = Unit {0}
