-- Settings, and what is wrong with them, given the data of a text.
use Rattle.std.specs.Option.{option_map_or}
use Rattle.std.specs.Prelude.{ℕ, ℤ, pos, Bool, false, ◌&&◌, int_le, if◌then◌else◌, List, [], ◌∷◌, ◌++◌, Option, Some, None, IsSome, option_and_then, Result, Err, chars, codes}
use Rattle.kdl.specs.Words.{Nodes, Text, Value, argument_named, document_says, document_span_of, entry_tree, integer_value, said_arg, text_value, truth_value}
use Rattle.kdl.specs.declared.SourceSpan.{SourceSpan}
use Rattle.kdl.specs.declared.document.KdlDocument.{KdlDocument}
use Rattle.use_files.specs.declared.settings.Fault.{Fault}
use Rattle.use_files.specs.declared.settings.Refused.{Refused}
use Rattle.use_files.specs.declared.settings.Refused.TheVariants.{Syntax, Unfit}

-- a whole number from 1 to the greatest
abbrev pub number_value : ℤ → Value → Option ℤ
number_value most v = option_and_then (λ n. if int_le (pos 1) n && int_le n most then Some n else None) (integer_value v)

-- the default if there is no value, else the value, if it is of that type
abbrev pub setting : {A : Type 0} → (Value → Option A) → A → Option Value → Option A
setting read default None = Some default
setting read default (Some v) = read v

-- the host of a text, a string
abbrev pub host : Nodes → Option Text
host x = option_and_then text_value (said_arg (chars (codes "host")) x)

-- the port, 8080 if the text has none
abbrev pub port : Nodes → Option ℤ
port x = setting (number_value (pos 65535)) (pos 8080) (said_arg (chars (codes "port")) x)

-- whether to be verbose, off if the text has no such setting
abbrev pub verbose : Nodes → Option Bool
verbose x = setting truth_value false (said_arg (chars (codes "verbose")) x)

-- each setting exists, or has a default, and is of its type
pub record Fits (x : Nodes) : Type 0 where
  pub host : IsSome (host x)
  pub port : IsSome (port x)
  pub verbose : IsSome (verbose x)

-- the text was refused; the settings do not fit
abbrev pub IsSyntax : {A : Type 0} → Result A Refused → Type 0
IsSyntax (Err (Syntax e)) = Unit {0}
IsSyntax _ = ⊥

abbrev pub IsUnfit : {A : Type 0} → Result A Refused → Type 0
IsUnfit (Err (Unfit faults)) = Unit {0}
IsUnfit _ = ⊥

-- a fault, with its text as bytes
pub record FaultView : Type 0 where
  pub wants : List ℕ
  pub span : SourceSpan

abbrev pub fault_view : Fault → FaultView
fault_view f = record { wants = f.wants.now; span = f.span }

-- the span of the first argument of the first node of that name, or of the document if there is none
abbrev pub place_of : List ℕ → KdlDocument → SourceSpan
place_of name d = option_map_or (λ e. (entry_tree e).span) (argument_named name d) (document_span_of d)

-- the fault of a setting that does not fit
abbrev pub fault_at : List ℕ → List ℕ → KdlDocument → List FaultView
fault_at wants name d = record { wants = wants; span = place_of name d } ∷ []

abbrev pub fault_unless : {A : Type 0} → Option A → List ℕ → List ℕ → KdlDocument → List FaultView
fault_unless (Some v) wants name d = []
fault_unless None wants name d = fault_at wants name d

-- the fault of each setting
abbrev pub host_fault : KdlDocument → List FaultView
host_fault d = fault_unless (host (document_says d)) (codes "host wants a text") (codes "host") d

abbrev pub port_fault : KdlDocument → List FaultView
port_fault d = fault_unless (port (document_says d)) (codes "port wants a number from 1 to 65535") (codes "port") d

abbrev pub verbose_fault : KdlDocument → List FaultView
verbose_fault d = fault_unless (verbose (document_says d)) (codes "verbose wants #true or #false") (codes "verbose") d

-- all faults of the settings, in their order
abbrev pub faults_of : KdlDocument → List FaultView
faults_of d = host_fault d ++ port_fault d ++ verbose_fault d
