-- The text of a PATH. `X t r x`: an X begins the text t, leaves r, and represents x.
use Rattle.std.specs.Prelude.{◌≡◌, ℕ, ◌<◌, ◌^◌, true, false, ◌||◌, ◌⊎◌, ◌==◌, Bool, List, [], ◌∷◌, ◌++◌, map, Option, Some, None, Result, Err, codes}
use Rattle.std.specs.Str.Parse.{digits_value}
use Rattle.kdl_text.specs.Bare.{BareString}
use Rattle.kdl_text.specs.Chars.{Text, begins, is_digit, starts}
use Rattle.kdl_text.specs.Spans.{bytes}
use Rattle.kdl_text.specs.Strings.{Run}
use Rattle.kdl_value.specs.Tree.{text_of}
use Rattle.kdl_syntax.specs.Pieces.{StringPiece}
use Rattle.kdl_path.specs.declared.path.Path.{Path}
use Rattle.kdl_path.specs.declared.path.PathFailure.{PathFailure}
use Rattle.kdl_path.specs.declared.path.PathFailure.TheVariants.{Syntax}
use Rattle.kdl_path.specs.declared.path.Step.{Step}
use Rattle.kdl_path.specs.declared.path.Target.{Target}
use Rattle.kdl_path.specs.declared.path.Target.TheVariants.{Node, Argument, Property}

-- a step: the name of a node, and its index if there is one
pub record StepData : Type 0 where
  pub name : Text
  pub index : Option ℕ

-- what is named of the last node
pub data TargetData : Type 0 where
  node : TargetData
  argument : ℕ → TargetData
  property : Text → TargetData

pub record PathData : Type 0 where
  pub steps : List StepData
  pub target : TargetData

-- what a PATH in memory says
abbrev pub step_says : Step → StepData
step_says s = record { name = text_of s.name; index = s.index }

abbrev pub target_says : Target → TargetData
target_says Node = node
target_says (Argument i) = argument i
target_says (Property s) = property (text_of s)

abbrev pub path_says : Path → PathData
path_says p = record { steps = map step_says p.steps.items; target = target_says p.target }

-- `/`, `[`, `]` and `#`, before which a bare name ends
abbrev pub is_mark : ℕ → Bool
is_mark c = (c == 47 || c == 91) || (c == 93 || c == 35)

-- a string in any spelling of a document; a bare one does not begin with `@`, and ends before a mark or at the end
pub record IsName (s r v : Text) : Type 0 where
  pub string : StringPiece s r v
  pub no_key : begins 64 s ≡ false
  pub ends : BareString s r v → (r ≡ []) ⊎ (starts is_mark r ≡ true)

-- decimal digits, all that are here, whose value has 64 bits
pub record IsIndex (s r : Text) (i : ℕ) : Type 0 where
  pub digits : Run is_digit s r
  pub some : starts is_digit s ≡ true
  pub value : i ≡ digits_value 10 digits.run
  pub fits : i < 2 ^ 64

-- a name, and an index in brackets if `[` is after it
pub data IsStep : Text → Text → StepData → Type 0 where
  plain : {s r v : Text} → IsName s r v → begins 91 r ≡ false → IsStep s r (record { name = v; index = None })
  indexed : {s t r v : Text} {i : ℕ} → IsName s (91 ∷ t) v → IsIndex t (93 ∷ r) i → IsStep s r (record { name = v; index = Some i })

-- the whole text: `#` and an index, or `@` and a name
pub data IsTarget : Text → TargetData → Type 0 where
  nth : {s : Text} {i : ℕ} → IsIndex s [] i → IsTarget (35 ∷ s) (argument i)
  key : {s v : Text} → IsName s [] v → IsTarget (64 ∷ s) (property v)

-- all that follows a step: the end, `#` and an index, `/@` and a name, or `/` and another step with what follows that
pub data AfterStep : Text → PathData → Type 0 where
  ends : AfterStep [] (record { steps = []; target = node })
  to_argument : {s : Text} {i : ℕ} → IsIndex s [] i → AfterStep (35 ∷ s) (record { steps = []; target = argument i })
  to_property : {s v : Text} → IsName s [] v → AfterStep (47 ∷ 64 ∷ s) (record { steps = []; target = property v })
  step : {s r : Text} {x : StepData} {p : PathData} → IsStep s r x → AfterStep r p → AfterStep (47 ∷ s) (record { steps = x ∷ p.steps; target = p.target })

-- the whole text: `/` for the document, or a step and what follows it
pub data IsPath : Text → PathData → Type 0 where
  document : IsPath (codes "/") (record { steps = []; target = node })
  place : {s r : Text} {x : StepData} {p : PathData} → IsStep s r x → AfterStep r p → IsPath s (record { steps = x ∷ p.steps; target = p.target })

-- the text was refused
abbrev pub IsSyntax : {A : Type 0} → Result A PathFailure → Type 0
IsSyntax (Err (Syntax f i)) = Unit {0}
IsSyntax _ = ⊥

-- if so, the byte of the fault is in it, on a character boundary
abbrev pub LocatesFault : {A : Type 0} → Text → Result A PathFailure → Type 0
LocatesFault t (Err (Syntax f i)) = (p q : Text) × (t ≡ p ++ q) × (i ≡ bytes p)
LocatesFault t _ = Unit {0}
