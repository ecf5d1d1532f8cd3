-- What the readers of PATHs return.
use Rattle.std.specs.Prelude.{◌≡◌, ℕ, ◌+◌, ◌<◌, ◌^◌, Bool, true, false, [], ◌∷◌, ◌++◌, List, Option, Some, None, Result, Ok, Err}
use Rattle.std.specs.Str.Parse.{digits_value}
use Rattle.kdl_text.specs.Chars.{Text, begins, is_digit, starts}
use Rattle.kdl_text.specs.Internal.Here.{Here}
use Rattle.kdl_text.specs.Internal.Reading.{Moves}
use Rattle.kdl_text.specs.Spans.{bytes}
use Rattle.kdl_text.specs.declared.strings.StringFailure.{StringFailure}
use Rattle.kdl_text.specs.declared.strings.StringFailure.TheVariants.{Memory as NoMemory, Fault as StringFault}
use Rattle.kdl_path.specs.declared.path.PathFault.{PathFault}
use Rattle.kdl_path.specs.PathText.{AfterStep, IsPath, IsTarget, PathData, StepData, TargetData}
use Rattle.kdl_path.specs.declared.path.PathFailure.{PathFailure}
use Rattle.kdl_path.specs.declared.path.PathFailure.TheVariants.{Syntax, Memory}

-- the failure of a string at a byte
abbrev pub StringFails : StringFailure → ℕ → PathFailure → Type 0
StringFails NoMemory i e = e ≡ Memory
StringFails (StringFault f) i e = (g : PathFault) × (e ≡ Syntax g i)

-- a byte of the text to come
abbrev pub IsPlace : Here → ℕ → Type 0
IsPlace h i = (p q : Text) × (h.rest ≡ p ++ q) × (i ≡ h.at + bytes p)

-- an X was read, or none begins here and the fault has a place, or an allocation failed
abbrev pub Returns : {A B : Type 0} → (Text → Text → B → Type 0) → (A → B) → Result A PathFailure → Here → Text → Type 0
Returns X says (Ok x) old rest = X old.rest rest (says x)
Returns {B = B} X says (Err (Syntax f i)) old rest = ((r : Text) (y : B) → X old.rest r y → ⊥) × IsPlace old i
Returns X says (Err Memory) old rest = Unit {0}

-- the same, and the cursor advanced
pub record Reads {A B : Type 0} (X : Text → Text → B → Type 0) (says : A → B) (result : Result A PathFailure) (old new : Here) : Type 0 where
  pub returns : Returns X says result old new.rest
  pub moves : Moves old new

-- the whole text to come is an X
abbrev pub Whole : {B : Type 0} → (Text → B → Type 0) → Text → Text → B → Type 0
Whole X s r x = X s x × (r ≡ [])

-- the character c
abbrev pub OneChar : ℕ → Text → Text → Unit {0} → Type 0
OneChar c s r u = s ≡ c ∷ r

-- nothing is to come
abbrev pub Nothing : Text → Text → Unit {0} → Type 0
Nothing s r u = (s ≡ []) × (r ≡ [])

-- a digit was read, or none is here
abbrev pub AteDigit : Bool → Text → Text → Type 0
AteDigit true s r = (c : ℕ) × (is_digit c ≡ true) × (s ≡ c ∷ r)
AteDigit false s r = (starts is_digit s ≡ false) × (r ≡ s)

-- the number that digits write, if there are some, and it has 64 bits
abbrev pub NumberOf : Text → Option ℕ → Type 0
NumberOf w (Some i) = (starts is_digit w ≡ true) × (i ≡ digits_value 10 w) × (i < 2 ^ 64)
NumberOf w None = starts is_digit w ≡ true → digits_value 10 w < 2 ^ 64 → ⊥

-- a slash was read, without `@` after it, or none is here
abbrev pub AteSlash : Bool → Text → Text → Type 0
AteSlash true s r = (s ≡ 47 ∷ r) × (begins 64 r ≡ false)
AteSlash false s r = ((t : Text) → s ≡ 47 ∷ t → begins 64 t ≡ true) × (r ≡ s)

-- the rest of a target after its first character
abbrev pub TargetRest : ℕ → Text → TargetData → Type 0
TargetRest c s t = IsTarget (c ∷ s) t

-- the path without steps that has the target
abbrev pub only_target : TargetData → PathData
only_target t = record { steps = []; target = t }

-- all that follows the last step
pub record IsEnd (s : Text) (t : TargetData) : Type 0 where
  pub after : AfterStep s (only_target t)

-- the path that goes on after these steps
abbrev pub then_path : List StepData → PathData → PathData
then_path xs p = record { steps = xs ++ p.steps; target = p.target }

-- the steps were read from the text s, and t is left: the PATHs of s are these steps and what follows them in t
pub record StepsSoFar (s t : Text) (xs : List StepData) : Type 0 where
  pub on : (p : PathData) → AfterStep t p → IsPath s (then_path xs p)
  pub back : (q : PathData) → IsPath s q → (p : PathData) × AfterStep t p × (q ≡ then_path xs p)
