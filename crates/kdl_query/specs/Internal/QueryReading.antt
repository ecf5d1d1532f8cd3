-- What the readers of query texts return.
use Rattle.std.specs.Prelude.{◌≡◌, ℕ, ◌<◌, ◌^◌, pos, Bool, true, false, not, ◌&&◌, ◌||◌, ◌==◌, [], ◌∷◌, ◌++◌, Option, Some, None, Result, Ok, Err, Vec, fold, map}
use Rattle.std.specs.declared.alloc.Global.{Global}
use Rattle.kdl_text.specs.Bare.{BareString}
use Rattle.kdl_text.specs.Chars.{Text, begins, starts}
use Rattle.kdl_text.specs.Internal.Here.{Here, tail}
use Rattle.kdl_text.specs.Internal.Reading.{Moves}
use Rattle.kdl_text.specs.Numbers.{NumberValue, whole_value}
use Rattle.kdl_value.specs.Data.{Value}
use Rattle.kdl_syntax.specs.Pieces.{StringPiece}
use Rattle.kdl_query.specs.Data as data'
use Rattle.kdl_query.specs.Data.{Accessor, Literal, NodeTest, Query, Test, TypeTest, property, value}
use Rattle.kdl_query.specs.QueryText.{After, IsAccessor, IsFirst, IsKey, IsLiteral, IsName, IsNode, IsOperator, IsOperatorWord, IsQuery, IsTest, IsType, QuerySpace, Spaces, begins_comparison, ends_type, is_allowed}
use Rattle.kdl_query.specs.Tree.{selector_says, step_says}
use Rattle.kdl_query.specs.declared.error.Refusal.{Refusal}
use Rattle.kdl_query.specs.declared.error.Refusal.TheVariants.{Fault, Memory}
use Rattle.kdl_query.specs.declared.tree.Combinator.{Combinator}
use Rattle.kdl_query.specs.declared.tree.Comparison.{Comparison}
use Rattle.kdl_query.specs.declared.tree.Selector.{Selector}
use Rattle.kdl_query.specs.declared.tree.Step.{Step}

-- an X was read, or none begins here, or an allocation failed
abbrev pub Returns : {A B : Type 0} → (Text → Text → B → Type 0) → (A → B) → Result A Refusal → Text → Text → Type 0
Returns X says (Ok x) s rest = X s rest (says x)
Returns {B = B} X says (Err (Fault e)) s rest = (r : Text) (y : B) → X s r y → ⊥
Returns X says (Err Memory) s rest = Unit {0}

-- the same, and the cursor advanced
pub record ReadsPiece {A B : Type 0} (X : Text → Text → B → Type 0) (says : A → B) (result : Result A Refusal) (old new : Here) : Type 0 where
  pub returns : Returns X says result old.rest new.rest
  pub moves : Moves old new

-- the character c
abbrev pub OneChar : ℕ → Text → Text → Unit {0} → Type 0
OneChar c s r u = s ≡ c ∷ r

-- spaces and the character c
abbrev pub Closes : ℕ → Text → Text → Unit {0} → Type 0
Closes c s r u = Spaces s (c ∷ r)

-- the text t was read, or it is not here
abbrev pub AteText : Text → Bool → Here → Here → Type 0
AteText t true old new = old.rest ≡ t ++ new.rest
AteText t false old new = ((r : Text) → old.rest ≡ t ++ r → ⊥) × (new.rest ≡ old.rest)

-- a string that is no operator
pub record IsWord (s r v : Text) : Type 0 where
  pub string : StringPiece s r v
  pub no_operator : BareString s r v → ¬ IsOperatorWord v

-- the rest of a type, after its `(`
abbrev pub TypeRest : Text → Text → TypeTest → Type 0
TypeRest s r t = IsType (40 ∷ s) r t

-- the same of an option: an X was read, or none begins here
abbrev pub Finds : {A B : Type 0} → (Text → Text → B → Type 0) → (A → B) → Option A → Text → Text → Type 0
Finds X says (Some x) s rest = X s rest (says x)
Finds {B = B} X says None s rest = ((r : Text) (y : B) → X s r y → ⊥) × (rest ≡ s)

-- a string, a number or a keyword as a literal
abbrev pub ValuePiece : Text → Text → Value → Type 0
ValuePiece s r v = IsLiteral s r (value v)

-- a number sign begins the text, and neither another one nor a quote is after it
abbrev pub begins_keyword : Text → Bool
begins_keyword s = begins 35 s && not (starts (λ c. c == 34 || c == 35) (tail s))

-- a literal that may follow the accessor and the comparison
pub record FittingLiteral (a : Accessor) (c : Comparison) (s r : Text) (l : Literal) : Type 0 where
  pub literal : IsLiteral s r l
  pub allowed : is_allowed a c l ≡ true

-- the index that a number is, if it is one
abbrev pub IndexOf : NumberValue → Option ℕ → Type 0
IndexOf n (Some i) = (n ≡ whole_value (pos i)) × (i < 2 ^ 64)
IndexOf n None = (i : ℕ) → n ≡ whole_value (pos i) → i < 2 ^ 64 → ⊥

-- the rest of an accessor after its word and `(`
abbrev pub AfterWord : Text → Text → Text → Accessor → Type 0
AfterWord w s r a = IsAccessor (w ++ s) r a

-- spaces and `)` after the word of an accessor
pub record Word (a : Accessor) (s r : Text) (b : Accessor) : Type 0 where
  pub closes : Spaces s (41 ∷ r)
  pub same : b ≡ a

-- a character of a comparison is at the end of the name, and `=` begins the text after it
pub record Joins (v s : Text) : Type 0 where
  pub before : Text
  pub last : ℕ
  pub name : v ≡ before ++ last ∷ []
  pub compares : begins_comparison last ≡ true
  pub equals : begins 61 s ≡ true

-- the name of a property as an accessor
pub data KeyPiece : Text → Text → Accessor → Type 0 where
  piece : {s r v : Text} → IsKey s r v → KeyPiece s r (property v)

-- the rest of a test, after its `[`
abbrev pub TestRest : Text → Text → Test → Type 0
TestRest s r x = IsTest (91 ∷ s) r x

-- the name that directly follows a type, if one does
pub data NameAfter : Text → Text → Option Text → Type 0 where
  nothing : {s : Text} → ends_type s ≡ true → NameAfter s s None
  named : {s r v : Text} → ends_type s ≡ false → IsName s r v → NameAfter s r (Some v)

-- the rest of a node with a type, after the `(` of the type
abbrev pub NodeRest : Text → Text → NodeTest → Type 0
NodeRest s r n = IsNode (40 ∷ s) r n

-- both hold of the same queries
pub record Same (P Q : Query → Type 0) : Type 0 where
  pub on : (q : Query) → P q → Q q
  pub back : (q : Query) → Q q → P q

-- no space and no operator begins here
pub record NoStep (s : Text) : Type 0 where
  pub space : (t : Text) → QuerySpace s t → ⊥
  pub operator : (t : Text) (c : Combinator) → IsOperator s t c → ⊥

-- steps were read after a selector: the same queries follow these steps and the text r
abbrev pub ReadsSteps : Result (Vec Step Global) Refusal → Text → Text → Type 0
ReadsSteps (Ok v) s r = ((x : data'.Selector) → Same (After x s) (After (fold step_says x v.items) r)) × NoStep r
ReadsSteps (Err (Fault e)) s r = (x : data'.Selector) (q : Query) → After x s q → ⊥
ReadsSteps (Err Memory) s r = Unit {0}

-- selectors from here to the end of the text
pub data Selectors : Text → Query → Type 0 where
  selectors : {s t r : Text} {x : data'.Selector} {q : Query} → Spaces s t → IsFirst t r x → After x r q → Selectors s q

abbrev pub ReadsSelector : Result Selector Refusal → Text → Text → Type 0
ReadsSelector (Ok x) s r = Same (Selectors s) (After (selector_says x) r) × NoStep r
ReadsSelector (Err (Fault e)) s r = (q : Query) → Selectors s q → ⊥
ReadsSelector (Err Memory) s r = Unit {0}

-- the queries that the text is: this one alone, or none
abbrev pub ReadsSelectors : Result (Vec Selector Global) Refusal → Text → Type 0
ReadsSelectors (Ok v) s = IsQuery s (map selector_says v.items)
ReadsSelectors (Err (Fault e)) s = (q : Query) → IsQuery s q → ⊥
ReadsSelectors (Err Memory) s = Unit {0}
