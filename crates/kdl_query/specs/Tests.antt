-- Which nodes meet a test.
use Rattle.std.specs.Prelude.{◌≡◌, ◌++◌, ◌⊎◌, ℕ, Option, Some, None, IsSome, MatchOption, All, ⊤}
use Rattle.std.specs.declared.cmp.Ordering.TheVariants.{Less as IsLess, Equal as IsEqual, Greater as IsGreater}
use Rattle.kdl_text.specs.Chars.{Text}
use Rattle.kdl_value.specs.Data.{Value, text, truth, null}
use Rattle.kdl_entry.specs.Data.{Entry}
use Rattle.kdl_grammar.specs.Data.{Node}
use Rattle.kdl.specs.Said.{last_property, nth_argument, said_name, said_type}
use Rattle.kdl_query.specs.Data.{Accessor, Literal, NodeTest, Test, TypeTest, always, argument, arguments, compares, has, name, of_type, properties, property, some_type, ty, type_named, value}
use Rattle.kdl_query.specs.Decimal.{exact_order}
use Rattle.kdl_query.specs.declared.tree.Comparison.{Comparison}
use Rattle.kdl_query.specs.declared.tree.Comparison.TheVariants.{Equal, NotEqual, Greater, GreaterOrEqual, Less, LessOrEqual, StartsWith, EndsWith, Contains}

-- there is a type, and where a name is asked for, it is that one
abbrev pub IsTyped : TypeTest → Option Text → Type 0
IsTyped some_type t = IsSome t
IsTyped (type_named s) t = t ≡ Some s

-- the two are the same value: numbers are compared by their exact value
abbrev pub IsSame : Value → Value → Type 0
IsSame (text a) (text v) = a ≡ v
IsSame (truth a) (truth v) = a ≡ v
IsSame null null = ⊤
IsSame a v = exact_order a v ≡ Some IsEqual

-- both are strings, and are so related
abbrev pub BothTexts : (Text → Text → Type 0) → Value → Value → Type 0
BothTexts R (text a) (text v) = R a v
BothTexts R _ _ = ⊥

-- v is at the front of a, at its end, or somewhere in it
abbrev pub HasPrefix : Text → Text → Type 0
HasPrefix a v = (r : Text) × (a ≡ v ++ r)

abbrev pub HasSuffix : Text → Text → Type 0
HasSuffix a v = (p : Text) × (a ≡ p ++ v)

abbrev pub HasInfix : Text → Text → Type 0
HasInfix a v = (p : Text) × (r : Text) × (a ≡ p ++ (v ++ r))

-- a value compares so with a literal
abbrev pub ComparesValue : Comparison → Value → Value → Type 0
ComparesValue Equal a v = IsSame a v
ComparesValue NotEqual a v = ¬ IsSame a v
ComparesValue Greater a v = exact_order a v ≡ Some IsGreater
ComparesValue GreaterOrEqual a v = (exact_order a v ≡ Some IsGreater) ⊎ (exact_order a v ≡ Some IsEqual)
ComparesValue Less a v = exact_order a v ≡ Some IsLess
ComparesValue LessOrEqual a v = (exact_order a v ≡ Some IsLess) ⊎ (exact_order a v ≡ Some IsEqual)
ComparesValue StartsWith a v = BothTexts HasPrefix a v
ComparesValue EndsWith a v = BothTexts HasSuffix a v
ComparesValue Contains a v = BothTexts HasInfix a v

-- what is found compares so with a literal: by its value, or by its own type
abbrev pub Compares : Comparison → Literal → Entry → Type 0
Compares c (value v) e = ComparesValue c e.value v
Compares Equal (of_type t) e = IsTyped t e.ty
Compares NotEqual (of_type t) e = ¬ IsTyped t e.ty
Compares _ (of_type t) e = ⊥

-- a string, as an argument
abbrev pub as_entry : Text → Entry
as_entry s = record { key = None; ty = None; value = text s }

-- the accessor finds this in the node
abbrev pub Finds : Accessor → Node → Entry → Type 0
Finds (argument i) n e = nth_argument i n ≡ Some e
Finds (property k) n e = last_property k n ≡ Some e
Finds name n e = e ≡ as_entry (said_name n)
Finds ty n e = (t : Text) × (said_type n ≡ Some t) × (e ≡ as_entry t)
Finds arguments n e = (i : ℕ) × (nth_argument i n ≡ Some e)
Finds properties n e = (k : Text) × (last_property k n ≡ Some e)

-- the test holds of the node
abbrev pub Tests : Test → Node → Type 0
Tests always n = ⊤
Tests (has a) n = (e : Entry) × Finds a n e
Tests (compares a c l) n = (e : Entry) × Finds a n e × Compares c l e

-- the node has the type and the name that are asked for, and every test holds of it
pub record Meets (t : NodeTest) (n : Node) : Type 0 where
  pub ty : MatchOption t.ty ⊤ (λ s. IsTyped s (said_type n))
  pub name : MatchOption t.name ⊤ (λ s. said_name n ≡ s)
  pub tests : All (λ s. Tests s n) t.tests
