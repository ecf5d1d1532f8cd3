-- What a query says, whatever its layout in memory.
use Rattle.std.specs.Prelude.{ℕ, List, [], Option, None}
use Rattle.kdl_text.specs.Chars.{Text}
use Rattle.kdl_value.specs.Data.{Value}
use Rattle.kdl_query.specs.declared.tree.Combinator.{Combinator}
use Rattle.kdl_query.specs.declared.tree.Comparison.{Comparison}

-- some type, or the type of that name
pub data TypeTest : Type 0 where
  some_type : TypeTest
  type_named : Text → TypeTest

-- the argument at a place, the property of a name, the name, the type, each argument, each property
pub data Accessor : Type 0 where
  argument : ℕ → Accessor
  property : Text → Accessor
  name : Accessor
  ty : Accessor
  arguments : Accessor
  properties : Accessor

-- what a value is compared with: a type or a value
pub data Literal : Type 0 where
  of_type : TypeTest → Literal
  value : Value → Literal

-- nothing is asked, what the accessor finds is there, or something that it finds compares so
pub data Test : Type 0 where
  always : Test
  has : Accessor → Test
  compares : Accessor → Comparison → Literal → Test

-- a type and a name, where they are asked for, and tests
pub record NodeTest : Type 0 where
  pub ty : Option TypeTest
  pub name : Option Text
  pub tests : List Test

-- `top()`, a test of a node, or a selector and what comes after it
pub data Selector : Type 0 where
  top : Selector
  start : NodeTest → Selector
  then : Selector → Combinator → NodeTest → Selector

abbrev pub Query : Type 0
Query = List Selector

-- the test that each node meets
abbrev pub any_node : NodeTest
any_node = record { ty = None; name = None; tests = [] }
