-- What memory says of the texts and the values of a query.
use Rattle.std.proofs.Common.{◌≡◌, true}
use Rattle.std.specs.List.{AllByRecursion, list_all}
use Rattle.std.specs.Prelude.{IfSome}
use Rattle.kdl_text.specs.Chars.{Text, is_scalar}
use Rattle.kdl_value.specs.Data.{Value, integer}
use Rattle.kdl_value.specs.WellFormed.{IsWellFormed}
use Rattle.kdl_query.specs.Data.{Accessor, Literal, NodeTest, Query, Selector, Test, TypeTest, always, compares, has, of_type, property, some_type, start, then, top, type_named, value}

abbrev pub NameHeld : Text → Type 0
NameHeld v = list_all is_scalar v ≡ true

abbrev pub TypeHeld : TypeTest → Type 0
TypeHeld some_type = Unit {0}
TypeHeld (type_named v) = NameHeld v

abbrev pub AccessorHeld : Accessor → Type 0
AccessorHeld (property v) = NameHeld v
AccessorHeld _ = Unit {0}

-- of a whole number the text says that it fits
abbrev pub ValueHeld : Value → Type 0
ValueHeld (integer z) = Unit {0}
ValueHeld v = IsWellFormed v

abbrev pub LiteralHeld : Literal → Type 0
LiteralHeld (of_type t) = TypeHeld t
LiteralHeld (value v) = ValueHeld v

abbrev pub TestHeld : Test → Type 0
TestHeld always = Unit {0}
TestHeld (has a) = AccessorHeld a
TestHeld (compares a c l) = AccessorHeld a × LiteralHeld l

pub record NodeHeld (n : NodeTest) : Type 0 where
  pub ty : IfSome n.ty TypeHeld
  pub name : IfSome n.name NameHeld
  pub tests : AllByRecursion TestHeld n.tests

abbrev pub SelectorHeld : Selector → Type 0
SelectorHeld top = Unit {0}
SelectorHeld (start n) = NodeHeld n
SelectorHeld (then s c n) = SelectorHeld s × NodeHeld n

abbrev pub QueryHeld : Query → Type 0
QueryHeld q = AllByRecursion SelectorHeld q
