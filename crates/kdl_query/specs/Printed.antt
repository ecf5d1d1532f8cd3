-- What a query prints: a text of this query.
use Rattle.std.specs.Prelude.{ℕ, Bool, ◌&&◌, ◌||◌, ◌==◌, cond, [], ◌∷◌, ◌++◌, Option, Some, None, codes, zero, suc}
use Rattle.std.specs.Fmt.{decimal}
use Rattle.std.specs.List.{flat_map, list_any}
use Rattle.kdl_text.specs.Bare.{is_bare}
use Rattle.kdl_text.specs.Chars.{Text}
use Rattle.kdl_value.specs.Data.{text}
use Rattle.kdl_value.specs.Print.{print_value}
use Rattle.kdl_value.specs.Spelled.{spelled}
use Rattle.kdl_query.specs.Data.{Accessor, Literal, NodeTest, Query, Selector, Test, TypeTest, always, argument, arguments, compares, has, name, of_type, properties, property, some_type, start, then, top, ty, type_named, value}
use Rattle.kdl_query.specs.QueryText.{begins_comparison}
use Rattle.kdl_query.specs.Tree.{query_says}
use Rattle.kdl_query.specs.declared.tree.Query as memory
use Rattle.kdl_query.specs.declared.tree.Combinator.{Combinator}
use Rattle.kdl_query.specs.declared.tree.Combinator.TheVariants.{Child, Descendant, NextSibling, LaterSibling}
use Rattle.kdl_query.specs.declared.tree.Comparison.{Comparison}
use Rattle.kdl_query.specs.declared.tree.Comparison.TheVariants.{Equal, NotEqual, Greater, GreaterOrEqual, Less, LessOrEqual, StartsWith, EndsWith, Contains}

-- `> + |` of operators, or a character that begins a comparison before `=`
abbrev pub is_operator_char : ℕ → Bool
is_operator_char c = begins_comparison c || (c == 43 || c == 124)

-- a bare string with such a character is between quotes; each other one is spelled as in a document
abbrev pub print_name : Text → Text
print_name v = cond (is_bare v && list_any is_operator_char v) (34 ∷ v ++ (34 ∷ [])) (spelled v)

-- `()`, or the name in parentheses
abbrev pub print_type : TypeTest → Text
print_type some_type = codes "()"
print_type (type_named v) = codes "(" ++ print_name v ++ codes ")"

-- a property is its name, any other accessor a function; `val()` is `val(0)`
abbrev pub print_accessor : Accessor → Text
print_accessor (argument zero) = codes "val()"
print_accessor (argument (suc i)) = codes "val(" ++ decimal (suc i) ++ codes ")"
print_accessor (property v) = print_name v
print_accessor name = codes "name()"
print_accessor ty = codes "tag()"
print_accessor arguments = codes "values()"
print_accessor properties = codes "props()"

-- the operator of a comparison
abbrev pub print_comparison : Comparison → Text
print_comparison Equal = codes "="
print_comparison NotEqual = codes "!="
print_comparison Greater = codes ">"
print_comparison GreaterOrEqual = codes ">="
print_comparison Less = codes "<"
print_comparison LessOrEqual = codes "<="
print_comparison StartsWith = codes "^="
print_comparison EndsWith = codes "$="
print_comparison Contains = codes "*="

-- a type, a string as a name, or another value as in a document
abbrev pub print_literal : Literal → Text
print_literal (of_type t) = print_type t
print_literal (value (text v)) = print_name v
print_literal (value v) = print_value v

-- a comparison, with one space at each side, and its literal
abbrev pub print_compared : Comparison → Literal → Text
print_compared c l = codes " " ++ print_comparison c ++ codes " " ++ print_literal l

-- a test in brackets
abbrev pub print_test : Test → Text
print_test always = codes "[]"
print_test (has a) = codes "[" ++ print_accessor a ++ codes "]"
print_test (compares a c l) = codes "[" ++ print_accessor a ++ print_compared c l ++ codes "]"

-- what is printed of an option: nothing for none
abbrev pub print_some : {A : Type 0} → (A → Text) → Option A → Text
print_some f None = []
print_some f (Some x) = f x

-- a type, a name and tests, with nothing between them
abbrev pub print_node : NodeTest → Text
print_node n = print_some print_type n.ty ++ print_some print_name n.name ++ flat_map print_test n.tests

-- the operator of a step
abbrev pub print_combinator : Combinator → Text
print_combinator Child = codes ">"
print_combinator Descendant = codes ">>"
print_combinator NextSibling = codes "+"
print_combinator LaterSibling = codes "++"

-- an operator, with one space at each side, and a node
abbrev pub print_step : Combinator → NodeTest → Text
print_step c n = codes " " ++ print_combinator c ++ codes " " ++ print_node n

-- its beginning and its steps
abbrev pub print_selector : Selector → Text
print_selector top = codes "top()"
print_selector (start n) = print_node n
print_selector (then s c n) = print_selector s ++ print_step c n

-- a selector that is not the first
abbrev pub print_other : Selector → Text
print_other s = codes " || " ++ print_selector s

-- selectors, with ` || ` between them
abbrev pub print_query : Query → Text
print_query [] = []
print_query (s ∷ q) = print_selector s ++ flat_map print_other q

-- what a query in memory prints
abbrev pub query_prints : memory.Query → Text
query_prints q = print_query (query_says q)
