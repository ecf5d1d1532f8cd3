-- The texts and the values of a query in memory.
use Rattle.std.proofs.Common.{List, [], ◌∷◌, map, fold, option_map, Option, Some, None, String, Global}
use Rattle.std.specs.List.{AllByRecursion}
use Rattle.std.specs.Prelude.{IfSome}
use Rattle.kdl_value.specs.Tree.{text_of, value_tree}
use Rattle.kdl_value.specs.declared.value.KdlValue.{KdlValue}
use Rattle.kdl_value.specs.declared.value.KdlValue.TheVariants.{String as StringValue, Integer, Float as FloatValue, Bool as BoolValue, Null}
use Rattle.kdl_value.proofs.WellFormed.{other_value, text_scalars}
use Rattle.kdl_query.specs.Data as data'
use Rattle.kdl_query.specs.Tree.{accessor_says, first_says, literal_says, node_test_says, query_says, selector_says, step_says, test_says, type_test_says}
use Rattle.kdl_query.specs.declared.tree.Accessor.{Accessor}
use Rattle.kdl_query.specs.declared.tree.Accessor.TheVariants.{Argument, Property, Name, «Type» as TypeOf, Arguments, Properties}
use Rattle.kdl_query.specs.declared.tree.First.{First}
use Rattle.kdl_query.specs.declared.tree.First.TheVariants.{Top, Node}
use Rattle.kdl_query.specs.declared.tree.Literal.{Literal}
use Rattle.kdl_query.specs.declared.tree.Literal.TheVariants.{«Type» as OfType, Value}
use Rattle.kdl_query.specs.declared.tree.NodeTest.{NodeTest}
use Rattle.kdl_query.specs.declared.tree.Query.{Query}
use Rattle.kdl_query.specs.declared.tree.Selector.{Selector}
use Rattle.kdl_query.specs.declared.tree.Step.{Step}
use Rattle.kdl_query.specs.declared.tree.Test.{Test}
use Rattle.kdl_query.specs.declared.tree.Test.TheVariants.{Always, Has, Compares}
use Rattle.kdl_query.specs.declared.tree.TypeTest.{TypeTest}
use Rattle.kdl_query.specs.declared.tree.TypeTest.TheVariants.{Any, Named}
use Rattle.kdl_query.proofs.Printing.Held.{AccessorHeld, LiteralHeld, NameHeld, NodeHeld, QueryHeld, SelectorHeld, TestHeld, TypeHeld, ValueHeld}

type_held : (t : TypeTest) → TypeHeld (type_test_says t)
type_held Any = tt
type_held (Named s) = text_scalars s

accessor_held : (a : Accessor) → AccessorHeld (accessor_says a)
accessor_held (Argument i) = tt
accessor_held (Property s) = text_scalars s
accessor_held Name = tt
accessor_held TypeOf = tt
accessor_held Arguments = tt
accessor_held Properties = tt

value_held : (v : KdlValue) → ValueHeld (value_tree v)
value_held (StringValue s) = text_scalars s
value_held (Integer z) = tt
value_held (FloatValue f) = other_value (FloatValue f) (λ z e. cc)
value_held (BoolValue b) = tt
value_held Null = tt

literal_held : (l : Literal) → LiteralHeld (literal_says l)
literal_held (OfType t) = type_held t
literal_held (Value v) = value_held v

test_held : (x : Test) → TestHeld (test_says x)
test_held Always = tt
test_held (Has a) = accessor_held a
test_held (Compares a c l) = (accessor_held a, literal_held l)

tests_held : (xs : List Test) → AllByRecursion TestHeld (map test_says xs)
tests_held [] = tt
tests_held (x ∷ xs) = (test_held x, tests_held xs)

some_type_held : (o : Option TypeTest) → IfSome (option_map type_test_says o) TypeHeld
some_type_held None = tt
some_type_held (Some t) = type_held t

some_name_held : (o : Option (String Global)) → IfSome (option_map text_of o) NameHeld
some_name_held None = tt
some_name_held (Some s) = text_scalars s

node_held : (n : NodeTest) → NodeHeld (node_test_says n)
node_held n = record { ty = some_type_held n.node_type; name = some_name_held n.name; tests = tests_held n.tests.items }

first_held : (f : First) → SelectorHeld (first_says f)
first_held Top = tt
first_held (Node n) = node_held n

steps_held : (s : data'.Selector) (xs : List Step) → SelectorHeld s → SelectorHeld (fold step_says s xs)
steps_held s [] h = h
steps_held s (x ∷ xs) h = steps_held (step_says s x) xs (h, node_held x.node)

selectors_held : (xs : List Selector) → AllByRecursion SelectorHeld (map selector_says xs)
selectors_held [] = tt
selectors_held (x ∷ xs) = (steps_held (first_says x.first) x.steps.items (first_held x.first), selectors_held xs)

pub query_held : (q : Query) → QueryHeld (query_says q)
query_held q = selectors_held q.selectors.items
