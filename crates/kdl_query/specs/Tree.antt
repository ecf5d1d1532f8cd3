-- What a query in memory says.
use Rattle.std.specs.Prelude.{map, option_map, fold}
use Rattle.kdl_value.specs.Tree.{text_of, value_tree}
use Rattle.kdl_query.specs.Data as data'
use Rattle.kdl_query.specs.declared.tree.Accessor.{Accessor}
use Rattle.kdl_query.specs.declared.tree.Accessor.TheVariants.{Argument, Property, Name, «Type» as TypeOf, Arguments, Properties}
use Rattle.kdl_query.specs.declared.tree.First.{First}
use Rattle.kdl_query.specs.declared.tree.First.TheVariants.{Top, Node}
use Rattle.kdl_query.specs.declared.tree.Literal.{Literal}
use Rattle.kdl_query.specs.declared.tree.Literal.TheVariants.{«Type» as OfType, Value}
use Rattle.kdl_query.specs.declared.tree.NodeTest.{NodeTest}
use Rattle.kdl_query.specs.declared.tree.Query.{Query}
use Rattle.kdl_query.specs.declared.tree.Selector.{Selector}
use Rattle.kdl_query.specs.declared.tree.Step.{Step}
use Rattle.kdl_query.specs.declared.tree.Test.{Test}
use Rattle.kdl_query.specs.declared.tree.Test.TheVariants.{Always, Has, Compares}
use Rattle.kdl_query.specs.declared.tree.TypeTest.{TypeTest}
use Rattle.kdl_query.specs.declared.tree.TypeTest.TheVariants.{Any, Named}

abbrev pub type_test_says : TypeTest → data'.TypeTest
type_test_says Any = data'.some_type
type_test_says (Named s) = data'.type_named (text_of s)

abbrev pub accessor_says : Accessor → data'.Accessor
accessor_says (Argument i) = data'.argument i
accessor_says (Property s) = data'.property (text_of s)
accessor_says Name = data'.name
accessor_says TypeOf = data'.ty
accessor_says Arguments = data'.arguments
accessor_says Properties = data'.properties

abbrev pub literal_says : Literal → data'.Literal
literal_says (OfType t) = data'.of_type (type_test_says t)
literal_says (Value v) = data'.value (value_tree v)

abbrev pub test_says : Test → data'.Test
test_says Always = data'.always
test_says (Has a) = data'.has (accessor_says a)
test_says (Compares a c l) = data'.compares (accessor_says a) c (literal_says l)

abbrev pub node_test_says : NodeTest → data'.NodeTest
node_test_says t = record { ty = option_map type_test_says t.node_type; name = option_map text_of t.name; tests = map test_says t.tests.items }

abbrev pub first_says : First → data'.Selector
first_says Top = data'.top
first_says (Node t) = data'.start (node_test_says t)

abbrev pub step_says : data'.Selector → Step → data'.Selector
step_says s t = data'.then s t.combinator (node_test_says t.node)

-- its first part, with each step after what comes before it
abbrev pub selector_says : Selector → data'.Selector
selector_says s = fold step_says (first_says s.first) s.steps.items

abbrev pub query_says : Query → data'.Query
query_says q = map selector_says q.selectors.items
