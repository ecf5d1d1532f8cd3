-- Whether a node meets a test, as it is computed.
use Rattle.std.specs.List.{ends_with, list_all, list_any, starts_with}
use Rattle.std.specs.Option.{option_map_or}
use Rattle.std.specs.Ordering.{is_eq, is_ge, is_gt, is_le, is_lt}
use Rattle.std.specs.Prelude.{nat_eq, Bool, true, false, ◌&&◌, ◌||◌, not, if◌then◌else◌, List, [], ◌∷◌, Option, Some, None, is_some}
use Rattle.std.specs.declared.cmp.Ordering.{Ordering}
use Rattle.kdl_text.specs.Chars.{Text}
use Rattle.kdl_value.specs.Data.{Value, text, integer, float, truth, null}
use Rattle.kdl_entry.specs.Data.{Entry}
use Rattle.kdl_grammar.specs.Data.{Node}
use Rattle.kdl.specs.Said.{has_key, has_no_key, last_property, nth_argument, said_entries, said_name, said_type}
use Rattle.kdl_parts.specs.EntryLists.{same_text}
use Rattle.kdl_value.specs.Tree.{is_null}
use Rattle.kdl_query.specs.Data.{Accessor, Literal, NodeTest, Test, TypeTest, always, argument, arguments, compares, has, name, of_type, properties, property, some_type, ty, type_named, value}
use Rattle.kdl_query.specs.Decimal.{exact_order}
use Rattle.kdl_query.specs.Tests.{as_entry}
use Rattle.kdl_query.specs.declared.tree.Comparison.{Comparison}
use Rattle.kdl_query.specs.declared.tree.Comparison.TheVariants.{Equal, NotEqual, Greater, GreaterOrEqual, Less, LessOrEqual, StartsWith, EndsWith, Contains}

-- the type meets a test
abbrev pub is_typed : TypeTest → Option Text → Bool
is_typed some_type t = is_some t
is_typed (type_named s) t = option_map_or (λ u. same_text u s) t false

-- the two are the same value, where they are no strings
abbrev pub same_truth : Bool → Bool → Bool
same_truth a b = if a then b else not b

abbrev pub is_truth : Bool → Value → Bool
is_truth b (truth v) = same_truth b v
is_truth b _ = false

abbrev pub is_equal : Option Ordering → Bool
is_equal o = option_map_or is_eq o false

abbrev pub is_same : Value → Value → Bool
is_same (truth b) v = is_truth b v
is_same null v = is_null v
is_same (integer z) v = is_equal (exact_order (integer z) v)
is_same (float t) v = is_equal (exact_order (float t) v)
is_same (text s) v = is_equal (exact_order (text s) v)

-- an order is the one that is asked for
abbrev pub is_ordered : Comparison → Ordering → Bool
is_ordered Greater o = is_gt o
is_ordered GreaterOrEqual o = is_ge o
is_ordered Less o = is_lt o
is_ordered LessOrEqual o = is_le o
is_ordered _ o = false

abbrev pub is_ordered_if : Comparison → Option Ordering → Bool
is_ordered_if c o = option_map_or (is_ordered c) o false

-- the text is somewhere in the other
abbrev pub has_infix : Text → Text → Bool
has_infix [] v = starts_with nat_eq [] v
has_infix (c ∷ a) v = starts_with nat_eq (c ∷ a) v || has_infix a v

-- two texts compare so
abbrev pub compares_text : Comparison → Text → Text → Bool
compares_text Equal a v = same_text a v
compares_text NotEqual a v = not (same_text a v)
compares_text StartsWith a v = starts_with nat_eq a v
compares_text EndsWith a v = ends_with nat_eq a v
compares_text Contains a v = has_infix a v
compares_text _ a v = false

-- no text is another value
abbrev pub differs : Comparison → Bool
differs NotEqual = true
differs _ = false

abbrev pub compares_string : Comparison → Text → Value → Bool
compares_string c a (text v) = compares_text c a v
compares_string c a _ = differs c

-- a value that is no string compares so
abbrev pub compares_other : Comparison → Value → Value → Bool
compares_other Equal a v = is_same a v
compares_other NotEqual a v = not (is_same a v)
compares_other Greater a v = is_ordered_if Greater (exact_order a v)
compares_other GreaterOrEqual a v = is_ordered_if GreaterOrEqual (exact_order a v)
compares_other Less a v = is_ordered_if Less (exact_order a v)
compares_other LessOrEqual a v = is_ordered_if LessOrEqual (exact_order a v)
compares_other _ a v = false

abbrev pub compares_value : Comparison → Value → Value → Bool
compares_value c (text a) v = compares_string c a v
compares_value c a v = compares_other c a v

abbrev pub compares_type : Comparison → TypeTest → Option Text → Bool
compares_type Equal t u = is_typed t u
compares_type NotEqual t u = not (is_typed t u)
compares_type _ t u = false

abbrev pub compares_so : Comparison → Literal → Entry → Bool
compares_so c (value v) e = compares_value c e.value v
compares_so c (of_type t) e = compares_type c t e.ty

-- the entry is a property, and the last of its name
abbrev pub is_last_property : Entry → List Entry → Bool
is_last_property e es = option_map_or (λ k. not (list_any (has_key k) es)) e.key false

-- one of the properties that are the last of their name passes
abbrev pub any_property : (Entry → Bool) → List Entry → Bool
any_property p [] = false
any_property p (e ∷ es) = (p e && is_last_property e es) || any_property p es

-- something that the accessor finds passes
abbrev pub any_found : (Entry → Bool) → Accessor → Node → Bool
any_found p (argument i) n = option_map_or p (nth_argument i n) false
any_found p (property k) n = option_map_or p (last_property k n) false
any_found p name n = p (as_entry (said_name n))
any_found p ty n = option_map_or (λ t. p (as_entry t)) (said_type n) false
any_found p arguments n = list_any (λ e. has_no_key e && p e) (said_entries n)
any_found p properties n = any_property p (said_entries n)

-- what is found passes: it compares so, where that is asked for
abbrev pub passes_so : Option (Comparison × Literal) → Entry → Bool
passes_so None e = true
passes_so (Some w) e = compares_so w.0 w.1 e

-- what a test looks at, and what that is compared with
abbrev pub accessor_of : Test → Option Accessor
accessor_of always = None
accessor_of (has a) = Some a
accessor_of (compares a c l) = Some a

abbrev pub wanted_of : Test → Option (Comparison × Literal)
wanted_of (compares a c l) = Some (c, l)
wanted_of t = None

abbrev pub holds : Test → Node → Bool
holds always n = true
holds (has a) n = any_found (passes_so None) a n
holds (compares a c l) n = any_found (passes_so (Some (c, l))) a n

-- the node has the type and the name that are asked for, and passes every test
abbrev pub is_typed_if : Option TypeTest → Option Text → Bool
is_typed_if o t = option_map_or (λ s. is_typed s t) o true

abbrev pub is_named_if : Option Text → Text → Bool
is_named_if o n = option_map_or (λ s. same_text n s) o true

abbrev pub meets : NodeTest → Node → Bool
meets t n = is_named_if t.name (said_name n) && is_typed_if t.ty (said_type n) && list_all (λ u. holds u n) t.tests
