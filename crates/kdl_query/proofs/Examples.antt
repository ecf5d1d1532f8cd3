-- A document, and what queries select in it.
use Rattle.std.proofs.Common.{◌≡◌, refl, ap, ◌∙◌, sym, cond, ℕ, List, [], ◌∷◌, Some, None, codes, pos, true, inl, inr}
use Rattle.kdl_value.specs.Data.{Value, text, integer, float, truth}
use Rattle.kdl_entry.specs.Data.{Entry}
use Rattle.kdl_grammar.specs.Data.{Node, node, no_children, children, Nodes, none, first}
use Rattle.kdl_query.specs.Data.{NodeTest, Query, Selector, Test, any_node, argument, arguments, compares, has, name, of_type, property, start, then, top, ty, type_named, value}
use Rattle.kdl_query.specs.Counts.{node_count, part_count}
use Rattle.kdl_query.specs.Decimal.{exact_order}
use Rattle.kdl_query.specs.Selects.{IsSelected, IsSelection}
use Rattle.kdl_query.specs.declared.tree.Comparison.TheVariants.{Equal, NotEqual, StartsWith, Contains}
use Rattle.kdl_query.specs.declared.tree.Combinator.TheVariants.{Child, Descendant, NextSibling, LaterSibling}
use Rattle.kdl_query.specs.Internal.Visits.{Passes, Visited}
use Rattle.kdl_query.proofs.Choosing.{are_selection, is_chosen}
use Rattle.kdl_query.proofs.Passing.{passed_chosen}

-- package {
--     name foo
--     version "1.0.0"
--     dependencies platform=windows {
--         winapi "1.0.0" path="./crates/my-winapi-fork"
--     }
--     dependencies {
--         miette "2.0.0" dev=#true integrity=(sri)sha512-deadbeef
--         (git)left-pad 1.50 2
--     }
-- }
abbrev arg : Value → Entry
arg v = record { key = None; ty = None; value = v }

abbrev prop : List ℕ → Value → Entry
prop k v = record { key = Some k; ty = None; value = v }

abbrev winapi : Node
winapi = node None (codes "winapi") (arg (text (codes "1.0.0")) ∷ prop (codes "path") (text (codes "./crates/my-winapi-fork")) ∷ []) no_children

abbrev miette : Node
miette =
    node None (codes "miette") (arg (text (codes "2.0.0")) ∷ prop (codes "dev") (truth true) ∷ record { key = Some (codes "integrity"); ty = Some (codes "sri"); value = text (codes "sha512-deadbeef") } ∷ []) no_children

abbrev left_pad : Node
left_pad = node (Some (codes "git")) (codes "left-pad") (arg (float (codes "1.50")) ∷ arg (integer (pos 2)) ∷ []) no_children

abbrev package_nodes : Nodes
package_nodes =
    first (node None (codes "name") (arg (text (codes "foo")) ∷ []) no_children)
    (first (node None (codes "version") (arg (text (codes "1.0.0")) ∷ []) no_children)
    (first (node None (codes "dependencies") (prop (codes "platform") (text (codes "windows")) ∷ []) (children (first winapi none)))
    (first (node None (codes "dependencies") [] (children (first miette (first left_pad none)))) none)))

abbrev D : Nodes
D = first (node None (codes "package") [] (children package_nodes)) none

abbrev called : List ℕ → NodeTest
called s = record { ty = None; name = Some s; tests = [] }

abbrev tested : Test → NodeTest
tested t = record { ty = None; name = None; tests = t ∷ [] }

abbrev only : Selector → Query
only s = s ∷ []

-- package >> name, top() > package >> name, top()
descendant : IsSelection D (only (then (start (called (codes "package"))) Descendant (called (codes "name")))) ((0 ∷ 0 ∷ []) ∷ [])
descendant = are_selection D (only (then (start (called (codes "package"))) Descendant (called (codes "name"))))

from_top : IsSelection D (only (then (then top Child (called (codes "package"))) Descendant (called (codes "name")))) ((0 ∷ 0 ∷ []) ∷ [])
from_top = are_selection D (only (then (then top Child (called (codes "package"))) Descendant (called (codes "name"))))

top_alone : IsSelection D (only top) ((0 ∷ []) ∷ [])
top_alone = are_selection D (only top)

-- dependencies[platform], dependencies > []
with_platform : IsSelection D (only (start (record { ty = None; name = Some (codes "dependencies"); tests = has (property (codes "platform")) ∷ [] }))) ((0 ∷ 2 ∷ []) ∷ [])
with_platform = are_selection D (only (start (record { ty = None; name = Some (codes "dependencies"); tests = has (property (codes "platform")) ∷ [] })))

any_child : IsSelection D (only (then (start (called (codes "dependencies"))) Child any_node)) ((0 ∷ 2 ∷ 0 ∷ []) ∷ (0 ∷ 3 ∷ 0 ∷ []) ∷ (0 ∷ 3 ∷ 1 ∷ []) ∷ [])
any_child = are_selection D (only (then (start (called (codes "dependencies"))) Child any_node))

-- name || version || name: each once
either : IsSelection D (start (called (codes "name")) ∷ start (called (codes "version")) ∷ start (called (codes "name")) ∷ []) ((0 ∷ 0 ∷ []) ∷ (0 ∷ 1 ∷ []) ∷ [])
either = are_selection D (start (called (codes "name")) ∷ start (called (codes "version")) ∷ start (called (codes "name")) ∷ [])

-- version + dependencies, name ++ dependencies, name + dependencies
next : IsSelection D (only (then (start (called (codes "version"))) NextSibling (called (codes "dependencies")))) ((0 ∷ 2 ∷ []) ∷ [])
next = are_selection D (only (then (start (called (codes "version"))) NextSibling (called (codes "dependencies"))))

later : IsSelection D (only (then (start (called (codes "name"))) LaterSibling (called (codes "dependencies")))) ((0 ∷ 2 ∷ []) ∷ (0 ∷ 3 ∷ []) ∷ [])
later = are_selection D (only (then (start (called (codes "name"))) LaterSibling (called (codes "dependencies"))))

not_next : IsSelection D (only (then (start (called (codes "name"))) NextSibling (called (codes "dependencies")))) []
not_next = are_selection D (only (then (start (called (codes "name"))) NextSibling (called (codes "dependencies"))))

-- [integrity = (sri)], (git), [tag() = git]
typed_value : IsSelection D (only (start (tested (compares (property (codes "integrity")) Equal (of_type (type_named (codes "sri"))))))) ((0 ∷ 3 ∷ 0 ∷ []) ∷ [])
typed_value = are_selection D (only (start (tested (compares (property (codes "integrity")) Equal (of_type (type_named (codes "sri")))))))

typed_node : IsSelection D (only (start (record { ty = Some (type_named (codes "git")); name = None; tests = [] }))) ((0 ∷ 3 ∷ 1 ∷ []) ∷ [])
typed_node = are_selection D (only (start (record { ty = Some (type_named (codes "git")); name = None; tests = [] })))

tag_is : IsSelection D (only (start (tested (compares ty Equal (value (text (codes "git"))))))) ((0 ∷ 3 ∷ 1 ∷ []) ∷ [])
tag_is = are_selection D (only (start (tested (compares ty Equal (value (text (codes "git")))))))

-- [val() = 1.5], [val() ^= "1."], [name() *= pad], [values() = 2], [val() != "1.0.0"]
exact : IsSelection D (only (start (tested (compares (argument 0) Equal (value (float (codes "1.5"))))))) ((0 ∷ 3 ∷ 1 ∷ []) ∷ [])
unfolding exact_order
exact = are_selection D (only (start (tested (compares (argument 0) Equal (value (float (codes "1.5")))))))

prefix : IsSelection D (only (start (tested (compares (argument 0) StartsWith (value (text (codes "1."))))))) ((0 ∷ 1 ∷ []) ∷ (0 ∷ 2 ∷ 0 ∷ []) ∷ [])
prefix = are_selection D (only (start (tested (compares (argument 0) StartsWith (value (text (codes "1.")))))))

infixed : IsSelection D (only (start (tested (compares name Contains (value (text (codes "t-p"))))))) ((0 ∷ 3 ∷ 1 ∷ []) ∷ [])
infixed = are_selection D (only (start (tested (compares name Contains (value (text (codes "t-p")))))))

some_value : IsSelection D (only (start (tested (compares arguments Equal (value (integer (pos 2))))))) ((0 ∷ 3 ∷ 1 ∷ []) ∷ [])
unfolding exact_order
some_value = are_selection D (only (start (tested (compares arguments Equal (value (integer (pos 2)))))))

differs : IsSelection D (only (start (tested (compares (argument 0) NotEqual (value (text (codes "1.0.0"))))))) ((0 ∷ 0 ∷ []) ∷ (0 ∷ 3 ∷ 0 ∷ []) ∷ (0 ∷ 3 ∷ 1 ∷ []) ∷ [])
unfolding exact_order
differs = are_selection D (only (start (tested (compares (argument 0) NotEqual (value (text (codes "1.0.0")))))))

-- a node without the value is not selected by `!=`, and `>` does not lead to a grandchild
no_value : IsSelected D (only (start (tested (compares (argument 0) NotEqual (value (text (codes "1.0.0"))))))) (0 ∷ []) → ⊥
unfolding exact_order
no_value h = elim (is_chosen D (only (start (tested (compares (argument 0) NotEqual (value (text (codes "1.0.0"))))))) (0 ∷ []) h) [ inl e ↦ cc | inr i ↦ elim i [ inl e ↦ cc | inr j ↦ elim j [ inl e ↦ cc | inr k ↦ k ] ] ]

no_grandchild : IsSelected D (only (then (start (called (codes "package"))) Child (called (codes "winapi")))) (0 ∷ 2 ∷ 0 ∷ []) → ⊥
no_grandchild h = is_chosen D (only (then (start (called (codes "package"))) Child (called (codes "winapi")))) (0 ∷ 2 ∷ 0 ∷ []) h

-- 8 nodes, each looked at for each part: package >> name, and top() alone, which has a step to the top-level nodes
counted : node_count D ≡ 8
counted = refl

two_parts : part_count (only (then (start (called (codes "package"))) Descendant (called (codes "name")))) ≡ 2
two_parts = refl

top_has_two : part_count (only top) ≡ 2
top_has_two = refl

not_one : part_count (only top) ≡ 1 → ⊥
not_one h = cc

not_top_alone : node_count D ≡ 1 → ⊥
not_top_alone h = cc

-- a walk passes no node that is selected
not_passed : (v : Visited) → v.is_selected ≡ true → Passes (v ∷ []) [] → ⊥
not_passed v t p = let e : v ∷ [] ≡ [] = sym (ap (λ b. cond b (v ∷ []) []) t) ∙ passed_chosen (v ∷ []) [] p in absurd (cc)
