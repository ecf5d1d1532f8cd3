-- The parts of a query's selectors, and where they are reached.
use Rattle.std.specs.List.{flat_map}
use Rattle.std.specs.Option.{option_map_or}
use Rattle.std.specs.Prelude.{Bool, true, false, ◌&&◌, ◌||◌, List, [], ◌∷◌, ◌++◌, Option, Some, None, is_none, is_some, map, not, option_map}
use Rattle.kdl.specs.Said.{said_children}
use Rattle.kdl_grammar.specs.Data.{Node}
use Rattle.kdl_query.specs.Data as data'
use Rattle.kdl_query.specs.Data.{NodeTest, Selector}
use Rattle.kdl_query.specs.Tree.{node_test_says}
use Rattle.kdl_query.specs.Internal.Holds.{meets}
use Rattle.kdl_query.specs.declared.part.Link.{Link}
use Rattle.kdl_query.specs.declared.part.Link.TheVariants.{Document, Start, After}
use Rattle.kdl_query.specs.declared.part.Marks.{Marks}
use Rattle.kdl_query.specs.declared.part.Part.{Part}
use Rattle.kdl_query.specs.declared.tree.Combinator.{Combinator}
use Rattle.kdl_query.specs.declared.tree.Combinator.TheVariants.{Child, Descendant, NextSibling, LaterSibling}
use Rattle.kdl_query.specs.declared.tree.Step.{Step}

-- a part: its link, its test, what leads to the part after it, its marks
pub record PartSays : Type 0 where
  pub link : Link
  pub test : Option NodeTest
  pub next : Option Combinator
  pub marks : Marks

abbrev pub part_says : Part → PartSays
part_says p = record { link = p.link; test = option_map (λ t. node_test_says t.now) p.test; next = p.next; marks = p.marks }

-- the node has a block
abbrev pub has_block : Node → Bool
has_block n = is_some (said_children n)

-- a first node may reach the part after one with this link
abbrev pub begins : Link → Option Combinator → Bool
begins Document (Some Child) = true
begins Document (Some Descendant) = true
begins Document _ = false
begins Start _ = false
begins After _ = false

-- a node may reach a part, given whether it may by the part before it
abbrev pub leads_on : Link → Bool → Bool
leads_on Document b = false
leads_on Start b = true
leads_on After b = b

abbrev pub passes : Option NodeTest → Node → Bool
passes o n = option_map_or (λ t. meets t n) o true

-- the node reaches it
abbrev pub is_reached : PartSays → Bool → Node → Bool
is_reached p b n = leads_on p.link b && passes p.test n

-- the marks after a node, given whether it reaches the part and whether it has a block
abbrev pub marked : Option Combinator → Bool → Bool → Marks → Marks
marked (Some Child) r k m = record { here = m.here; inside = k && r }
marked (Some Descendant) r k m = record { here = m.here; inside = m.here || (k && r) }
marked (Some NextSibling) r k m = record { here = r; inside = false }
marked (Some LaterSibling) r k m = record { here = m.here || r; inside = false }
marked None r k m = m

abbrev pub after : PartSays → Bool → Node → Marks
after p b n = marked p.next (is_reached p b n) (has_block n) p.marks

-- whether a node reaches a part decides on the marks after it or on whether it is selected, given whether it is already
abbrev pub decided_by : Option Combinator → Bool → Bool → Marks → Bool
decided_by (Some Child) s k m = k
decided_by (Some Descendant) s k m = not m.here && k
decided_by (Some NextSibling) s k m = true
decided_by (Some LaterSibling) s k m = not m.here
decided_by None s k m = not s

abbrev pub decides : PartSays → Bool → Node → Bool
decides p s n = decided_by p.next s (has_block n) p.marks

-- those before the first node in the block of the one visited last
abbrev pub entering : Marks → Marks
entering m = record { here = m.inside; inside = false }

abbrev pub with_marks : PartSays → Marks → PartSays
with_marks p m = record { link = p.link; test = p.test; next = p.next; marks = m }

-- the selector ends with the part, and the node reaches it
abbrev pub ends_at : PartSays → Bool → Node → Bool
ends_at p b n = is_none p.next && is_reached p b n

-- the parts after a node, given whether it may reach the first of them, and whether a selector ends there
abbrev pub visited : Node → Bool → List PartSays → List PartSays
visited n b [] = []
visited n b (p ∷ ps) = with_marks p (after p b n) ∷ visited n p.marks.here ps

abbrev pub ends : Node → Bool → List PartSays → Bool
ends n b [] = false
ends n b (p ∷ ps) = ends_at p b n || ends n p.marks.here ps

-- the parts before the first node in the block of the one visited last
abbrev pub entered_part : Part → Part
entered_part p = record p { marks = entering p.marks }

abbrev pub entered : List PartSays → List PartSays
entered ps = map (λ p. with_marks p (entering p.marks)) ps

-- a part before the first top-level node
abbrev pub fresh : Link → Option NodeTest → Option Combinator → PartSays
fresh l t o = record { link = l; test = t; next = o; marks = record { here = begins l o; inside = false } }

-- the parts of a selector, given what leads on from it
abbrev pub parts_to : Option Combinator → Selector → List PartSays
parts_to o data'.top = fresh Document None o ∷ []
parts_to o (data'.start t) = fresh Start (Some t) o ∷ []
parts_to o (data'.then s c t) = parts_to (Some c) s ++ fresh After (Some t) o ∷ []

-- what leads to the first of the steps, and the parts of steps
abbrev pub next_of : List Step → Option Combinator
next_of [] = None
next_of (s ∷ ss) = Some s.combinator

abbrev pub step_parts : List Step → List PartSays
step_parts [] = []
step_parts (s ∷ ss) = fresh After (Some (node_test_says s.node)) (next_of ss) ∷ step_parts ss

-- the parts of a whole selector; from the document alone it leads to each top-level node
abbrev pub all_parts : Selector → List PartSays
all_parts data'.top = fresh Document None (Some Child) ∷ fresh After None None ∷ []
all_parts (data'.start t) = parts_to None (data'.start t)
all_parts (data'.then s c t) = parts_to None (data'.then s c t)

abbrev pub query_parts : data'.Query → List PartSays
query_parts q = flat_map all_parts q
