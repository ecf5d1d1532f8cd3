-- The nodes of a document in the order in which a walk visits them.
use Rattle.std.specs.List.{filter, last_or}
use Rattle.std.specs.Option.{option_map_or}
use Rattle.std.specs.Prelude.{◌≡◌, ℕ, suc, ◌+◌, Bool, List, [], ◌∷◌, ◌++◌, if◌then◌else◌, length, None, map, drop, slice_get}
use Rattle.kdl.specs.Tree.{node_says}
use Rattle.kdl.specs.declared.document.KdlDocument.{KdlDocument}
use Rattle.kdl_grammar.specs.Data.{Node, node, Children, no_children, children, Nodes, none, first}
use Rattle.kdl_query.specs.Data.{Query}
use Rattle.kdl_query.specs.Held.{held_at}
use Rattle.kdl_query.specs.Selects.{Path}
use Rattle.kdl_query.specs.Internal.Parts.{PartSays, ends, entered, has_block, part_says, query_parts, visited}
use Rattle.kdl_query.specs.declared.walk.Level.{Level}
use Rattle.kdl_query.specs.declared.walk.Visit.{Visit}
use Rattle.kdl_query.specs.declared.walk.Walk.{Walk}
use Rattle.std.specs.Prelude.{false}

-- the steps at a node: a look for each of the parts, and a copy of each if it has a block
abbrev pub copies : ℕ → Node → ℕ
copies k n = if has_block n then k else 0

abbrev pub steps_at : ℕ → Node → ℕ
steps_at k n = k + copies k n

-- a node that is visited: its path, what it says, whether a selector ends there, and how many steps it takes
pub record Visited : Type 0 where
  pub path : Path
  pub said : Node
  pub is_selected : Bool
  pub steps : ℕ

abbrev pub next_parts : Node → List PartSays → List PartSays
next_parts n ps = visited n false ps

abbrev pub visit_of : Path → List PartSays → Node → Visited
visit_of p ps n = record { path = p; said = n; is_selected = ends n false ps; steps = steps_at (length ps) n }

abbrev mutual
  -- the nodes from place i on in the block at q, and those inside them
  pub visits : Path → ℕ → List PartSays → Nodes → List Visited
  visits q i ps none = []
  visits q i ps (first n x) = visit_of (q ++ i ∷ []) ps n ∷ (visits_inside (q ++ i ∷ []) (entered (next_parts n ps)) n ++ visits q (suc i) (next_parts n ps) x)

  -- those inside the node at p
  pub visits_inside : Path → List PartSays → Node → List Visited
  visits_inside p ps (node t n es k) = visits_below p ps k

  pub visits_below : Path → List PartSays → Children → List Visited
  visits_below p ps no_children = []
  visits_below p ps (children x) = visits p 0 ps x

-- all nodes of a document
abbrev pub all_visits : Query → Nodes → List Visited
all_visits q x = visits [] 0 (query_parts q) x

-- the same of a list of nodes
abbrev pub visits_of : Path → ℕ → List PartSays → List Node → List Visited
visits_of q i ps [] = []
visits_of q i ps (n ∷ ns) = visit_of (q ++ i ∷ []) ps n ∷ (visits_inside (q ++ i ∷ []) (entered (next_parts n ps)) n ++ visits_of q (suc i) (next_parts n ps) ns)

-- a level of the walk
pub record LevelSays : Type 0 where
  pub nodes : List Node
  pub next : ℕ
  pub current : ℕ
  pub parts : List PartSays

abbrev pub level_says : Level → LevelSays
level_says l = record { nodes = map node_says l.nodes.now; next = l.next; current = l.current; parts = map part_says l.parts.items }

abbrev pub levels_of : Walk → List LevelSays
levels_of w = map level_says w.levels.items

-- the path of the node that was visited last
abbrev pub path_of : List LevelSays → Path
path_of ls = map (λ l. l.current) ls

abbrev pub level_due : Path → LevelSays → List Visited
level_due q l = visits_of q l.next l.parts (drop l.next l.nodes)

-- each level has the nodes in memory at the path of the levels around it
abbrev pub HeldLevels : KdlDocument → Path → List Level → Type 0
HeldLevels d q [] = Unit {0}
HeldLevels d q (l ∷ ls) = ((i : ℕ) → held_at (q ++ i ∷ []) d ≡ slice_get l.nodes.now i) × HeldLevels d (q ++ l.current ∷ []) ls

-- the walk is over the document in memory
abbrev pub IsOver : KdlDocument → Walk → Type 0
IsOver d w = HeldLevels d [] w.levels.items

-- the nodes that are still to be visited, those of the innermost level first
abbrev pub due : Path → List LevelSays → List Visited
due q [] = []
due q (l ∷ ls) = due (q ++ l.current ∷ []) ls ++ level_due q l

abbrev pub walk_due : Walk → List Visited
walk_due w = due [] (levels_of w)

-- those inside the node that was visited last
abbrev pub inside_last : List LevelSays → Node → List Visited
inside_last ls n = option_map_or (λ l. visits_inside (path_of ls) (entered l.parts) n) (last_or None ls) []

-- the parts of the innermost level
abbrev pub last_parts : List LevelSays → List PartSays
last_parts ls = option_map_or (λ l. l.parts) (last_or None ls) []

-- the node that a walk came to
abbrev pub came_to : Visit → Walk → Visited
came_to v w = record { path = path_of (levels_of w); said = node_says v.node.now; is_selected = v.is_selected; steps = steps_at (length (last_parts (levels_of w))) (node_says v.node.now) }

-- the node that a walk came to in the block at q, and those that are still to be visited from there
abbrev pub level_at : Path → Visit → LevelSays → Visited
level_at q v l = record { path = q ++ l.current ∷ []; said = node_says v.node.now; is_selected = v.is_selected; steps = steps_at (length l.parts) (node_says v.node.now) }

abbrev pub level_left : Path → Visit → LevelSays → List Visited
level_left q v l = visits_inside (q ++ l.current ∷ []) (entered l.parts) (node_says v.node.now) ++ level_due q l

abbrev pub walk_left : Visit → Walk → List Visited
walk_left v w = inside_last (levels_of w) (node_says v.node.now) ++ walk_due w

-- the steps at all of them
abbrev pub steps_of : List Visited → ℕ
steps_of [] = 0
steps_of (v ∷ vs) = v.steps + steps_of vs

-- those that are still due after a node that a walk came to: first the copies for its block
abbrev pub steps_left : Visit → Walk → ℕ
steps_left v w = copies (length (last_parts (levels_of w))) (node_says v.node.now) + steps_of (walk_left v w)

abbrev pub level_steps_left : Path → Visit → LevelSays → ℕ
level_steps_left q v l = copies (length l.parts) (node_says v.node.now) + steps_of (level_left q v l)

-- the paths, and the nodes, that are selected
abbrev pub chosen : List Visited → List Visited
chosen vs = filter (λ v. v.is_selected) vs

abbrev pub chosen_paths : List Visited → List Path
chosen_paths vs = map (λ v. v.path) (chosen vs)

abbrev pub chosen_nodes : List Visited → List Node
chosen_nodes vs = map (λ v. v.said) (chosen vs)

-- the first list is some that are not selected, and then the second
pub record Passes (vs ws : List Visited) : Type 0 where
  pub passed : List Visited
  pub unselected : chosen passed ≡ []
  pub rest : vs ≡ passed ++ ws
