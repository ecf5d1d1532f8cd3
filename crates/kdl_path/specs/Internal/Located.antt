-- Nodes and entries in memory that a PATH names.
use Rattle.std.specs.List.{filter, flat_map, list_all}
use Rattle.std.specs.Option.{option_to_list}
use Rattle.std.specs.Prelude.{◌≡◌, ◌&&◌, ℕ, Bool, true, false, List, [], ◌∷◌, Option, None, Some, drop, length, option_and_then, slice_get, string_bytes, take, unwrap_or}
use Rattle.kdl.specs.Words.{Nodes, child_nodes, has_name, is_argument, is_node_named, said_nodes, there}
use Rattle.kdl.specs.declared.node.KdlNode.{KdlNode}
use Rattle.kdl_entry.specs.declared.entry.KdlEntry.{KdlEntry}
use Rattle.kdl_parts.specs.EntryLists.{last_place, nth_place}
use Rattle.kdl_path.specs.Failures.{is_first, is_next, makes_at}
use Rattle.kdl_path.specs.declared.locate.Lost.{Lost}
use Rattle.kdl_path.specs.declared.locate.Lost.TheVariants as lost
use Rattle.kdl_path.specs.declared.path.Step.{Step}
use Rattle.kdl_path.specs.declared.path.Target.{Target}
use Rattle.kdl_path.specs.declared.path.Target.TheVariants.{Node, Argument, Property}

-- the place of the node that a step names
abbrev pub place_of_step : Step → List KdlNode → Option ℕ
place_of_step s ns = nth_place (is_node_named (string_bytes s.name)) ns (unwrap_or s.index 0)

-- the node to which steps lead from the nodes ns; without steps, the node o
abbrev pub walk : List Step → Option KdlNode → List KdlNode → Option KdlNode
walk [] o ns = o
walk (s ∷ ss) o ns = option_and_then (λ k. walk ss (Some k) (child_nodes k)) (there (place_of_step s ns) ns)

-- steps and indices lead to the node n from the nodes ns; without steps, n is the node o
abbrev pub Leads : List Step → List ℕ → List KdlNode → Option KdlNode → KdlNode → Type 0
Leads [] [] ns o n = o ≡ Some n
Leads [] (i ∷ is) ns o n = ⊥
Leads (s ∷ ss) [] ns o n = ⊥
Leads (s ∷ ss) (i ∷ is) ns o n = (k : KdlNode) × (place_of_step s ns ≡ Some i) × (slice_get ns i ≡ Some k) × Leads ss is (child_nodes k) (Some k) n

-- the nodes that a step leads to if every value is asked for
abbrev pub found_named : Option ℕ → Step → List KdlNode → List KdlNode
found_named None s ns = filter (is_node_named (string_bytes s.name)) ns
found_named (Some i) s ns = option_to_list (there (place_of_step s ns) ns)

abbrev pub named_in : Step → List KdlNode → List KdlNode
named_in s ns = found_named s.index s ns

-- the nodes to which steps lead from a node
abbrev pub reached : List Step → KdlNode → List KdlNode
reached [] n = n ∷ []
reached (s ∷ ss) n = flat_map (reached ss) (named_in s (child_nodes n))

-- the place of the entry that a target names
abbrev pub place_of_target : Target → List KdlEntry → Option ℕ
place_of_target Node es = nth_place is_argument es 0
place_of_target (Argument i) es = nth_place is_argument es i
place_of_target (Property s) es = last_place (has_name (string_bytes s)) es

-- the steps lead to no node
abbrev pub IsNowhere : Lost → Type 0
IsNowhere lost.Document = Unit {0}
IsNowhere (lost.Step is ns) = Unit {0}
IsNowhere lost.Memory = ⊥

-- the entry of a target, which is missing, can be made after these entries
abbrev pub makes_there : Target → List KdlEntry → Bool
makes_there Node es = true
makes_there (Argument i) es = is_next i (nth_place is_argument es)
makes_there (Property s) es = true

-- the node of a step, which is missing, can be made after the nodes ns
abbrev pub makes_named : Step → List KdlNode → Bool
makes_named s ns = is_next (unwrap_or s.index 0) (nth_place (is_node_named (string_bytes s.name)) ns)

-- the same of the first step, with the nodes of the other steps in its block
abbrev pub makes_new : List Step → Target → List KdlNode → Bool
makes_new [] t ns = false
makes_new (s ∷ ss) t ns = makes_named s ns && (list_all is_first ss && makes_there t [])

-- where steps lead to no node: what is missing can be made if it can be made after the nodes among which the step at that number names none
abbrev pub Loses : List Step → Nodes → Lost → Type 0
Loses ss x lost.Document = (t : Target) → makes_at ss t (said_nodes x) ≡ false
Loses ss x (lost.Step is ns) = (t : Target) → makes_at ss t (said_nodes x) ≡ makes_new (drop (length is.items) ss) t ns.now
Loses ss x lost.Memory = Unit {0}

-- steps and indices lead to the nodes ns: those of the document, or those in the block of a node
abbrev pub LeadsAmong : List Step → List ℕ → (all ns : List KdlNode) → Type 0
LeadsAmong [] is all ns = (is ≡ []) × (ns ≡ all)
LeadsAmong (s ∷ ss) is all ns = (n : KdlNode) × Leads (s ∷ ss) is all None n × (ns ≡ child_nodes n)

-- the first steps and the indices lead to the nodes ns, and the next step names none of them
pub record StopsAt (ss : List Step) (is : List ℕ) (all ns : List KdlNode) : Type 0 where
  pub next : Step
  pub rest : List Step
  pub steps : drop (length is) ss ≡ next ∷ rest
  pub leads : LeadsAmong (take (length is) ss) is all ns
  pub none : there (place_of_step next ns) ns ≡ None

abbrev pub Stops : List Step → List KdlNode → Lost → Type 0
Stops ss all (lost.Step is ns) = StopsAt ss is.items all ns.now
Stops ss all _ = Unit {0}
