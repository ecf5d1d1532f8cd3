-- What can be made at a PATH, in memory and in the data.
use Rattle.std.proofs.Common.{◌≡◌, ◌&&◌, ℕ, zero, suc, Bool, false, List, [], ◌∷◌, map, Option, None, Some, is_some, option_map, slice_get, string_bytes, unwrap_or, refl, ap, ◌∙◌, sym}
use Rattle.std.specs.List.{list_all}
use Rattle.kdl_value.specs.Tree.{text_of}
use Rattle.kdl_entry.specs.declared.entry.KdlEntry.{KdlEntry}
use Rattle.kdl_parts.specs.EntryLists.{is_argument, nth_place, there}
use Rattle.kdl.specs.Words.{NodeData, child_nodes, document_says, entries_of, is_node_named, node_says, nodes_of, said_child_nodes, said_entries, said_nodes}
use Rattle.kdl.specs.Said.{has_no_key, is_called}
use Rattle.kdl.specs.declared.document.KdlDocument.{KdlDocument}
use Rattle.kdl.specs.declared.node.KdlNode.{KdlNode}
use Rattle.kdl.proofs.Finding.SaidLookups.{entries_said, entry_says, got_child_nodes, nodes_said}
use Rattle.kdl_path.specs.Failures.{is_first, is_next, makes_at, makes_below, makes_entry, makes_node, makes_on}
use Rattle.kdl_path.specs.Internal.Located.{makes_new, makes_there, place_of_step}
use Rattle.kdl_path.specs.Paths.{step_node}
use Rattle.kdl_path.specs.declared.path.Step.{Step}
use Rattle.kdl_path.specs.declared.path.Target.{Target}
use Rattle.kdl_path.specs.declared.path.Target.TheVariants.{Node, Argument, Property}
use Rattle.kdl_path.proofs.Places.{keyless, named_said, nth_mapped, place_said, there_mapped}

-- the next index
next_same : (n : ℕ) (f g : ℕ → Option ℕ) → ((i : ℕ) → f i ≡ g i) → is_next n f ≡ is_next n g
next_same zero f g h = refl
next_same (suc i) f g h = ap is_some (h i)

-- an entry
entry_said : (t : Target) (es : List KdlEntry) → makes_there t es ≡ makes_entry t (map entry_says es)
entry_said Node es = refl
entry_said (Argument i) es = next_same i _ _ (λ n. nth_mapped entry_says is_argument has_no_key keyless es n)
entry_said (Property s) es = refl

entry_made : (t : Target) (n : KdlNode) → makes_there t (entries_of n) ≡ makes_entry t (said_entries (node_says n))
entry_made t n = entry_said t (entries_of n) ∙ ap (makes_entry t) (entries_said n)

-- a node
new_said : (s : Step) (ss : List Step) (t : Target) (ns : List KdlNode) → makes_new (s ∷ ss) t ns ≡ makes_node s ss t (map node_says ns)
new_said s ss t ns =
    ap (λ b. b && (list_all is_first ss && makes_there t [])) (next_same (unwrap_or s.index 0) _ _ (λ n. nth_mapped node_says (is_node_named (string_bytes s.name)) (is_called (text_of s.name)) (named_said s.name) ns n))
    ∙ ap (λ b. is_next (unwrap_or s.index 0) (nth_place (is_called (text_of s.name)) (map node_says ns)) && (list_all is_first ss && b)) (entry_said t [])

node_said : (s : Step) (ns : List KdlNode) → option_map node_says (there (place_of_step s ns) ns) ≡ step_node s (map node_says ns)
node_said s ns = sym (there_mapped node_says ns (place_of_step s ns)) ∙ ap (λ p. there p (map node_says ns)) (place_said s ns)

-- what can be made from the nodes ns, which are those in the block of the node o
abbrev pub made_from : List Step → Target → Option KdlNode → List KdlNode → Bool
made_from [] t None ns = false
made_from [] t (Some k) ns = makes_there t (entries_of k)
made_from (s ∷ ss) t o ns = makes_on (option_map node_says (there (place_of_step s ns) ns)) (makes_new (s ∷ ss) t ns) (makes_below ss t)

from_said : (s : Step) (ss : List Step) (t : Target) (o : Option KdlNode) (ns : List KdlNode) (xs : List NodeData) → map node_says ns ≡ xs → made_from (s ∷ ss) t o ns ≡ makes_on (step_node s xs) (makes_node s ss t xs) (makes_below ss t)
from_said s ss t o ns xs e =
    ap (λ n. makes_on n (makes_new (s ∷ ss) t ns) (makes_below ss t)) (node_said s ns)
    ∙ ap (λ b. makes_on (step_node s (map node_says ns)) b (makes_below ss t)) (new_said s ss t ns)
    ∙ ap (λ ys. makes_on (step_node s ys) (makes_node s ss t ys) (makes_below ss t)) e

below_said : (ss : List Step) (t : Target) (k : KdlNode) → made_from ss t (Some k) (child_nodes k) ≡ makes_below ss t (node_says k)
below_said [] t k = entry_made t k
below_said (s ∷ ss) t k = from_said s ss t (Some k) (child_nodes k) (said_child_nodes (node_says k)) (got_child_nodes k (child_nodes k) refl)

-- from the nodes of a document
pub made_first : (ss : List Step) (t : Target) (d : KdlDocument) → made_from ss t None (nodes_of d) ≡ makes_at ss t (said_nodes (document_says d))
made_first [] t d = refl
made_first (s ∷ ss) t d = from_said s ss t None (nodes_of d) (said_nodes (document_says d)) (nodes_said d)

-- one step further
pub made_next : (ss rest : List Step) (s : Step) (t : Target) (ns : List KdlNode) (o : Option KdlNode) (i : ℕ) (k : KdlNode) → ss ≡ s ∷ rest → place_of_step s ns ≡ Some i → slice_get ns i ≡ Some k
    → made_from rest t (Some k) (child_nodes k) ≡ made_from ss t o ns
made_next ss rest s t ns o i k e p at =
    let new = makes_new (s ∷ rest) t ns in
    let below = makes_below rest t in
    below_said rest t k
    ∙ sym (ap (λ l. made_from l t o ns) e ∙ ap (λ n. makes_on (option_map node_says (there n ns)) new below) p ∙ ap (λ n. makes_on (option_map node_says n) new below) at)

-- a step that leads nowhere
pub made_lost : (ss rest : List Step) (s : Step) (t : Target) (ns : List KdlNode) (o : Option KdlNode) → ss ≡ s ∷ rest → there (place_of_step s ns) ns ≡ None → made_from ss t o ns ≡ makes_new ss t ns
made_lost ss rest s t ns o e p =
    ap (λ l. made_from l t o ns) e
    ∙ ap (λ n. makes_on (option_map node_says n) (makes_new (s ∷ rest) t ns) (makes_below rest t)) p
    ∙ ap (λ l. makes_new l t ns) (sym e)

-- no more steps
pub made_last : (ss : List Step) (t : Target) (ns : List KdlNode) (o : Option KdlNode) (k : KdlNode) → ss ≡ [] → o ≡ Some k → made_from ss t o ns ≡ makes_there t (entries_of k)
made_last ss t ns o k e h = ap (λ l. made_from l t o ns) e ∙ ap (λ p. made_from [] t p ns) h

pub made_none : (ss : List Step) (t : Target) (ns : List KdlNode) (o : Option KdlNode) → ss ≡ [] → o ≡ None → made_from ss t o ns ≡ false
made_none ss t ns o e h = ap (λ l. made_from l t o ns) e ∙ ap (λ p. made_from [] t p ns) h
