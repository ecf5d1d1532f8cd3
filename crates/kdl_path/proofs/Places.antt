-- What a PATH names in memory, and in the data.
use Rattle.std.proofs.Common.{◌≡◌, IsSomeAnd, ℕ, zero, suc, Bool, true, false, List, [], ◌∷◌, ◌++◌, drop, length, map, take, Option, None, Some, IsSome, is_none, option_and_then, option_map, slice_get, string_bytes, refl, ap, ◌∙◌, sym, subst}
use Rattle.std.proofs.lemmas.Option.{none-some, slice_get-map}
use Rattle.std.proofs.lemmas.Str.{IsUtf8-string_bytes}
use Rattle.std.specs.Option.{option_map_or}
use Rattle.std.specs.Prelude.{String}
use Rattle.std.specs.declared.alloc.Global.{Global}
use Rattle.kdl_value.specs.Data.{Value}
use Rattle.kdl_value.specs.Tree.{text_of, value_tree}
use Rattle.kdl_entry.specs.Fields.{entry_value_of}
use Rattle.kdl_entry.specs.Tree.{Identifier, identifier_tree}
use Rattle.kdl_entry.specs.declared.entry.KdlEntry.{KdlEntry}
use Rattle.kdl_entry.specs.declared.identifier.KdlIdentifier.{KdlIdentifier}
use Rattle.kdl_parts.specs.EntryLists.{has_name, is_argument, is_name, last_place, later, nth_place, nth_step, same_text, there}
use Rattle.kdl.specs.Words.{EntryData, NodeData, block_of, child_nodes, document_says, entries_of, is_node_named, node_says, nodes_of, said_child_nodes, said_nodes}
use Rattle.kdl.specs.Iterators.{nodes_in}
use Rattle.kdl.specs.Lookups.{value_there}
use Rattle.kdl.specs.Said.{has_key, has_no_key, is_called}
use Rattle.kdl.specs.declared.document.KdlDocument.{KdlDocument}
use Rattle.kdl.specs.declared.document.KdlDocument.TheViews.{out-KdlNode}
use Rattle.kdl.specs.declared.node.KdlNode.{KdlNode}
use Rattle.kdl.proofs.Finding.SaidLookups.{argument_said, entry_says, got_child_nodes, last_property_said, name_said, nodes_said, nth_argument_said, property_said, same_chars}
use Rattle.c_calls.specs.Paths as paths
use Rattle.c_calls.specs.Paths.{block_nodes}
use Rattle.kdl_path.specs.Edits.{entry_place}
use Rattle.kdl_path.specs.Internal.Located.{Leads, LeadsAmong, StopsAt, place_of_step, place_of_target, walk}
use Rattle.kdl_path.specs.Paths.{AreIndices, at_path, entry_in, node_at, node_below, step_node, step_place, value_in}
use Rattle.kdl_path.specs.declared.path.Path.{Path}
use Rattle.kdl_path.specs.declared.path.Step.{Step}
use Rattle.kdl_path.specs.declared.path.Target.{Target}
use Rattle.kdl_path.specs.declared.path.Target.TheVariants.{Node, Argument, Property}

-- a place in a list is one in the list of what its elements are mapped to
pub nth_mapped : {A B : Type 0} (f : A → B) (p : A → Bool) (q : B → Bool) → ((x : A) → p x ≡ q (f x)) → (xs : List A) (n : ℕ) → nth_place p xs n ≡ nth_place q (map f xs) n
nth_mapped f p q h [] n = refl
nth_mapped {A = A} {B = B} f p q h (x ∷ xs) n = go (p x) (q (f x)) (h x) n (λ k. nth_mapped f p q h xs k)
  where
    go : (b c : Bool) → b ≡ c → (n : ℕ) → ((k : ℕ) → nth_place p xs k ≡ nth_place q (map f xs) k) → nth_step b n (nth_place p xs) ≡ nth_step c n (nth_place q (map f xs))
    go true true e zero k = refl
    go true true e (suc n) k = ap (option_map suc) (k n)
    go true false e n k = cc
    go false true e n k = cc
    go false false e n k = ap (option_map suc) (k n)

last_mapped : {A B : Type 0} (f : A → B) (p : A → Bool) (q : B → Bool) → ((x : A) → p x ≡ q (f x)) → (xs : List A) → last_place p xs ≡ last_place q (map f xs)
last_mapped f p q h [] = refl
last_mapped f p q h (x ∷ xs) = ap (λ o. later o (p x)) (last_mapped f p q h xs) ∙ ap (later (last_place q (map f xs))) (h x)

pub there_mapped : {A B : Type 0} (f : A → B) (xs : List A) (o : Option ℕ) → there o (map f xs) ≡ option_map f (there o xs)
there_mapped f xs None = refl
there_mapped f xs (Some i) = slice_get-map f xs i

-- the node of a step
pub named_said : (s : String Global) (n : KdlNode) → is_node_named (string_bytes s) n ≡ is_called (text_of s) (node_says n)
named_said s n =
    (same_chars (string_bytes s) (IsUtf8-string_bytes s)).same (string_bytes (out-KdlNode n).name.value) (IsUtf8-string_bytes (out-KdlNode n).name.value)
    ∙ ap (λ t. same_text t (text_of s)) (name_said n)

pub place_said : (s : Step) (ns : List KdlNode) → place_of_step s ns ≡ step_place s (map node_says ns)
place_said s ns = nth_mapped node_says (is_node_named (string_bytes s.name)) (is_called (text_of s.name)) (named_said s.name) ns _

pub step_said : (s : Step) (d : KdlDocument) (i : ℕ) → place_of_step s (nodes_of d) ≡ Some i → step_place s (said_nodes (document_says d)) ≡ Some i
step_said s d i h = sym (ap (step_place s) (nodes_said d)) ∙ sym (place_said s (nodes_of d)) ∙ h

-- the nodes of the steps
node_walked : (s : Step) (ss : List Step) (ns : List KdlNode) → ((k : KdlNode) → option_map node_says (walk ss (Some k) (child_nodes k)) ≡ node_below ss (node_says k))
    → (o : Option KdlNode) → option_map node_says (walk (s ∷ ss) o ns) ≡ option_and_then (node_below ss) (step_node s (map node_says ns))
node_walked s ss ns h o =
    go (there (place_of_step s ns) ns)
    ∙ ap (option_and_then (node_below ss)) (sym (there_mapped node_says ns (place_of_step s ns)) ∙ ap (λ p. there p (map node_says ns)) (place_said s ns))
  where
    go : (p : Option KdlNode) → option_map node_says (option_and_then (λ k. walk ss (Some k) (child_nodes k)) p) ≡ option_and_then (node_below ss) (option_map node_says p)
    go None = refl
    go (Some k) = h k

walked_below : (ss : List Step) (k : KdlNode) → option_map node_says (walk ss (Some k) (child_nodes k)) ≡ node_below ss (node_says k)
walked_below [] k = refl
walked_below (s ∷ ss) k =
    node_walked s ss (child_nodes k) (walked_below ss) (Some k) ∙ ap (λ xs. option_and_then (node_below ss) (step_node s xs)) (got_child_nodes k (child_nodes k) refl)

walked : (ss : List Step) (ns : List KdlNode) → option_map node_says (walk ss None ns) ≡ node_at ss (map node_says ns)
walked [] ns = refl
walked (s ∷ ss) ns = node_walked s ss ns (walked_below ss) None

pub walk_said : (ss : List Step) (d : KdlDocument) → option_map node_says (walk ss None (nodes_of d)) ≡ node_at ss (said_nodes (document_says d))
walk_said ss d = walked ss (nodes_of d) ∙ ap (node_at ss) (nodes_said d)

leads_walk : (ss : List Step) (is : List ℕ) (ns : List KdlNode) (o : Option KdlNode) (n : KdlNode) → Leads ss is ns o n → walk ss o ns ≡ Some n
leads_walk [] [] ns o n h = h
leads_walk [] (i ∷ is) ns o n h = absurd h
leads_walk (s ∷ ss) [] ns o n h = absurd h
leads_walk (s ∷ ss) (i ∷ is) ns o n h =
    let next = λ (k : KdlNode). walk ss (Some k) (child_nodes k) in
    ap (λ p. option_and_then next (there p ns)) h.1 ∙ ap (option_and_then next) h.2 ∙ leads_walk ss is (child_nodes h.0) (Some h.0) n h.3

pub leads_said : (ss : List Step) (is : List ℕ) (d : KdlDocument) (n : KdlNode) → Leads ss is (nodes_of d) None n → node_at ss (said_nodes (document_says d)) ≡ Some (node_says n)
leads_said ss is d n h = sym (walk_said ss d) ∙ ap (option_map node_says) (leads_walk ss is (nodes_of d) None n h)

-- the node at the indices
nowhere : (p : List ℕ) → paths.node_at p [] ≡ None
nowhere [] = refl
nowhere (i ∷ []) = refl
nowhere (i ∷ j ∷ p) = refl

in_block : (p : List ℕ) (n : KdlNode) (o : Option KdlDocument) → paths.node_at p (nodes_in o) ≡ Some n → option_and_then (paths.node_at p) (option_map nodes_of o) ≡ Some n
in_block p n None h = absurd (none-some n (sym (nowhere p) ∙ h))
in_block p n (Some d) h = h

leads_node : (s : Step) (ss : List Step) (i : ℕ) (is : List ℕ) (ns : List KdlNode) (o : Option KdlNode) (n : KdlNode) → Leads (s ∷ ss) (i ∷ is) ns o n → paths.node_at (i ∷ is) ns ≡ Some n
leads_node s [] i [] ns o n h = h.2 ∙ h.3
leads_node s [] i (j ∷ is) ns o n h = absurd h.3
leads_node s (t ∷ ss) i [] ns o n h = absurd h.3
leads_node s (t ∷ ss) i (j ∷ is) ns o n h =
    ap (λ p. option_and_then (paths.node_at (j ∷ is)) (option_and_then block_nodes p)) h.2
    ∙ in_block (j ∷ is) n (block_of h.0) (leads_node t ss j is (child_nodes h.0) (Some h.0) n h.3)

pub leads_at : (ss : List Step) (is : List ℕ) (ns : List KdlNode) (n : KdlNode) → Leads ss is ns None n → paths.node_at is ns ≡ Some n
leads_at [] [] ns n h = absurd (none-some n h)
leads_at [] (i ∷ is) ns n h = absurd h
leads_at (s ∷ ss) [] ns n h = absurd h
leads_at (s ∷ ss) (i ∷ is) ns n h = leads_node s ss i is ns None n h

-- the indices in the data
pub indices_said : (ss : List Step) (is : List ℕ) (ns : List KdlNode) (o : Option KdlNode) (n : KdlNode) → Leads ss is ns o n → AreIndices ss is (map node_says ns)
indices_said [] [] ns o n h = tt
indices_said [] (i ∷ is) ns o n h = absurd h
indices_said (s ∷ ss) [] ns o n h = absurd h
indices_said (s ∷ ss) (i ∷ is) ns o n h = (
  sym (place_said s ns) ∙ h.1,
  subst (λ (x : Option NodeData). IsSomeAnd x (λ y. AreIndices ss is (said_child_nodes y))) (sym (slice_get-map node_says ns i ∙ ap (option_map node_says) h.2))
      (subst (AreIndices ss is) (got_child_nodes h.0 (child_nodes h.0) refl) (indices_said ss is (child_nodes h.0) (Some h.0) n h.3)),
)

pub leads_indices : (ss : List Step) (is : List ℕ) (d : KdlDocument) (n : KdlNode) → Leads ss is (nodes_of d) None n → AreIndices ss is (said_nodes (document_says d))
leads_indices ss is d n h = subst (AreIndices ss is) (nodes_said d) (indices_said ss is (nodes_of d) None n h)

-- the entry of a target
pub keyless : (e : KdlEntry) → is_argument e ≡ has_no_key (entry_says e)
keyless e = go e.name
  where
    go : (o : Option KdlIdentifier) → is_none o ≡ is_none (option_map (λ (i : Identifier). i.value) (option_map identifier_tree o))
    go None = refl
    go (Some i) = refl

keyed : (s : String Global) (e : KdlEntry) → has_name (string_bytes s) e ≡ has_key (text_of s) (entry_says e)
keyed s e = go e.name
  where
    go : (o : Option KdlIdentifier) → is_name (string_bytes s) o ≡ option_map_or (λ k. same_text k (text_of s)) (option_map (λ (i : Identifier). i.value) (option_map identifier_tree o)) false
    go None = refl
    go (Some i) = (same_chars (string_bytes s) (IsUtf8-string_bytes s)).same (string_bytes i.value) (IsUtf8-string_bytes i.value)

pub target_said : (t : Target) (es : List KdlEntry) → place_of_target t es ≡ entry_place t (map entry_says es)
target_said Node es = nth_mapped entry_says is_argument has_no_key keyless es 0
target_said (Argument i) es = nth_mapped entry_says is_argument has_no_key keyless es i
target_said (Property s) es = last_mapped entry_says (has_name (string_bytes s)) (has_key (text_of s)) (keyed s) es

pub value_said_there : (t : Target) (n : KdlNode) → value_there (place_of_target t (entries_of n)) n ≡ value_in t (node_says n)
value_said_there Node n = argument_said 0 n
value_said_there (Argument i) n = argument_said i n
value_said_there (Property s) n = property_said (string_bytes s) n (IsUtf8-string_bytes s)

-- one step further
pub step_walks : (ss rest : List Step) (s : Step) (ns : List KdlNode) (o : Option KdlNode) (i : ℕ) (k : KdlNode) → ss ≡ s ∷ rest → place_of_step s ns ≡ Some i → slice_get ns i ≡ Some k → walk rest (Some k) (child_nodes k) ≡ walk ss o ns
step_walks ss rest s ns o i k e p at =
    let next = λ (k : KdlNode). walk rest (Some k) (child_nodes k) in
    sym (ap (λ l. walk l o ns) e ∙ ap (λ q. option_and_then next (there q ns)) p ∙ ap (option_and_then next) at)

-- where steps and indices lead from the nodes `all`: to those nodes themselves, or to a node, with the nodes ns in its block
abbrev pub IsReached : Option KdlNode → List Step → List ℕ → (all ns : List KdlNode) → Type 0
IsReached None ss is all ns = (ss ≡ []) × (is ≡ []) × (ns ≡ all)
IsReached (Some n) ss is all ns = Leads ss is all None n × (ns ≡ child_nodes n)

more_below : (ss : List Step) (is : List ℕ) (m n : KdlNode) (s : Step) (i : ℕ) (k : KdlNode) → Leads ss is (child_nodes m) (Some m) n → place_of_step s (child_nodes n) ≡ Some i → slice_get (child_nodes n) i ≡ Some k
    → Leads (ss ++ (s ∷ [])) (is ++ (i ∷ [])) (child_nodes m) (Some m) k
more_below [] [] m n s i k h p at =
    let same : n ≡ m = cc in
    (k, subst (λ (x : KdlNode). place_of_step s (child_nodes x) ≡ Some i) same p, subst (λ (x : KdlNode). slice_get (child_nodes x) i ≡ Some k) same at, refl)
more_below [] (j ∷ is) m n s i k h p at = absurd h
more_below (t ∷ ss) [] m n s i k h p at = absurd h
more_below (t ∷ ss) (j ∷ is) m n s i k h p at = (h.0, h.1, h.2, more_below ss is h.0 n s i k h.3 p at)

leads_more : (ss : List Step) (is : List ℕ) (all : List KdlNode) (n : KdlNode) (s : Step) (i : ℕ) (k : KdlNode) → Leads ss is all None n → place_of_step s (child_nodes n) ≡ Some i → slice_get (child_nodes n) i ≡ Some k → Leads (ss ++ (s ∷ [])) (is ++ (i ∷ [])) all None k
leads_more [] [] all n s i k h p at = absurd (none-some n h)
leads_more [] (j ∷ is) all n s i k h p at = absurd h
leads_more (t ∷ ss) [] all n s i k h p at = absurd h
leads_more (t ∷ ss) (j ∷ is) all n s i k h p at = (h.0, h.1, h.2, more_below ss is h.0 n s i k h.3 p at)

pub reached_more : (o : Option KdlNode) (ss : List Step) (is : List ℕ) (all ns : List KdlNode) (s : Step) (i : ℕ) (k : KdlNode) → IsReached o ss is all ns → place_of_step s ns ≡ Some i → slice_get ns i ≡ Some k → Leads (ss ++ (s ∷ [])) (is ++ (i ∷ [])) all None k
reached_more None ss is all ns s i k (e, f, g) p at =
    subst (λ (l : List Step). Leads (l ++ (s ∷ [])) (is ++ (i ∷ [])) all None k) (sym e)
    (subst (λ (l : List ℕ). Leads (s ∷ []) (l ++ (i ∷ [])) all None k) (sym f)
    (k, subst (λ (l : List KdlNode). place_of_step s l ≡ Some i) g p, subst (λ (l : List KdlNode). slice_get l i ≡ Some k) g at, refl))
reached_more (Some n) ss is all ns s i k (l, e) p at =
    leads_more ss is all n s i k l (subst (λ (l : List KdlNode). place_of_step s l ≡ Some i) e p) (subst (λ (l : List KdlNode). slice_get l i ≡ Some k) e at)

reached_among : (o : Option KdlNode) (ss : List Step) (is : List ℕ) (all ns : List KdlNode) → IsReached o ss is all ns → LeadsAmong ss is all ns
reached_among None ss is all ns (e, f, g) = subst (λ (l : List Step). LeadsAmong l is all ns) (sym e) (f, g)
reached_among (Some n) [] [] all ns (l, e) = absurd (none-some n l)
reached_among (Some n) [] (i ∷ is) all ns (l, e) = absurd l
reached_among (Some n) (s ∷ ss) is all ns (l, e) = (n, l, e)

pub step_stops : (ss rest : List Step) (s : Step) (i : ℕ) (o : Option KdlNode) (is : List ℕ) (all ns : List KdlNode) → length is ≡ i → IsReached o (take i ss) is all ns → drop i ss ≡ s ∷ rest → there (place_of_step s ns) ns ≡ None → StopsAt ss is all ns
step_stops ss rest s i o is all ns count reached e none = record {
  next = s;
  rest = rest;
  steps = ap (λ n. drop n ss) count ∙ e;
  leads = subst (λ (n : ℕ). LeadsAmong (take n ss) is all ns) (sym count) (reached_among o (take i ss) is all ns reached);
  none = none;
}

-- a step that leads nowhere
pub step_lost : (ss rest : List Step) (s : Step) (d : KdlDocument) (all : List Step) (ns : List KdlNode) (o : Option KdlNode) → ss ≡ s ∷ rest → there (place_of_step s ns) ns ≡ None → walk ss o ns ≡ walk all None (nodes_of d)
    → node_at all (said_nodes (document_says d)) ≡ None
step_lost ss rest s d all ns o e p w =
    let next = λ (k : KdlNode). walk rest (Some k) (child_nodes k) in
    sym (walk_said all d) ∙ ap (option_map node_says) (sym w ∙ ap (λ l. walk l o ns) e ∙ ap (option_and_then next) p)

pub none_lost : (d : KdlDocument) (all : List Step) → walk all None (nodes_of d) ≡ None → node_at all (said_nodes (document_says d)) ≡ None
none_lost d all w = sym (walk_said all d) ∙ ap (option_map node_says) w

-- the value of a target
pub value_found : (t : Target) (n : KdlNode) (i : ℕ) (e : KdlEntry) → Some i ≡ place_of_target t (entries_of n) → slice_get (entries_of n) i ≡ Some e → Some (value_tree (entry_value_of e)) ≡ value_in t (node_says n)
value_found t n i e p h =
    let value = λ (o : Option KdlEntry). option_map (λ (x : KdlEntry). value_tree (entry_value_of x)) o in
    sym (ap value h) ∙ ap (λ o. value (there o (entries_of n))) p ∙ value_said_there t n

pub value_missing : (t : Target) (n : KdlNode) → None ≡ place_of_target t (entries_of n) → None ≡ value_in t (node_says n)
value_missing t n p = ap (λ o. value_there o n) p ∙ value_said_there t n

-- the entry of a target
entry_said_there : (t : Target) (n : KdlNode) → option_map entry_says (there (place_of_target t (entries_of n)) (entries_of n)) ≡ entry_in t (node_says n)
entry_said_there Node n = nth_argument_said 0 n
entry_said_there (Argument i) n = nth_argument_said i n
entry_said_there (Property s) n = last_property_said (string_bytes s) n (IsUtf8-string_bytes s)

pub entry_found : (t : Target) (n : KdlNode) (i : ℕ) (o : Option KdlEntry) → Some i ≡ place_of_target t (entries_of n) → slice_get (entries_of n) i ≡ o → option_map entry_says o ≡ entry_in t (node_says n)
entry_found t n i o p h = sym (ap (option_map entry_says) h) ∙ ap (λ q. option_map entry_says (there q (entries_of n))) p ∙ entry_said_there t n

pub entry_missing : (t : Target) (n : KdlNode) → None ≡ place_of_target t (entries_of n) → None ≡ entry_in t (node_says n)
entry_missing t n p = ap (λ q. option_map entry_says (there q (entries_of n))) p ∙ entry_said_there t n

pub value_of_entry : (t : Target) (x : NodeData) → option_map (λ (e : EntryData). e.value) (entry_in t x) ≡ value_in t x
value_of_entry Node x = refl
value_of_entry (Argument i) x = refl
value_of_entry (Property s) x = refl

-- the value at a PATH
pub at_node : (p : Path) (is : List ℕ) (d : KdlDocument) (n : KdlNode) → Leads p.steps.items is (nodes_of d) None n → at_path p (document_says d) ≡ value_in p.target (node_says n)
at_node p is d n h = ap (option_and_then (value_in p.target)) (leads_said p.steps.items is d n h)

pub at_nowhere : (p : Path) (d : KdlDocument) → node_at p.steps.items (said_nodes (document_says d)) ≡ None → at_path p (document_says d) ≡ None
at_nowhere p d h = ap (option_and_then (value_in p.target)) h

-- what is at a place that was found
some_shifted : {A : Type 0} (x : A) (xs : List A) (o : Option ℕ) (i : ℕ) → option_map suc o ≡ Some i → ((j : ℕ) → o ≡ Some j → IsSome (slice_get xs j)) → IsSome (slice_get (x ∷ xs) i)
some_shifted x xs None i e h = absurd (none-some i e)
some_shifted x xs (Some j) zero e h = absurd (cc)
some_shifted x xs (Some j) (suc i) e h = let same : j ≡ i = cc in subst (λ (k : ℕ). IsSome (slice_get xs k)) same (h j refl)

pub nth_there : {A : Type 0} (p : A → Bool) (xs : List A) (n i : ℕ) → nth_place p xs n ≡ Some i → IsSome (slice_get xs i)
nth_there p [] n i e = absurd (none-some i e)
nth_there {A = A} p (x ∷ xs) n i e = go (p x) n (λ m j. nth_there p xs m j) e
  where
    go : (b : Bool) (n : ℕ) → ((m j : ℕ) → nth_place p xs m ≡ Some j → IsSome (slice_get xs j)) → nth_step b n (nth_place p xs) ≡ Some i → IsSome (slice_get (x ∷ xs) i)
    go true zero h e = let same : 0 ≡ i = cc in subst (λ (k : ℕ). IsSome (slice_get (x ∷ xs) k)) same refl
    go true (suc m) h e = some_shifted x xs (nth_place p xs m) i e (h m)
    go false m h e = some_shifted x xs (nth_place p xs m) i e (h m)

last_there : {A : Type 0} (p : A → Bool) (xs : List A) (i : ℕ) → last_place p xs ≡ Some i → IsSome (slice_get xs i)
last_there p [] i e = absurd (none-some i e)
last_there {A = A} p (x ∷ xs) i e = go (last_place p xs) (p x) (λ j. last_there p xs j) e
  where
    go : (o : Option ℕ) (b : Bool) → ((j : ℕ) → o ≡ Some j → IsSome (slice_get xs j)) → later o b ≡ Some i → IsSome (slice_get (x ∷ xs) i)
    go None true h e = let same : 0 ≡ i = cc in subst (λ (k : ℕ). IsSome (slice_get (x ∷ xs) k)) same refl
    go None false h e = absurd (none-some i e)
    go (Some j) b h e = some_shifted x xs (Some j) i e h

target_there : (t : Target) (es : List KdlEntry) (i : ℕ) → place_of_target t es ≡ Some i → IsSome (slice_get es i)
target_there Node es i e = nth_there is_argument es 0 i e
target_there (Argument k) es i e = nth_there is_argument es k i e
target_there (Property s) es i e = last_there (has_name (string_bytes s)) es i e

pub value_is_there : (t : Target) (n : KdlNode) (i : ℕ) → Some i ≡ place_of_target t (entries_of n) → IsSome (value_in t (node_says n))
value_is_there t n i p = go (slice_get (entries_of n) i) refl (target_there t (entries_of n) i (sym p))
  where
    go : (o : Option KdlEntry) → slice_get (entries_of n) i ≡ o → IsSome o → IsSome (value_in t (node_says n))
    go None e s = absurd (cc)
    go (Some x) e s = subst (λ (o : Option Value). IsSome o) (value_found t n i x p e) refl
