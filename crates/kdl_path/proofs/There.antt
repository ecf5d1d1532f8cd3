-- A value that is made at a PATH is there.
use Rattle.std.proofs.Common.{◌≡◌, ◌&&◌, ℕ, zero, suc, Bool, true, false, List, [], ◌∷◌, ◌++◌, length, Option, None, Some, option_and_then, option_map, slice_get, refl, ap, ◌∙◌, sym}
use Rattle.std.proofs.lemmas.Bool.{and_parts, eqb-true}
use Rattle.std.proofs.lemmas.Option.{none-some}
use Rattle.std.proofs.lemmas.Slice.Eq.{bytes_eq-Decides}
use Rattle.std.specs.List.{filter, list_all}
use Rattle.std.specs.Prelude.{is_some, unwrap_or}
use Rattle.kdl_text.specs.Chars.{Text}
use Rattle.kdl_value.specs.Data.{Value}
use Rattle.kdl_value.specs.Tree.{text_of}
use Rattle.kdl_entry.specs.Data.{Entry}
use Rattle.kdl_grammar.specs.Data as data'
use Rattle.kdl_parts.specs.EntryLists.{last_place, later, nth_place, nth_step, same_text, there}
use Rattle.kdl.specs.Said.{has_key, has_no_key, is_called, said_entries, said_name, said_nodes}
use Rattle.kdl.proofs.Finding.ListLookups.{get_seam, last_found, nth_found}
use Rattle.kdl_path.specs.Edits.{made_at, made_below, made_there, new_entry, new_node, node_with_entry, with_last, with_nth, with_own_block}
use Rattle.kdl_path.specs.Failures.{is_first, is_next, makes_at, makes_below, makes_entry, makes_node, makes_on}
use Rattle.kdl_path.specs.Paths.{node_at, node_below, step_node, step_place, value_in}
use Rattle.kdl_path.specs.declared.path.Step.{Step}
use Rattle.kdl_path.specs.declared.path.Target.{Target}
use Rattle.kdl_path.specs.declared.path.Target.TheVariants.{Node, Argument, Property}
use Rattle.kdl_path.proofs.Failing.{none_is_some}
use Rattle.kdl_path.proofs.Places.{nth_there}

-- the place of an element that is appended, which passes a test
none_mapped : {A B : Type 0} (f : A → B) (o : Option A) → option_map f o ≡ None → o ≡ None
none_mapped f None h = refl
none_mapped f (Some x) h = absurd (none-some (f x) (sym h))

some_mapped : {A B : Type 0} (f : A → B) (o : Option A) → is_some (option_map f o) ≡ true → is_some o ≡ true
some_mapped f None h = h
some_mapped f (Some x) h = refl

appended : {A : Type 0} (p : A → Bool) (xs : List A) (y : A) (n : ℕ) → p y ≡ true → nth_place p xs n ≡ None → is_next n (nth_place p xs) ≡ true → nth_place p (xs ++ (y ∷ [])) n ≡ Some (length xs)
appended p [] y zero t none next = ap (λ b. nth_step b 0 (nth_place p [])) t
appended p [] y (suc n) t none next = absurd (cc)
appended {A = A} p (x ∷ xs) y n t none next = go (p x) n none next (λ m. appended p xs y m t)
  where
    before : (n : ℕ) → is_some (option_map suc (nth_place p xs n)) ≡ true → is_next (suc n) (nth_place p xs) ≡ true
    before n h = some_mapped suc (nth_place p xs n) h

    go : (b : Bool) (n : ℕ) → nth_step b n (nth_place p xs) ≡ None → is_next n (λ m. nth_step b m (nth_place p xs)) ≡ true
        → ((m : ℕ) → nth_place p xs m ≡ None → is_next m (nth_place p xs) ≡ true → nth_place p (xs ++ (y ∷ [])) m ≡ Some (length xs)) → nth_step b n (nth_place p (xs ++ (y ∷ []))) ≡ Some (suc (length xs))
    go true zero none next h = absurd (cc)
    go true (suc zero) none next h = ap (option_map suc) (h 0 (none_mapped suc _ none) refl)
    go true (suc (suc n)) none next h = ap (option_map suc) (h (suc n) (none_mapped suc _ none) (before n next))
    go false zero none next h = ap (option_map suc) (h 0 (none_mapped suc _ none) refl)
    go false (suc n) none next h = ap (option_map suc) (h (suc n) (none_mapped suc _ none) (before n next))

last_appended : {A : Type 0} (p : A → Bool) (xs : List A) (y : A) → p y ≡ true → last_place p (xs ++ (y ∷ [])) ≡ Some (length xs)
last_appended p [] y t = ap (later None) t
last_appended p (x ∷ xs) y t = ap (λ o. later o (p x)) (last_appended p xs y t)

unplaced : {A : Type 0} (p : A → Bool) (xs : List A) (n : ℕ) → there (nth_place p xs n) xs ≡ None → nth_place p xs n ≡ None
unplaced p xs n h = go (nth_place p xs n) refl h
  where
    go : (o : Option ℕ) → nth_place p xs n ≡ o → there o xs ≡ None → o ≡ None
    go None e h = refl
    go (Some i) e h = absurd (none_is_some (slice_get xs i) h (nth_there p xs n i e))

text_same : (t : Text) → same_text t t ≡ true
text_same t = (bytes_eq-Decides t t).1 refl

-- an entry
argument_there : (i : ℕ) (v : Value) (es : List Entry) → is_next i (nth_place has_no_key es) ≡ true → option_map (λ (e : Entry). e.value) (slice_get (filter has_no_key es) i) ≡ None
    → option_map (λ (e : Entry). e.value) (slice_get (filter has_no_key (es ++ (record { key = None; ty = None; value = v } ∷ []))) i) ≡ Some v
argument_there i v es next none =
    let e : Entry = record { key = None; ty = None; value = v } in
    let no : nth_place has_no_key es i ≡ None = unplaced has_no_key es i (nth_found has_no_key es i ∙ none_mapped _ _ none) in
    ap (option_map (λ (x : Entry). x.value)) (sym (nth_found has_no_key (es ++ (e ∷ [])) i) ∙ ap (λ o. there o (es ++ (e ∷ []))) (appended has_no_key es e i refl no next) ∙ get_seam es [] e)

entry_there : (t : Target) (v : Value) (n : data'.Node) → makes_entry t (said_entries n) ≡ true → value_in t n ≡ None → value_in t (node_with_entry (new_entry t v) n) ≡ Some v
entry_there Node v (data'.node ty name es k) next none = argument_there 0 v es refl none
entry_there (Argument i) v (data'.node ty name es k) next none = argument_there i v es next none
entry_there (Property s) v (data'.node ty name es k) next none =
    let e : Entry = new_entry (Property s) v in
    ap (option_map (λ (x : Entry). x.value)) (sym (last_found (has_key (text_of s)) (es ++ (e ∷ []))) ∙ ap (λ o. there o (es ++ (e ∷ []))) (last_appended (has_key (text_of s)) es e (text_same (text_of s))) ∙ get_seam es [] e)

same_step : (b : Bool) (n : ℕ) (f g : ℕ → Option ℕ) → ((m : ℕ) → f m ≡ g m) → nth_step b n f ≡ nth_step b n g
same_step true zero f g h = refl
same_step true (suc n) f g h = ap (option_map suc) (h n)
same_step false n f g h = ap (option_map suc) (h n)

-- nodes after a change of one of them that keeps its name, and with one more at their end
same_places : (p : data'.Node → Bool) (g : data'.Node → data'.Node) → ((k : data'.Node) → p (g k) ≡ p k) → (i : ℕ) (x : data'.Nodes) (n : ℕ) → nth_place p (said_nodes (with_nth i g x)) n ≡ nth_place p (said_nodes x) n
same_places p g h i data'.none n = refl
same_places p g h zero (data'.first k x) n = ap (λ b. nth_step b n (nth_place p (said_nodes x))) (h k)
same_places p g h (suc i) (data'.first k x) n = same_step (p k) n (nth_place p (said_nodes (with_nth i g x))) (nth_place p (said_nodes x)) (same_places p g h i x)

changed_there : (g : data'.Node → data'.Node) (i : ℕ) (x : data'.Nodes) (k : data'.Node) → slice_get (said_nodes x) i ≡ Some k → slice_get (said_nodes (with_nth i g x)) i ≡ Some (g k)
changed_there g i data'.none k h = absurd (none-some k h)
changed_there g zero (data'.first m x) k h = let e : m ≡ k = cc in ap (λ z. Some (g z)) e
changed_there g (suc i) (data'.first m x) k h = changed_there g i x k h

nodes_last : (y : data'.Node) (x : data'.Nodes) → said_nodes (with_last y x) ≡ said_nodes x ++ (y ∷ [])
nodes_last y data'.none = refl
nodes_last y (data'.first n x) = ap (λ l. n ∷ l) (nodes_last y x)

entry_name : (e : Entry) (n : data'.Node) → said_name (node_with_entry e n) ≡ said_name n
entry_name e (data'.node ty name es k) = refl

block_name : (f : data'.Nodes → data'.Nodes) (n : data'.Node) → said_name (with_own_block f n) ≡ said_name n
block_name f (data'.node ty name es data'.no_children) = refl
block_name f (data'.node ty name es (data'.children x)) = refl

below_name : (ss : List Step) (e : Entry) (n : data'.Node) → said_name (made_below ss (node_with_entry e) n) ≡ said_name n
below_name [] e n = entry_name e n
below_name (s ∷ ss) e n = block_name (λ x. made_there (step_place s (said_nodes x)) (new_node s) (made_below ss (node_with_entry e)) x) n

-- a node in which nothing is yet
empty_missing : (t : Target) (s : Step) → value_in t (new_node s) ≡ None
empty_missing Node s = refl
empty_missing (Argument i) s = none_got i
  where
    none_got : (i : ℕ) → option_map (λ (e : Entry). e.value) (slice_get [] i) ≡ None
    none_got zero = refl
    none_got (suc i) = refl
empty_missing (Property s) u = refl

first_next : (s : Step) (place : ℕ → Option ℕ) → is_first s ≡ true → is_next (unwrap_or s.index 0) place ≡ true
first_next s place h = ap (λ n. is_next n place) (eqb-true (unwrap_or s.index 0) 0 h)

both : (a b : Bool) → a ≡ true → b ≡ true → (a && b) ≡ true
both true b h k = k
both false b h k = absurd (cc)

makes_empty : (ss : List Step) (t : Target) (s : Step) → list_all is_first ss ≡ true → makes_entry t [] ≡ true → makes_below ss t (new_node s) ≡ true
makes_empty [] t s first next = next
makes_empty (u ∷ us) t s first next = let (a, b) = and_parts (is_first u) (list_all is_first us) first in both _ _ (first_next u _ a) (both _ _ b next)

nothing_below : (ss : List Step) (t : Target) (s : Step) → option_and_then (value_in t) (node_below ss (new_node s)) ≡ None
nothing_below [] t s = empty_missing t s
nothing_below (u ∷ us) t s = refl

-- a step, after which the value is made
module _ (t : Target) (v : Value) where
  abbrev valued : data'.Node → data'.Node
  valued = node_with_entry (new_entry t v)

  abbrev IsMadeIn : List Step → Type 0
  IsMadeIn ss = (n : data'.Node) → makes_below ss t n ≡ true → option_and_then (value_in t) (node_below ss n) ≡ None → option_and_then (value_in t) (node_below ss (made_below ss valued n)) ≡ Some v

  step_there : (s : Step) (ss : List Step) → IsMadeIn ss → (x : data'.Nodes) → makes_on (step_node s (said_nodes x)) (makes_node s ss t (said_nodes x)) (makes_below ss t) ≡ true
      → option_and_then (value_in t) (option_and_then (node_below ss) (step_node s (said_nodes x))) ≡ None
      → option_and_then (value_in t) (option_and_then (node_below ss) (step_node s (said_nodes (made_there (step_place s (said_nodes x)) (new_node s) (made_below ss valued) x)))) ≡ Some v
  step_there s ss ih x makes none = go (step_place s (said_nodes x)) refl makes none
    where
      g : data'.Node → data'.Node
      g = made_below ss valued

      value : Option data'.Node → Option Value
      value o = option_and_then (value_in t) (option_and_then (node_below ss) o)

      changed : (i : ℕ) (o : Option data'.Node) → step_place s (said_nodes x) ≡ Some i → slice_get (said_nodes x) i ≡ o → makes_on o (makes_node s ss t (said_nodes x)) (makes_below ss t) ≡ true → value o ≡ None
          → value (step_node s (said_nodes (with_nth i g x))) ≡ Some v
      changed i None p at makes none = absurd (none_is_some _ at (nth_there (is_called (text_of s.name)) (said_nodes x) (unwrap_or s.index 0) i p))
      changed i (Some k) p at makes none =
          let named : step_place s (said_nodes (with_nth i g x)) ≡ Some i = same_places (is_called (text_of s.name)) g (λ k. ap (λ a. same_text a (text_of s.name)) (below_name ss (new_entry t v) k)) i x (unwrap_or s.index 0) ∙ p in
          ap (λ o. value (there o (said_nodes (with_nth i g x)))) named ∙ ap value (changed_there g i x k at) ∙ ih k makes none

      go : (o : Option ℕ) → step_place s (said_nodes x) ≡ o → makes_on (there o (said_nodes x)) (makes_node s ss t (said_nodes x)) (makes_below ss t) ≡ true → value (there o (said_nodes x)) ≡ None
          → value (step_node s (said_nodes (made_there o (new_node s) g x))) ≡ Some v
      go (Some i) p makes none = changed i (slice_get (said_nodes x) i) p refl makes none
      go None p makes none =
          let y = g (new_node s) in
          let (next, rest) = and_parts (is_next (unwrap_or s.index 0) (nth_place (is_called (text_of s.name)) (said_nodes x))) (list_all is_first ss && makes_entry t []) makes in
          let (first, entry) = and_parts (list_all is_first ss) (makes_entry t []) rest in
          let named : is_called (text_of s.name) y ≡ true = ap (λ a. same_text a (text_of s.name)) (below_name ss (new_entry t v) (new_node s)) ∙ text_same (text_of s.name) in
          let at : step_node s (said_nodes (with_last y x)) ≡ Some y =
          ap (step_node s) (nodes_last y x) ∙ ap (λ o. there o (said_nodes x ++ (y ∷ []))) (appended (is_called (text_of s.name)) (said_nodes x) y (unwrap_or s.index 0) named p next) ∙ get_seam (said_nodes x) [] y in
          ap value at ∙ ih (new_node s) (makes_empty ss t s first entry) (nothing_below ss t s)

  below_there : (ss : List Step) → IsMadeIn ss
  below_there [] n makes none = entry_there t v n makes none
  below_there (s ∷ ss) (data'.node ty name es data'.no_children) makes none = step_there s ss (below_there ss) data'.none makes none
  below_there (s ∷ ss) (data'.node ty name es (data'.children x)) makes none = step_there s ss (below_there ss) x makes none

  pub made_is_there : (ss : List Step) (x : data'.Nodes) → makes_at ss t (said_nodes x) ≡ true → option_and_then (value_in t) (node_at ss (said_nodes x)) ≡ None → option_and_then (value_in t) (node_at ss (said_nodes (made_at ss valued x))) ≡ Some v
  made_is_there [] x makes none = absurd (cc)
  made_is_there (s ∷ ss) x makes none = step_there s ss (below_there ss) x makes none
