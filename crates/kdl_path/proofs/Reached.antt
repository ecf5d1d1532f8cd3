-- Every node to which steps lead, in memory and in the data.
use Rattle.std.proofs.Common.{Bor, ◌≡◌, ◌+◌, ◌<◌, length, take, get_or, is_none, ℕ, zero, suc, Bool, true, false, List, [], ◌∷◌, ◌++◌, map, Option, None, Some, option_and_then, option_map, slice_get, string_bytes, refl, ap, ◌∙◌, sym, append_assoc, append-nil}
use Rattle.std.proofs.lemmas.List.{map-append, take_more}
use Rattle.std.proofs.lemmas.List.Elements.{filter_map-append}
use Rattle.std.proofs.lemmas.Grind.{flat_map-append}
use Rattle.std.proofs.lemmas.Option.{none-some}
use Rattle.std.specs.List.{cons_option, filter, filter_map, flat_map}
use Rattle.std.specs.Option.{option_to_list}
use Rattle.std.specs.Prelude.{cond}
use Rattle.kdl_value.specs.Data.{Value}
use Rattle.kdl_value.specs.Tree.{text_of, value_tree}
use Rattle.kdl_value.specs.declared.value.KdlValue.{KdlValue}
use Rattle.kdl_parts.specs.EntryLists.{nth_place, nth_step, there}
use Rattle.kdl.specs.Words.{NodeData, Nodes, child_nodes, document_says, is_node_named, node_says, nodes_of, said_child_nodes, said_nodes}
use Rattle.kdl.specs.Said.{is_called}
use Rattle.kdl.specs.declared.document.KdlDocument.{KdlDocument}
use Rattle.kdl.specs.declared.node.KdlNode.{KdlNode}
use Rattle.kdl.proofs.Finding.SaidLookups.{got_child_nodes, nodes_said}
use Rattle.kdl_path.specs.Internal.Located.{found_named, named_in, place_of_step, reached}
use Rattle.kdl_path.specs.Internal.Every.{reached_at}
use Rattle.kdl_path.specs.Paths.{all_at, at_path, node_at, node_below, nodes_at, nodes_below, nodes_named, step_node, value_in}
use Rattle.kdl_path.specs.declared.path.Path.{Path}
use Rattle.kdl_path.specs.declared.path.Step.{Step}
use Rattle.kdl_path.specs.declared.path.Target.{Target}
use Rattle.kdl_path.proofs.Places.{named_said, place_said, there_mapped}

-- what passes a test, before and after a map
filter_mapped : {A B : Type 0} (f : A → B) (p : A → Bool) (q : B → Bool) → ((x : A) → p x ≡ q (f x)) → (xs : List A) → map f (filter p xs) ≡ filter q (map f xs)
filter_mapped f p q h [] = refl
filter_mapped {A = A} f p q h (x ∷ xs) = go (p x) (q (f x)) (h x) (filter_mapped f p q h xs)
  where
    go : (b c : Bool) → b ≡ c → map f (filter p xs) ≡ filter q (map f xs) → map f (cond b (x ∷ filter p xs) (filter p xs)) ≡ cond c (f x ∷ filter q (map f xs)) (filter q (map f xs))
    go true true e i = ap (λ l. f x ∷ l) i
    go false false e i = i
    go true false e i = cc
    go false true e i = cc

list_mapped : {A B : Type 0} (f : A → B) (o : Option A) → map f (option_to_list o) ≡ option_to_list (option_map f o)
list_mapped f None = refl
list_mapped f (Some x) = refl

-- the nodes of a step
pub named_nodes_said : (s : Step) (ns : List KdlNode) → map node_says (named_in s ns) ≡ nodes_named s.index s (map node_says ns)
named_nodes_said s ns = go s.index
  where
    go : (o : Option ℕ) → map node_says (found_named o s ns) ≡ nodes_named o s (map node_says ns)
    go None = filter_mapped node_says (is_node_named (string_bytes s.name)) (is_called (text_of s.name)) (named_said s.name) ns
    go (Some i) =
        list_mapped node_says (there (place_of_step s ns) ns)
        ∙ ap option_to_list (sym (there_mapped node_says ns (place_of_step s ns)) ∙ ap (λ p. there p (map node_says ns)) (place_said s ns))

-- the nodes of the steps
reached_from : (ss : List Step) → ((n : KdlNode) → map node_says (reached ss n) ≡ nodes_below ss (node_says n)) → (ns : List KdlNode) → map node_says (flat_map (reached ss) ns) ≡ flat_map (nodes_below ss) (map node_says ns)
reached_from ss h [] = refl
reached_from ss h (n ∷ ns) =
    map-append node_says (reached ss n) (flat_map (reached ss) ns)
    ∙ ap (λ l. l ++ map node_says (flat_map (reached ss) ns)) (h n)
    ∙ ap (λ l. nodes_below ss (node_says n) ++ l) (reached_from ss h ns)

reached_said : (ss : List Step) (n : KdlNode) → map node_says (reached ss n) ≡ nodes_below ss (node_says n)
reached_said [] n = refl
reached_said (s ∷ ss) n =
    reached_from ss (reached_said ss) (named_in s (child_nodes n))
    ∙ ap (flat_map (nodes_below ss)) (named_nodes_said s (child_nodes n) ∙ ap (nodes_named s.index s) (got_child_nodes n (child_nodes n) refl))

at_said : (ss : List Step) (d : KdlDocument) → map node_says (reached_at ss (nodes_of d)) ≡ nodes_at ss (said_nodes (document_says d))
at_said [] d = refl
at_said (s ∷ ss) d =
    reached_from ss (reached_said ss) (named_in s (nodes_of d))
    ∙ ap (flat_map (nodes_below ss)) (named_nodes_said s (nodes_of d) ∙ ap (nodes_named s.index s) (nodes_said d))

-- one step further
pub flat_map_twice : {A B C : Type 0} (f : B → List C) (g : A → List B) (xs : List A) → flat_map f (flat_map g xs) ≡ flat_map (λ x. flat_map f (g x)) xs
flat_map_twice f g [] = refl
flat_map_twice f g (x ∷ xs) = flat_map-append f (g x) (flat_map g xs) ∙ ap (λ l. flat_map f (g x) ++ l) (flat_map_twice f g xs)

pub reached_first : (ss below : List Step) (s : Step) (ns ms : List KdlNode) → ss ≡ s ∷ below → ms ≡ named_in s ns → flat_map (reached below) ms ≡ reached_at ss ns
reached_first ss below s ns ms e h = ap (flat_map (reached below)) h ∙ ap (λ l. reached_at l ns) (sym e)

pub reached_next : (ss rest : List Step) (s : Step) (ms ns : List KdlNode) → ss ≡ s ∷ rest → ns ≡ flat_map (λ n. named_in s (child_nodes n)) ms → flat_map (reached rest) ns ≡ flat_map (reached ss) ms
reached_next ss rest s ms ns e h =
    ap (flat_map (reached rest)) h ∙ flat_map_twice (reached rest) (λ n. named_in s (child_nodes n)) ms ∙ ap (λ l. flat_map (reached l) ms) (sym e)

reached_end : (ns : List KdlNode) → flat_map (reached []) ns ≡ ns
reached_end [] = refl
reached_end (n ∷ ns) = ap (λ l. n ∷ l) (reached_end ns)

says_now : (bs : List (Bor KdlNode)) → map (λ b. node_says b.now) bs ≡ map node_says (map (λ b. b.now) bs)
says_now [] = refl
says_now (b ∷ bs) = ap (λ l. node_says b.now ∷ l) (says_now bs)

pub all_reached : (ss left : List Step) (d : KdlDocument) (bs : List (Bor KdlNode)) → left ≡ [] → flat_map (reached left) (map (λ b. b.now) bs) ≡ reached_at ss (nodes_of d) → map (λ b. node_says b.now) bs ≡ nodes_at ss (said_nodes (document_says d))
all_reached ss left d bs e h =
    says_now bs ∙ ap (map node_says) (sym (reached_end (map (λ b. b.now) bs)) ∙ ap (λ l. flat_map (reached l) (map (λ b. b.now) bs)) (sym e) ∙ h) ∙ at_said ss d

-- the nodes of a step with an index
pub found_at : (s : Step) (ns : List KdlNode) (i : ℕ) (n : KdlNode) → is_none s.index ≡ false → Some i ≡ place_of_step s ns → slice_get ns i ≡ Some n → named_in s ns ≡ n ∷ []
found_at s ns i n b p h = go s.index b
  where
    go : (o : Option ℕ) → is_none o ≡ false → found_named o s ns ≡ n ∷ []
    go None e = absurd (cc)
    go (Some k) e = ap (λ q. option_to_list (there q ns)) (sym p) ∙ ap option_to_list h

pub found_past : (s : Step) (ns : List KdlNode) (i : ℕ) → is_none s.index ≡ false → Some i ≡ place_of_step s ns → slice_get ns i ≡ None → named_in s ns ≡ []
found_past s ns i b p h = go s.index b
  where
    go : (o : Option ℕ) → is_none o ≡ false → found_named o s ns ≡ []
    go None e = absurd (cc)
    go (Some k) e = ap (λ q. option_to_list (there q ns)) (sym p) ∙ ap option_to_list h

-- one more node, and its value
pub one_found : (bs cs : List (Bor KdlNode)) (b : Bor KdlNode) (ns : List KdlNode) → cs ≡ bs ++ (b ∷ []) → ns ≡ b.now ∷ [] → map (λ n. n.now) cs ≡ map (λ n. n.now) bs ++ ns
one_found bs cs b ns e h = ap (map (λ n. n.now)) e ∙ map-append (λ n. n.now) bs (b ∷ []) ∙ ap (λ l. map (λ n. n.now) bs ++ l) (sym h)

cons_list : (o : Option Value) → cons_option o [] ≡ option_to_list o
cons_list None = refl
cons_list (Some v) = refl

values_more : (t : Target) (bs : List (Bor KdlNode)) (i : ℕ) (b : Bor KdlNode) → i < length bs → get_or bs i b ≡ b
    → filter_map (value_in t) (map (λ n. node_says n.now) (take (i + 1) bs)) ≡ filter_map (value_in t) (map (λ n. node_says n.now) (take i bs)) ++ option_to_list (value_in t (node_says b.now))
values_more t bs i b lt e =
    ap (λ l. filter_map (value_in t) (map (λ n. node_says n.now) l)) (take_more bs i b lt ∙ ap (λ x. take i bs ++ (x ∷ [])) e)
    ∙ ap (filter_map (value_in t)) (map-append (λ n. node_says n.now) (take i bs) (b ∷ []))
    ∙ filter_map-append (value_in t) (map (λ n. node_says n.now) (take i bs)) (node_says b.now ∷ [])
    ∙ ap (λ l. filter_map (value_in t) (map (λ n. node_says n.now) (take i bs)) ++ l) (cons_list (value_in t (node_says b.now)))

pub value_pushed : (t : Target) (bs : List (Bor KdlNode)) (i : ℕ) (b : Bor KdlNode) (vs ws : List (Bor KdlValue)) (v : Bor KdlValue) → i < length bs → get_or bs i b ≡ b → Some (value_tree v.now) ≡ value_in t (node_says b.now) → ws ≡ vs ++ (v ∷ [])
    → map (λ v. value_tree v.now) vs ≡ filter_map (value_in t) (map (λ n. node_says n.now) (take i bs)) → map (λ v. value_tree v.now) ws ≡ filter_map (value_in t) (map (λ n. node_says n.now) (take (i + 1) bs))
value_pushed t bs i b vs ws v lt e found h inv =
    ap (map (λ v. value_tree v.now)) h
    ∙ map-append (λ v. value_tree v.now) vs (v ∷ [])
    ∙ ap (λ l. l ++ (value_tree v.now ∷ [])) inv
    ∙ ap (λ o. filter_map (value_in t) (map (λ n. node_says n.now) (take i bs)) ++ option_to_list o) found
    ∙ sym (values_more t bs i b lt e)

pub value_missed : (t : Target) (bs : List (Bor KdlNode)) (i : ℕ) (b : Bor KdlNode) (vs ws : List (Bor KdlValue)) → i < length bs → get_or bs i b ≡ b → None ≡ value_in t (node_says b.now) → ws ≡ vs
    → map (λ v. value_tree v.now) vs ≡ filter_map (value_in t) (map (λ n. node_says n.now) (take i bs)) → map (λ v. value_tree v.now) ws ≡ filter_map (value_in t) (map (λ n. node_says n.now) (take (i + 1) bs))
value_missed t bs i b vs ws lt e missing h inv =
    let before = filter_map (value_in t) (map (λ n. node_says n.now) (take i bs)) in
    ap (map (λ v. value_tree v.now)) h ∙ inv ∙ sym (append-nil before) ∙ ap (λ o. before ++ option_to_list o) missing ∙ sym (values_more t bs i b lt e)

-- the node that a PATH names is one of those to which it leads
abbrev Has : {A : Type 0} → List A → A → Type 0
Has {A = A} xs x = (ls : List A) × (rs : List A) × (xs ≡ ls ++ (x ∷ rs))

has_in : {A B : Type 0} (f : A → List B) (xs : List A) (x : A) (y : B) → Has xs x → Has (f x) y → Has (flat_map f xs) y
has_in f xs x y (ls, rs, e) (us, vs, g) = (
  flat_map f ls ++ us,
  vs ++ flat_map f rs,
  ap (flat_map f) e
      ∙ flat_map-append f ls (x ∷ rs)
      ∙ ap (λ l. flat_map f ls ++ (l ++ flat_map f rs)) g
      ∙ ap (λ l. flat_map f ls ++ l) (append_assoc us (y ∷ vs) (flat_map f rs))
      ∙ sym (append_assoc (flat_map f ls) us (y ∷ (vs ++ flat_map f rs))),
)

later_at : {A : Type 0} (y : A) (ys : List A) (o : Option ℕ) → there (option_map suc o) (y ∷ ys) ≡ there o ys
later_at y ys None = refl
later_at y ys (Some i) = refl

has_first : {A : Type 0} (p : A → Bool) (xs : List A) (n : ℕ) (x : A) → there (nth_place p xs n) xs ≡ Some x → Has (filter p xs) x
has_first p [] n x e = absurd (none-some x e)
has_first {A = A} p (y ∷ ys) n x e = go (p y) n (λ m. has_first p ys m x) e
  where
    go : (b : Bool) (n : ℕ) → ((m : ℕ) → there (nth_place p ys m) ys ≡ Some x → Has (filter p ys) x) → there (nth_step b n (nth_place p ys)) (y ∷ ys) ≡ Some x → Has (cond b (y ∷ filter p ys) (filter p ys)) x
    go true zero h e = let same : y ≡ x = cc in ([], filter p ys, ap (λ z. z ∷ filter p ys) same)
    go true (suc m) h e = let k = h m (sym (later_at y ys (nth_place p ys m)) ∙ e) in (y ∷ k.0, k.1, ap (λ l. y ∷ l) k.2)
    go false m h e = h m (sym (later_at y ys (nth_place p ys m)) ∙ e)

has_step : (s : Step) (xs : List NodeData) (x : NodeData) → step_node s xs ≡ Some x → Has (nodes_named s.index s xs) x
has_step s xs x e = go s.index
  where
    go : (o : Option ℕ) → Has (nodes_named o s xs) x
    go None = has_first (is_called (text_of s.name)) xs _ x e
    go (Some i) = ([], [], ap option_to_list e)

has_below : (ss : List Step) (x y : NodeData) → node_below ss x ≡ Some y → Has (nodes_below ss x) y
has_below [] x y e = let same : x ≡ y = cc in ([], [], ap (λ z. z ∷ []) same)
has_below (s ∷ ss) x y e = go (step_node s (said_child_nodes x)) refl e (λ z h. has_below ss z y h)
  where
    go : (o : Option NodeData) → step_node s (said_child_nodes x) ≡ o → option_and_then (node_below ss) o ≡ Some y → ((z : NodeData) → node_below ss z ≡ Some y → Has (nodes_below ss z) y) → Has (nodes_below (s ∷ ss) x) y
    go None f e k = absurd (none-some y e)
    go (Some z) f e k = has_in (nodes_below ss) (nodes_named s.index s (said_child_nodes x)) z y (has_step s (said_child_nodes x) z f) (k z e)

has_node : (ss : List Step) (xs : List NodeData) (y : NodeData) → node_at ss xs ≡ Some y → Has (nodes_at ss xs) y
has_node [] xs y e = absurd (none-some y e)
has_node (s ∷ ss) xs y e = go (step_node s xs) refl e
  where
    go : (o : Option NodeData) → step_node s xs ≡ o → option_and_then (node_below ss) o ≡ Some y → Has (nodes_at (s ∷ ss) xs) y
    go None f e = absurd (none-some y e)
    go (Some z) f e = has_in (nodes_below ss) (nodes_named s.index s xs) z y (has_step s xs z f) (has_below ss z y e)

-- a PATH that leads to no value names none
cons_none : {A : Type 0} (xs : List A) (x : A) (ys : List A) → xs ++ (x ∷ ys) ≡ [] → ⊥
cons_none [] x ys e = cc
cons_none (z ∷ xs) x ys e = cc

pub none_there : (p : Path) (x : Nodes) → all_at p x ≡ [] → at_path p x ≡ None
none_there p x e = go (node_at p.steps.items (said_nodes x)) refl
  where
    there_is : (y : NodeData) (v : Value) → Has (nodes_at p.steps.items (said_nodes x)) y → value_in p.target y ≡ Some v → ⊥
    there_is y v (ls, rs, h) g =
        cons_none (filter_map (value_in p.target) ls) v (filter_map (value_in p.target) rs)
        (sym (ap (filter_map (value_in p.target)) h ∙ filter_map-append (value_in p.target) ls (y ∷ rs) ∙ ap (λ o. filter_map (value_in p.target) ls ++ cons_option o (filter_map (value_in p.target) rs)) g) ∙ e)

    at_node : (y : NodeData) → node_at p.steps.items (said_nodes x) ≡ Some y → (o : Option Value) → value_in p.target y ≡ o → o ≡ None
    at_node y f None g = refl
    at_node y f (Some v) g = absurd (there_is y v (has_node p.steps.items (said_nodes x) y f) g)

    go : (o : Option NodeData) → node_at p.steps.items (said_nodes x) ≡ o → option_and_then (value_in p.target) o ≡ None
    go None f = refl
    go (Some y) f = at_node y f (value_in p.target y) refl
