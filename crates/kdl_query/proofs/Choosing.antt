-- The nodes that are selected among those that are visited.
use Rattle.std.proofs.Common.{◌≡◌, ℕ, zero, suc, ◌<◌, Bool, true, false, cond, List, [], ◌∷◌, ◌++◌, map, length, get_or, Option, Some, None, IsSomeAnd, ◌⊎◌, inl, inr, refl, ap, ◌∙◌, sym, subst, arith}
use Rattle.std.proofs.lemmas.List.{append-nil}
use Rattle.std.specs.List.{AllByRecursion, AllPairs, Contains}
use Rattle.kdl_grammar.specs.Data.{Node, Nodes}
use Rattle.kdl_query.specs.Data.{Query, Selector, start, then, top}
use Rattle.kdl_query.specs.Selects.{IsBefore, IsFirstSelected, IsSelected, IsSelection, Path, Selects, node_at}
use Rattle.kdl_query.specs.Internal.Parts.{query_parts}
use Rattle.kdl_query.specs.Internal.Visits.{Passes, Visited, all_visits, chosen, chosen_nodes, chosen_paths}
use Rattle.kdl_query.proofs.Passing.{passed_chosen}
use Rattle.kdl_query.proofs.Seeing.{sees_all}
use Rattle.kdl_query.proofs.Visiting.{Ascends, In, Tells, all_ascend, all_tell, all_visited, paths}

-- from membership and order by recursion to those of std
to_contains : {A : Type 0} (xs : List A) (a : A) → In xs a → Contains xs a
to_contains [] a h = absurd h
to_contains (x ∷ xs) a (inl h) = (0, omega arith, h)
to_contains (x ∷ xs) a (inr h) = let w = to_contains xs a h in let lt : w.0 < length xs = w.1 in (suc w.0, omega (arith, lt), w.2)

in_at : {A : Type 0} (x : A) (xs : List A) (a : A) (k : ℕ) → k < length (x ∷ xs) → get_or (x ∷ xs) k a ≡ a → (Contains xs a → In xs a) → In (x ∷ xs) a
in_at x xs a zero l e f = inl e
in_at x xs a (suc k) l e f = inr (f (k, omega (arith, l), e))

from_contains : {A : Type 0} (xs : List A) (a : A) → Contains xs a → In xs a
from_contains [] a h = absurd (omega (arith, h.1))
from_contains (x ∷ xs) a h = in_at x xs a h.0 h.1 h.2 (from_contains xs a)

each_at : {A : Type 0} (P : A → Type 0) (xs : List A) (k : ℕ) (d : A) → AllByRecursion P xs → k < length xs → P (get_or xs k d)
each_at P [] k d h l = absurd (omega (arith, l))
each_at P (x ∷ xs) zero d h l = h.0
each_at P (x ∷ xs) (suc k) d h l = each_at P xs k d h.1 (omega (arith, l))

to_pairs : (ps : List Path) → Ascends ps → AllPairs IsBefore ps
to_pairs [] h i j d l m = absurd (omega (arith, m))
to_pairs (p ∷ ps) h zero zero d l m = absurd (omega (arith, l))
to_pairs (p ∷ ps) h zero (suc j) d l m = each_at (IsBefore p) ps j d h.0 (omega (arith, m))
to_pairs (p ∷ ps) h (suc i) zero d l m = absurd (omega (arith, l))
to_pairs (p ∷ ps) h (suc i) (suc j) d l m = to_pairs ps h.1 i j d (omega (arith, l)) (omega (arith, m))

-- what holds where a node is chosen, and where it is not
if_kept : (P : List Visited → Type 0) (b : Bool) (vs ws : List Visited) → (b ≡ true → P vs) → (b ≡ false → P ws) → P (cond b vs ws)
if_kept P true vs ws f g = f refl
if_kept P false vs ws f g = g refl

-- those that are chosen are in order
chosen_each : (P : Path → Type 0) (vs : List Visited) → AllByRecursion P (paths vs) → AllByRecursion P (chosen_paths vs)
chosen_each P [] h = tt
chosen_each P (v ∷ vs) h = if_kept (λ l. AllByRecursion P (paths l)) v.is_selected (v ∷ chosen vs) (chosen vs) (λ _. (h.0, chosen_each P vs h.1)) (λ _. chosen_each P vs h.1)

chosen_ascend : (vs : List Visited) → Ascends (paths vs) → Ascends (chosen_paths vs)
chosen_ascend [] h = tt
chosen_ascend (v ∷ vs) h =
    if_kept (λ l. Ascends (paths l)) v.is_selected (v ∷ chosen vs) (chosen vs) (λ _. (chosen_each (IsBefore v.path) vs h.0, chosen_ascend vs h.1)) (λ _. chosen_ascend vs h.1)

-- they are exactly those that are selected
chosen_selected : (x : Nodes) (S : Path → Type 0) (vs : List Visited) → AllByRecursion (Tells x S) vs → (p : Path) → In (chosen_paths vs) p → S p
chosen_selected x S [] t p h = absurd h
chosen_selected x S (v ∷ vs) t p h =
    if_kept (λ l. In (paths l) p → S p) v.is_selected (v ∷ chosen vs) (chosen vs)
    (λ e i. elim i [ inl f ↦ subst S f (t.0.selected.0 e) | inr j ↦ chosen_selected x S vs t.1 p j ]) (λ _ i. chosen_selected x S vs t.1 p i) h

selected_chosen : (x : Nodes) (S : Path → Type 0) (vs : List Visited) → AllByRecursion (Tells x S) vs → (p : Path) → In (paths vs) p → S p → In (chosen_paths vs) p
selected_chosen x S [] t p h s = absurd h
selected_chosen x S (v ∷ vs) t p (inl e) s =
    let here : v.is_selected ≡ true = t.0.selected.1 (subst S (sym e) s) in
    if_kept (λ l. In (paths l) p) v.is_selected (v ∷ chosen vs) (chosen vs) (λ _. inl e) (λ no. absurd (cc (here, no)))
selected_chosen x S (v ∷ vs) t p (inr h) s =
    if_kept (λ l. In (paths l) p) v.is_selected (v ∷ chosen vs) (chosen vs) (λ _. inr (selected_chosen x S vs t.1 p h s)) (λ _. selected_chosen x S vs t.1 p h s)

-- a path that is selected has a node
node_met : (o : Option Node) (P : Node → Type 0) → IsSomeAnd o P → (n : Node) × (o ≡ Some n)
node_met None P h = absurd h
node_met (Some n) P h = (n, refl)

selector_there : (x : Nodes) (s : Selector) (p : Path) → Selects x s p → (n : Node) × (node_at p x ≡ Some n)
selector_there x top p h = node_met (node_at p x) _ h.0
selector_there x (start t) p h = node_met (node_at p x) _ h
selector_there x (then s c t) p h = node_met (node_at p x) _ h.0

pub selected_there : (x : Nodes) (q : Query) (p : Path) → IsSelected x q p → (n : Node) × (node_at p x ≡ Some n)
selected_there x q p h = selector_there x h.1 p h.4

told : (x : Nodes) (q : Query) → AllByRecursion (Tells x (IsSelected x q)) (all_visits q x)
told x q = all_tell x (IsSelected x q) (query_parts q) (sees_all x q)

pub is_chosen : (x : Nodes) (q : Query) (p : Path) → IsSelected x q p → In (chosen_paths (all_visits q x)) p
is_chosen x q p h =
    let n = selected_there x q p h in
    selected_chosen x (IsSelected x q) (all_visits q x) (told x q) p (all_visited x (query_parts q) p n.0 n.1) h

pub are_selection : (x : Nodes) (q : Query) → IsSelection x q (chosen_paths (all_visits q x))
are_selection x q = record {
  each = λ p. (λ h. chosen_selected x (IsSelected x q) (all_visits q x) (told x q) p (from_contains (chosen_paths (all_visits q x)) p h), λ h. to_contains (chosen_paths (all_visits q x)) p (is_chosen x q p h));
  ordered = to_pairs (chosen_paths (all_visits q x)) (chosen_ascend (all_visits q x) (all_ascend x (query_parts q)));
}

-- the nodes at those paths
chosen_there : (x : Nodes) (S : Path → Type 0) (vs : List Visited) → AllByRecursion (Tells x S) vs → map (λ p. node_at p x) (chosen_paths vs) ≡ map Some (chosen_nodes vs)
chosen_there x S [] t = refl
chosen_there x S (v ∷ vs) t =
    if_kept (λ l. map (λ p. node_at p x) (paths l) ≡ map Some (map (λ (w : Visited). w.said) l)) v.is_selected (v ∷ chosen vs) (chosen vs)
    (λ _. ap (λ o. o ∷ map (λ p. node_at p x) (chosen_paths vs)) t.0.there ∙ ap (λ l. Some v.said ∷ l) (chosen_there x S vs t.1)) (λ _. chosen_there x S vs t.1)

-- the first of them, and none
pub none_selected : (x : Nodes) (q : Query) → chosen_paths (all_visits q x) ≡ [] → (p : Path) → IsSelected x q p → ⊥
none_selected x q e p h = let P : List Path → Type 0 = λ l. In l p in subst P e (is_chosen x q p h)

first_chosen : (x : Nodes) (q : Query) (p : Path) (ps : List Path) → chosen_paths (all_visits q x) ≡ p ∷ ps → (r : Path) → IsSelected x q r → (r ≡ p) ⊎ IsBefore p r
first_chosen x q p ps e r h =
    let P : List Path → Type 0 = λ l. In l r in
    let A : List Path → Type 0 = λ l. Ascends l in
    go p ps r (subst P e (is_chosen x q r h)) (subst A e (chosen_ascend (all_visits q x) (all_ascend x (query_parts q))))
  where
    among : (p : Path) (ps : List Path) (r : Path) → In ps r → AllByRecursion (IsBefore p) ps → IsBefore p r
    among p [] r i a = absurd i
    among p (s ∷ ps) r (inl e) a = let P : Path → Type 0 = λ t. IsBefore p t in subst P e a.0
    among p (s ∷ ps) r (inr i) a = among p ps r i a.1

    go : (p : Path) (ps : List Path) (r : Path) → In (p ∷ ps) r → Ascends (p ∷ ps) → (r ≡ p) ⊎ IsBefore p r
    go p ps r (inl e) a = inl (sym e)
    go p ps r (inr i) a = inr (among p ps r i a.0)

pub is_first_selected : (x : Nodes) (q : Query) (p : Path) (ps : List Path) (n : Node) (ns : List Node) → chosen_paths (all_visits q x) ≡ p ∷ ps → chosen_nodes (all_visits q x) ≡ n ∷ ns → IsFirstSelected x q n
is_first_selected x q p ps n ns e f =
    let t = chosen_there x (IsSelected x q) (all_visits q x) (told x q) in
    let P : List Path → Type 0 = λ l. In l p in
    record {
      path = p;
      selected = chosen_selected x (IsSelected x q) (all_visits q x) (told x q) p (subst P (sym e) (inl refl));
      first = first_chosen x q p ps e;
      node = cc (ap (map (λ r. node_at r x)) e, ap (map Some) f, t);
    }

-- at the end of the walk, what was found is all
pub paths_found : (x : Nodes) (q : Query) (found : List Path) (due : List Visited) → Passes due [] → found ++ chosen_paths due ≡ chosen_paths (all_visits q x) → IsSelection x q found
paths_found x q found due e f =
    let P : List Path → Type 0 = λ ps. IsSelection x q ps in
    subst P (sym f ∙ ap (λ vs. found ++ paths vs) (passed_chosen due [] e) ∙ append-nil found) (are_selection x q)

pub none_found : (x : Nodes) (q : Query) (due : List Visited) → Passes due [] → chosen due ≡ chosen (all_visits q x) → (p : Path) → IsSelected x q p → ⊥
none_found x q due e f = none_selected x q (ap paths (sym f ∙ passed_chosen due [] e))

pub first_found : (x : Nodes) (q : Query) (due rest : List Visited) (v : Visited) → Passes due (v ∷ rest) → v.is_selected ≡ true → chosen due ≡ chosen (all_visits q x) → IsFirstSelected x q v.said
first_found x q due rest v e t f =
    let all : chosen (all_visits q x) ≡ v ∷ chosen rest = sym f ∙ passed_chosen due (v ∷ rest) e ∙ ap (λ b. cond b (v ∷ chosen rest) (chosen rest)) t in
    is_first_selected x q v.path (chosen_paths rest) v.said (chosen_nodes rest) (ap paths all) (ap (map (λ (w : Visited). w.said)) all)
