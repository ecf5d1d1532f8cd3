-- The nodes that a walk has still to visit.
use Rattle.std.proofs.Common.{◌≡◌, ℕ, zero, suc, Bool, false, List, [], ◌∷◌, ◌++◌, length, Option, Some, None, refl, ap, ◌∙◌, sym, slice_get, drop}
use Rattle.std.specs.List.{last_or}
use Rattle.std.specs.Option.{option_map_or}
use Rattle.std.proofs.lemmas.List.{append_assoc, append-nil, map-append}
use Rattle.kdl_grammar.specs.Data.{Node, node, no_children, children, Nodes, none, first}
use Rattle.kdl.specs.Said.{said_child_nodes, said_nodes}
use Rattle.kdl.specs.Tree.{node_says}
use Rattle.kdl_query.specs.Selects.{Path}
use Rattle.kdl_query.specs.Internal.Parts.{PartSays, ends, entered, has_block}
use Rattle.kdl_query.specs.Internal.Visits.{LevelSays, Visited, due, inside_last, last_parts, level_at, level_due, level_left, next_parts, path_of, steps_at, visit_of, visits, visits_inside, visits_of}
use Rattle.kdl_query.specs.declared.walk.Visit.{Visit}
use Rattle.kdl_query.proofs.Counting.{next_length}

-- those of nodes are those of the list of them
pub visits_listed : (q : Path) (i : ℕ) (ps : List PartSays) (y : Nodes) → visits q i ps y ≡ visits_of q i ps (said_nodes y)
visits_listed q i ps none = refl
visits_listed q i ps (first n y) = ap (λ l. visit_of (q ++ i ∷ []) ps n ∷ (visits_inside (q ++ i ∷ []) (entered (next_parts n ps)) n ++ l)) (visits_listed q (suc i) (next_parts n ps) y)

pub inside_listed : (q : Path) (ps : List PartSays) (n : Node) → visits_inside q ps n ≡ visits_of q 0 ps (said_child_nodes n)
inside_listed q ps (node t s es no_children) = refl
inside_listed q ps (node t s es (children y)) = visits_listed q 0 ps y

-- the innermost level is due first
pub due_last : (q : Path) (ls : List LevelSays) (l : LevelSays) → due q (ls ++ l ∷ []) ≡ level_due (q ++ path_of ls) l ++ due q ls
due_last q [] l = ap (λ p. level_due p l) (sym (append-nil q)) ∙ sym (append-nil (level_due (q ++ []) l))
due_last q (k ∷ ls) l =
    ap (λ d. d ++ level_due q k) (due_last (q ++ k.current ∷ []) ls l ∙ ap (λ p. level_due p l ++ due (q ++ k.current ∷ []) ls) (append_assoc q (k.current ∷ []) (path_of ls)))
    ∙ append_assoc (level_due (q ++ path_of (k ∷ ls)) l) (due (q ++ k.current ∷ []) ls) (level_due q k)

path_last : (ls : List LevelSays) (l : LevelSays) → path_of (ls ++ l ∷ []) ≡ path_of ls ++ l.current ∷ []
path_last ls l = map-append (λ k. k.current) ls (l ∷ [])

last_level : {A : Type 0} (o : Option A) (ls : List A) (l : A) → last_or o (ls ++ l ∷ []) ≡ Some l
last_level o [] l = refl
last_level o (k ∷ ls) l = last_level (Some k) ls l

-- inside the node that was visited last
abbrev inside_at : Option LevelSays → Path → Node → List Visited
inside_at o p n = option_map_or (λ k. visits_inside p (entered k.parts) n) o []

inside_visited : (ls : List LevelSays) (l : LevelSays) (n : Node) → inside_last (ls ++ l ∷ []) n ≡ visits_inside (path_of ls ++ l.current ∷ []) (entered l.parts) n
inside_visited ls l n = ap (λ o. inside_at o (path_of (ls ++ l ∷ [])) n) (last_level None ls l) ∙ ap (λ p. visits_inside p (entered l.parts) n) (path_last ls l)

-- at the first of the nodes
pub due_new : (l : LevelSays) (y : Nodes) (ps : List PartSays) → l.next ≡ 0 → l.parts ≡ ps → l.nodes ≡ said_nodes y → due [] (l ∷ []) ≡ visits [] 0 ps y
due_new l y ps e f g =
    ap (λ i. visits_of [] i l.parts (drop i l.nodes)) e ∙ ap (λ p. visits_of [] 0 p l.nodes) f ∙ ap (λ ns. visits_of [] 0 ps ns) g ∙ sym (visits_listed [] 0 ps y)

drop_all : {A : Type 0} (xs : List A) (i : ℕ) → slice_get xs i ≡ None → drop i xs ≡ []
drop_all [] zero e = refl
drop_all [] (suc i) e = refl
drop_all (x ∷ xs) zero e = absurd (cc)
drop_all (x ∷ xs) (suc i) e = drop_all xs i e

drop_one : {A : Type 0} (xs : List A) (i : ℕ) (x : A) → slice_get xs i ≡ Some x → drop i xs ≡ x ∷ drop (suc i) xs
drop_one [] i x e = absurd (cc)
drop_one (y ∷ xs) zero x e = let h : y ≡ x = cc in ap (λ z. z ∷ xs) h
drop_one (y ∷ xs) (suc i) x e = drop_one xs i x e

-- nothing is due in a level without a next node
pub level_none : (q : Path) (l : LevelSays) → slice_get l.nodes l.next ≡ None → level_due q l ≡ []
level_none q l e = ap (visits_of q l.next l.parts) (drop_all l.nodes l.next e)

-- the next node, those inside it, and those that are due after it
level_next : (q : Path) (l k : LevelSays) (n : Node) → slice_get l.nodes l.next ≡ Some n → k ≡ record { nodes = l.nodes; next = suc l.next; current = l.next; parts = next_parts n l.parts }
    → level_due q l ≡ visit_of (q ++ k.current ∷ []) l.parts n ∷ (visits_inside (q ++ k.current ∷ []) (entered k.parts) n ++ level_due q k)
level_next q l k n e f =
    ap (visits_of q l.next l.parts) (drop_one l.nodes l.next n e)
    ∙ ap (λ (m : LevelSays). visit_of (q ++ m.current ∷ []) l.parts n ∷ (visits_inside (q ++ m.current ∷ []) (entered m.parts) n ++ level_due q m)) (sym f)

-- a node without a block has no nodes inside it
pub none_inside : (q : Path) (ps : List PartSays) (n : Node) → has_block n ≡ false → visits_inside q ps n ≡ []
none_inside q ps (node t s es no_children) e = refl
none_inside q ps (node t s es (children y)) e = absurd (cc)

-- the node that a level came to
pub level_came : (q : Path) (l k : LevelSays) (v : Visit) → slice_get l.nodes l.next ≡ Some (node_says v.node.now)
    → k ≡ record { nodes = l.nodes; next = suc l.next; current = l.next; parts = next_parts (node_says v.node.now) l.parts } → v.is_selected ≡ ends (node_says v.node.now) false l.parts
    → level_due q l ≡ level_at q v k ∷ level_left q v k
level_came q l k v e f g =
    let n = node_says v.node.now in
    let at : Bool → ℕ → Visited = λ b i. record { path = q ++ k.current ∷ []; said = n; is_selected = b; steps = steps_at i n } in
    let looks : length k.parts ≡ length l.parts = ap (λ (m : LevelSays). length m.parts) f ∙ next_length n l.parts in
    level_next q l k n e f ∙ ap (λ b. at b (length l.parts) ∷ level_left q v k) (sym g) ∙ ap (λ i. at v.is_selected i ∷ level_left q v k) (sym looks)

-- and the walk with it
pub walk_left_is : (ls ks : List LevelSays) (k : LevelSays) (v : Visit) → ks ≡ ls ++ k ∷ []
    → inside_last ks (node_says v.node.now) ++ due [] ks ≡ level_left (path_of ls) v k ++ due [] ls
walk_left_is ls ks k v e =
    let n = node_says v.node.now in
    let inside = visits_inside (path_of ls ++ k.current ∷ []) (entered k.parts) n in
    ap (λ ms. inside_last ms n ++ due [] ms) e ∙ ap (λ vs. vs ++ due [] (ls ++ k ∷ [])) (inside_visited ls k n) ∙ ap (λ vs. inside ++ vs) (due_last [] ls k)
    ∙ sym (append_assoc inside (level_due (path_of ls) k) (due [] ls))

-- as many parts as the innermost level has
pub parts_last : (ls ks : List LevelSays) (k : LevelSays) → ks ≡ ls ++ k ∷ [] → length (last_parts ks) ≡ length k.parts
parts_last ls ks k e = ap (λ ms. length (last_parts ms)) e ∙ ap (λ o. length (option_map_or (λ (m : LevelSays). m.parts) o [])) (last_level None ls k)

pub walk_came : (ls ks : List LevelSays) (k : LevelSays) (v : Visit) → ks ≡ ls ++ k ∷ []
    → (level_at (path_of ls) v k ∷ level_left (path_of ls) v k) ++ due [] ls
    ≡ record { path = path_of ks; said = node_says v.node.now; is_selected = v.is_selected; steps = steps_at (length (last_parts ks)) (node_says v.node.now) } ∷ (inside_last ks (node_says v.node.now) ++ due [] ks)
walk_came ls ks k v e =
    let at : Path → ℕ → Visited = λ p i. record { path = p; said = node_says v.node.now; is_selected = v.is_selected; steps = steps_at i (node_says v.node.now) } in
    let left = inside_last ks (node_says v.node.now) ++ due [] ks in
    let path : path_of ks ≡ path_of ls ++ k.current ∷ [] = ap path_of e ∙ path_last ls k in
    let looks = parts_last ls ks k e in
    ap (λ vs. level_at (path_of ls) v k ∷ vs) (sym (walk_left_is ls ks k v e)) ∙ ap (λ p. at p (length k.parts) ∷ left) (sym path) ∙ ap (λ i. at (path_of ks) i ∷ left) (sym looks)

-- the block of the node that was visited last is due first, once it is entered
pub due_entered : (ls : List LevelSays) (l k : LevelSays) (n : Node) → last_or None ls ≡ Some l → k.next ≡ 0 → k.parts ≡ entered l.parts → k.nodes ≡ said_child_nodes n
    → due [] (ls ++ k ∷ []) ≡ inside_last ls n ++ due [] ls
due_entered ls l k n e f g h =
    let q = path_of ls in
    let level : level_due q k ≡ visits_of q 0 (entered l.parts) (said_child_nodes n) =
    ap (λ i. visits_of q i k.parts (drop i k.nodes)) f ∙ ap (λ ps. visits_of q 0 ps k.nodes) g ∙ ap (λ ns. visits_of q 0 (entered l.parts) ns) h in
    let inner : inside_last ls n ≡ visits_inside q (entered l.parts) n = ap (λ o. option_map_or (λ m. visits_inside q (entered m.parts) n) o []) e in
    due_last [] ls k ∙ ap (λ d. d ++ due [] ls) (level ∙ sym (inside_listed q (entered l.parts) n) ∙ sym inner)
