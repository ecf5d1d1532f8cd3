-- The levels of a walk have the nodes in memory at their paths.
use Rattle.std.proofs.Common.{◌≡◌, ℕ, List, [], ◌∷◌, ◌++◌, Option, Some, None, true, false, cond, map, refl, ap, ◌∙◌, sym, subst, slice_get, option_map, option_and_then}
use Rattle.std.proofs.lemmas.List.{append_assoc, append-nil, map-append}
use Rattle.kdl.specs.DocumentLookups.{nodes_of}
use Rattle.kdl.specs.Iterators.{child_nodes}
use Rattle.kdl.specs.Tree.{document_says, node_says}
use Rattle.kdl.specs.declared.document.KdlDocument.{KdlDocument}
use Rattle.kdl.specs.declared.node.KdlNode.{KdlNode}
use Rattle.kdl_query.specs.Data.{Query}
use Rattle.kdl_query.specs.Held.{AreHeld, held_at, held_below}
use Rattle.kdl_query.specs.Selects.{AreSelected, Path, node_at}
use Rattle.kdl_query.specs.Internal.Visits.{HeldLevels, Passes, Visited, all_visits, chosen, chosen_paths, level_says, path_of}
use Rattle.kdl_query.specs.declared.walk.Level.{Level}
use Rattle.kdl_query.proofs.Choosing.{are_selection}
use Rattle.kdl_query.proofs.Holds.{held_says}
use Rattle.kdl_query.proofs.Passing.{passed_chosen}

-- the node at a path of one index, and that of a child
alone : (o : Option KdlNode) → option_and_then (held_below []) o ≡ o
alone None = refl
alone (Some n) = refl

push_in : (p : Path) (j : ℕ) (o : Option KdlNode) → ((m : KdlNode) → held_below (p ++ j ∷ []) m ≡ option_and_then (λ n. slice_get (child_nodes n) j) (held_below p m))
    → option_and_then (held_below (p ++ j ∷ [])) o ≡ option_and_then (λ n. slice_get (child_nodes n) j) (option_and_then (held_below p) o)
push_in p j None f = refl
push_in p j (Some m) f = f m

below_push : (p : Path) (j : ℕ) (n : KdlNode) → held_below (p ++ j ∷ []) n ≡ option_and_then (λ m. slice_get (child_nodes m) j) (held_below p n)
below_push [] j n = alone (slice_get (child_nodes n) j)
below_push (i ∷ p) j n = push_in p j (slice_get (child_nodes n) i) (λ m. below_push p j m)

child_held : (p : Path) (j : ℕ) (d : KdlDocument) (n : KdlNode) → held_at p d ≡ Some n → held_at (p ++ j ∷ []) d ≡ slice_get (child_nodes n) j
child_held [] j d n e = absurd cc
child_held (k ∷ p) j d n e = push_in p j (slice_get (nodes_of d) k) (λ m. below_push p j m) ∙ ap (option_and_then (λ m. slice_get (child_nodes m) j)) e

-- the levels without the innermost one, and that one
held_front : (d : KdlDocument) (q : Path) (ls : List Level) (l : Level) → HeldLevels d q (ls ++ l ∷ []) → HeldLevels d q ls
held_front d q [] l h = tt
held_front d q (k ∷ ls) l h = (h.0, held_front d (q ++ k.current ∷ []) ls l h.1)

held_last : (d : KdlDocument) (q : Path) (ls : List Level) (l : Level) → HeldLevels d q (ls ++ l ∷ []) → (i : ℕ) → held_at ((q ++ path_of (map level_says ls)) ++ i ∷ []) d ≡ slice_get l.nodes.now i
held_last d q [] l h i = ap (λ p. held_at (p ++ i ∷ []) d) (append-nil q) ∙ h.0 i
held_last d q (k ∷ ls) l h i = ap (λ p. held_at (p ++ i ∷ []) d) (sym (append_assoc q (k.current ∷ []) (path_of (map level_says ls)))) ∙ held_last d (q ++ k.current ∷ []) ls l h.1 i

held_put : (d : KdlDocument) (q : Path) (ls : List Level) (l : Level) → HeldLevels d q ls → ((i : ℕ) → held_at ((q ++ path_of (map level_says ls)) ++ i ∷ []) d ≡ slice_get l.nodes.now i) → HeldLevels d q (ls ++ l ∷ [])
held_put d q [] l h f = (λ i. ap (λ p. held_at (p ++ i ∷ []) d) (sym (append-nil q)) ∙ f i, tt)
held_put d q (k ∷ ls) l h f = (h.0, held_put d (q ++ k.current ∷ []) ls l h.1 (λ i. ap (λ p. held_at (p ++ i ∷ []) d) (append_assoc q (k.current ∷ []) (path_of (map level_says ls))) ∙ f i))

-- at the first level
pub held_new : (d : KdlDocument) (l : Level) (ls : List Level) → ls ≡ l ∷ [] → l.nodes.now ≡ nodes_of d → HeldLevels d [] ls
held_new d l ls e f = subst (HeldLevels d []) (sym e) (λ i. alone (slice_get (nodes_of d) i) ∙ ap (λ ns. slice_get ns i) (sym f), tt)

-- after the innermost level went on
pub held_on : (d : KdlDocument) (front : List Level) (l k : Level) (ls : List Level) → k.nodes ≡ l.nodes → ls ≡ front ++ k ∷ [] → HeldLevels d [] (front ++ l ∷ []) → HeldLevels d [] ls
held_on d front l k ls e f h = subst (HeldLevels d []) (sym f) (held_put d [] front k (held_front d [] front l h) (λ i. held_last d [] front l h i ∙ ap (λ b. slice_get b.now i) (sym e)))

-- the node that it came to
pub held_came : (d : KdlDocument) (front : List Level) (k : Level) (ls : List Level) (n : KdlNode) → ls ≡ front ++ k ∷ [] → HeldLevels d [] ls → slice_get k.nodes.now k.current ≡ Some n → held_at (path_of (map level_says ls)) d ≡ Some n
held_came d front k ls n e h f =
    ap (λ ks. held_at (path_of (map level_says ks)) d) e ∙ ap (λ ks. held_at (path_of ks) d) (map-append level_says front (k ∷ []))
    ∙ ap (λ p. held_at p d) (map-append (λ l. l.current) (map level_says front) (level_says k ∷ [])) ∙ held_last d [] front k (subst (HeldLevels d []) e h) k.current ∙ f

-- after the innermost level was left
pub held_left : (d : KdlDocument) (front : List Level) (l : Level) (ls ks : List Level) → ls ≡ front ++ l ∷ [] → ks ≡ front → HeldLevels d [] ls → HeldLevels d [] ks
held_left d front l ls ks e f h = subst (HeldLevels d []) (sym f) (held_front d [] front l (subst (HeldLevels d []) e h))

-- after a block was entered
pub held_entered : (d : KdlDocument) (ls : List Level) (k : Level) (ks : List Level) (n : KdlNode) → ks ≡ ls ++ k ∷ [] → k.nodes.now ≡ child_nodes n → HeldLevels d [] ls → held_at (path_of (map level_says ls)) d ≡ Some n
    → HeldLevels d [] ks
held_entered d ls k ks n e f h at = subst (HeldLevels d []) (sym e) (held_put d [] ls k h (λ i. child_held (path_of (map level_says ls)) i d n at ∙ ap (λ ns. slice_get ns i) (sym f)))

-- what was found, with what is still to be found
abbrev pub Finds : KdlDocument → Query → List (Option KdlNode) → List Visited → Type 0
Finds d q found due = found ++ map (λ p. held_at p d) (chosen_paths due) ≡ map (λ p. held_at p d) (chosen_paths (all_visits q (document_says d)))

paths_passed : (v : Visited) (due rest : List Visited) → Passes due (v ∷ rest) → chosen_paths due ≡ chosen_paths (v ∷ rest)
paths_passed v due rest p = ap (map (λ w. w.path)) (passed_chosen due (v ∷ rest) p)

pub finds_one : (d : KdlDocument) (q : Query) (found : List (Option KdlNode)) (due rest now : List Visited) (v : Visited) (n : KdlNode) → Passes due (v ∷ rest) → v.is_selected ≡ true → held_at v.path d ≡ Some n → now ≡ rest
    → Finds d q found due → Finds d q (found ++ Some n ∷ []) now
finds_one d q found due rest now v n p s at e h =
    append_assoc found (Some n ∷ []) (map (λ r. held_at r d) (chosen_paths now))
    ∙ ap (λ vs. found ++ Some n ∷ map (λ r. held_at r d) (chosen_paths vs)) e
    ∙ ap (λ o. found ++ o ∷ map (λ r. held_at r d) (chosen_paths rest)) (sym at)
    ∙ ap (λ b. found ++ map (λ r. held_at r d) (map (λ (w : Visited). w.path) (cond b (v ∷ chosen rest) (chosen rest)))) (sym s)
    ∙ ap (λ ps. found ++ map (λ r. held_at r d) ps) (sym (paths_passed v due rest p)) ∙ h

pub finds_none : (d : KdlDocument) (q : Query) (found : List (Option KdlNode)) (due rest now : List Visited) (v : Visited) → Passes due (v ∷ rest) → v.is_selected ≡ false → now ≡ rest → Finds d q found due → Finds d q found now
finds_none d q found due rest now v p s e h =
    ap (λ vs. found ++ map (λ r. held_at r d) (chosen_paths vs)) e
    ∙ ap (λ b. found ++ map (λ r. held_at r d) (map (λ (w : Visited). w.path) (cond b (v ∷ chosen rest) (chosen rest)))) (sym s)
    ∙ ap (λ ps. found ++ map (λ r. held_at r d) ps) (sym (paths_passed v due rest p)) ∙ h

-- at the end of the walk, what was found is all
pub held_found : (d : KdlDocument) (q : Query) (ns : List KdlNode) (due : List Visited) → Passes due [] → Finds d q (map Some ns) due → AreHeld d q ns
held_found d q ns due p h = record {
  paths = chosen_paths (all_visits q (document_says d));
  selection = are_selection (document_says d) q;
  nodes = sym h ∙ ap (λ vs. map Some ns ++ map (λ r. held_at r d) (map (λ (w : Visited). w.path) vs)) (passed_chosen due [] p) ∙ append-nil (map Some ns);
}

-- the nodes in memory say what is selected
held_said : (d : KdlDocument) (ps : List Path) (ns : List KdlNode) → map (λ p. held_at p d) ps ≡ map Some ns → map (λ p. node_at p (document_says d)) ps ≡ map Some (map node_says ns)
held_said d [] [] e = refl
held_said d [] (n ∷ ns) e = absurd cc
held_said d (p ∷ ps) [] e = absurd cc
held_said d (p ∷ ps) (n ∷ ns) e =
    let here : held_at p d ≡ Some n = cc in
    let rest : map (λ r. held_at r d) ps ≡ map Some ns = cc in
    ap (λ o. o ∷ map (λ r. node_at r (document_says d)) ps) (sym (held_says p d) ∙ ap (option_map node_says) here) ∙ ap (λ l. Some (node_says n) ∷ l) (held_said d ps ns rest)

pub held_selected : (d : KdlDocument) (q : Query) (ns : List KdlNode) → AreHeld d q ns → AreSelected (document_says d) q (map node_says ns)
held_selected d q ns h = record { paths = h.paths; selection = h.selection; nodes = held_said d h.paths ns h.nodes }
