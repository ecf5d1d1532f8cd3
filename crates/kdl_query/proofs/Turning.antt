-- The turns of a walk.
use Rattle.std.proofs.Common.{◌≡◌, ℕ, suc, ◌+◌, ◌≤◌, true, false, cond, List, [], ◌∷◌, ◌++◌, length, map, take, drop, refl, ap, ◌∙◌, sym, arith}
use Rattle.std.proofs.lemmas.List.{append_assoc, drop-map, length-append, length-map, map-append, take-append-drop, take-append-le, take-take}
use Rattle.std.proofs.lemmas.List.Sums.{sum_by-append, sum_by-cons}
use Rattle.std.specs.List.{fold, sum_by}
use Rattle.kdl.specs.Tree.{node_says}
use Rattle.kdl_grammar.specs.Data.{Nodes}
use Rattle.kdl_query.specs.Data.{Query}
use Rattle.kdl_query.specs.Selects.{Path}
use Rattle.kdl_query.specs.Turns.{paths_from, turned}
use Rattle.kdl_query.specs.Internal.Turns.{Keeps}
use Rattle.kdl_query.specs.Internal.Visits.{Passes, Visited, all_visits, chosen, chosen_paths, due, inside_last, level_says, levels_of, path_of, walk_left}
use Rattle.kdl_query.specs.declared.find.Turn.{Turn}
use Rattle.kdl_query.specs.declared.walk.Level.{Level}
use Rattle.kdl_query.specs.declared.walk.Visit.{Visit}
use Rattle.kdl_query.specs.declared.walk.Walk.{Walk}
use Rattle.kdl_query.proofs.Levels.{path_mapped}
use Rattle.kdl_query.proofs.Passing.{passed_chosen}

-- lists that begin alike begin alike in fewer items, whatever follows these
alike : {A : Type 0} (c d : ℕ) (p r s t : List A) → d ≤ c → d ≤ length r → take c p ≡ take c (r ++ s) → take d p ≡ take d (r ++ t)
alike c d p r s t h k e = sym (take-take d c p h) ∙ ap (take d) e ∙ take-take d c (r ++ s) h ∙ take-append-le d r s k ∙ sym (take-append-le d r t k)

abbrev indices : List Level → Path
indices ls = map (λ l. l.current) ls

split : (front s ls : List Level) → ls ≡ front ++ s → path_of (map level_says ls) ≡ indices front ++ indices s
split front s ls e = sym (path_mapped ls) ∙ ap indices e ∙ map-append (λ (l : Level). l.current) front s

-- another walk with the same outermost levels keeps no more of them
pub keeps_on : (p : Path) (v w : Walk) (front s t : List Level) → v.levels.items ≡ front ++ s → w.levels.items ≡ front ++ t → w.kept ≤ v.kept → w.kept ≤ length front → Keeps p v → Keeps p w
keeps_on p v w front s t e f h k g =
    let long = ap length f ∙ length-append front t in
    let as_long = length-map front (λ (l : Level). l.current) in
    let within : w.kept ≤ length (indices front) = omega (arith, k, as_long) in
    record {
      within = omega (arith, long, k);
      same = alike v.kept w.kept p (indices front) (indices s) (indices t) h within (g.same ∙ ap (take v.kept) (split front s v.levels.items e)) ∙ ap (take w.kept) (sym (split front t w.levels.items f));
    }

-- the path of the node that was visited last
pub turned_to : (p : Path) (w : Walk) (t : Turn) → t.kept ≡ w.kept → t.rest.items ≡ map (λ l. l.current) (drop w.kept w.levels.items) → Keeps p w → turned p t ≡ path_of (levels_of w)
turned_to p w t e f h =
    let q = path_of (levels_of w) in
    ap (λ n. take n p ++ t.rest.items) e ∙ ap (λ r. take w.kept p ++ r) (f ∙ sym (drop-map (λ (l : Level). l.current) w.kept w.levels.items) ∙ ap (drop w.kept) (path_mapped w.levels.items))
    ∙ ap (λ r. r ++ drop w.kept q) h.same ∙ take-append-drop w.kept q

pub paths_push : (p : Path) (ts : List Turn) (t : Turn) → paths_from p (ts ++ t ∷ []) ≡ paths_from p ts ++ turned (fold turned p ts) t ∷ []
paths_push p [] t = refl
paths_push p (u ∷ ts) t = ap (λ ps. turned p u ∷ ps) (paths_push (turned p u) ts t)

pub last_push : (p : Path) (ts : List Turn) (t : Turn) → fold turned p (ts ++ t ∷ []) ≡ turned (fold turned p ts) t
last_push p [] t = refl
last_push p (u ∷ ts) t = last_push (turned p u) ts t

-- what was found, with what is still to be found
abbrev pub Finds : Nodes → Query → List Path → List Visited → Type 0
Finds x q found due = found ++ chosen_paths due ≡ chosen_paths (all_visits q x)

pub finds_one : (x : Nodes) (q : Query) (found : List Path) (due rest now : List Visited) (v : Visited) → Passes due (v ∷ rest) → v.is_selected ≡ true → now ≡ rest → Finds x q found due → Finds x q (found ++ v.path ∷ []) now
finds_one x q found due rest now v p s e h =
    append_assoc found (v.path ∷ []) (chosen_paths now) ∙ ap (λ vs. found ++ v.path ∷ chosen_paths vs) e
    ∙ ap (λ b. found ++ map (λ (w : Visited). w.path) (cond b (v ∷ chosen rest) (chosen rest))) (sym s)
    ∙ ap (λ vs. found ++ map (λ (w : Visited). w.path) vs) (sym (passed_chosen due (v ∷ rest) p)) ∙ h

pub finds_none : (x : Nodes) (q : Query) (found : List Path) (due rest now : List Visited) (v : Visited) → Passes due (v ∷ rest) → v.is_selected ≡ false → now ≡ rest → Finds x q found due → Finds x q found now
finds_none x q found due rest now v p s e h =
    ap (λ vs. found ++ chosen_paths vs) e
    ∙ ap (λ b. found ++ map (λ (w : Visited). w.path) (cond b (v ∷ chosen rest) (chosen rest))) (sym s)
    ∙ ap (λ vs. found ++ map (λ (w : Visited). w.path) vs) (sym (passed_chosen due (v ∷ rest) p)) ∙ h

-- one node fewer is due
pub passes_shorter : (due rest : List Visited) (v : Visited) → Passes due (v ∷ rest) → suc (length rest) ≤ length due
passes_shorter due rest v p = let e = ap length p.rest ∙ length-append p.passed (v ∷ rest) in omega (arith, e)

pub left_same : (v : Visit) (a b : Walk) → a.levels ≡ b.levels → walk_left v a ≡ walk_left v b
left_same v a b e = ap (λ ls. inside_last (map level_says ls.items) (node_says v.node.now) ++ due [] (map level_says ls.items)) e

-- all levels are kept after a turn
pub keeps_all : (a b : Walk) → b.levels ≡ a.levels → b.kept ≡ length a.levels.items → Keeps (path_of (levels_of a)) b
keeps_all a b e f = record {
  within = let long = ap (λ ls. length ls.items) e in omega (arith, long, f);
  same = ap (λ ls. take b.kept (path_of (map level_says ls.items))) (sym e);
}

-- the indices of turns
abbrev pub index_count : List Turn → ℕ
index_count ts = sum_by (λ t. length t.rest.items) ts

pub count_push : (ts us : List Turn) (t : Turn) → us ≡ ts ++ t ∷ [] → index_count us ≡ index_count ts + length t.rest.items
count_push ts us t e =
    let none : index_count [] ≡ 0 = refl in
    let a = sum_by-append (λ (u : Turn). length u.rest.items) ts (t ∷ []) in
    let b = sum_by-cons (λ (u : Turn). length u.rest.items) t [] in
    let c = ap index_count e in
    omega (arith, a, b, c, none)
