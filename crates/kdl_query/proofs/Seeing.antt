-- What the parts of a query tell of the paths that it selects.
use Rattle.std.proofs.Common.{◌≡◌, ℕ, zero, suc, Bool, true, false, ◌&&◌, List, [], ◌∷◌, ◌++◌, Option, Some, None, ◌⊎◌, inl, inr, Decides, refl, ap, ◌∙◌, sym, subst, arith, ◌<◌, length, get_or, is_none, option_map}
use Rattle.std.proofs.Math.Path.{transport}
use Rattle.std.specs.List.{flat_map}
use Rattle.std.proofs.lemmas.Bool.Decides.{Decides-and, Decides-like, Decides-or}
use Rattle.kdl_grammar.specs.Data.{Node, Nodes}
use Rattle.kdl_query.specs.Data.{Query, Selector, any_node, start, then, top}
use Rattle.kdl_query.specs.Selects.{IsSelected, Path, Reaches, Selects, node_at}
use Rattle.kdl_query.specs.Internal.Parts.{PartSays, after, all_parts, ends, entered, entering, fresh, has_block, is_reached, marked, parts_to, query_parts, visited, with_marks}
use Rattle.kdl_query.specs.Internal.Visits.{next_parts}
use Rattle.kdl_query.specs.declared.part.Link.TheVariants.{After}
use Rattle.kdl_query.specs.declared.part.Marks.{Marks}
use Rattle.kdl_query.specs.declared.tree.Combinator.{Combinator}
use Rattle.kdl_query.specs.declared.tree.Combinator.TheVariants.{Child}
use Rattle.kdl_query.proofs.Holding.{any_node_met}
use Rattle.kdl_query.proofs.Marking.{IsPart, Knows, Origin, knows_after, knows_inside, knows_other, knows_top, origin, reached}

-- the parts are those of these selectors, and their marks tell where these lead
abbrev pub Tracks : Nodes → Path → ℕ → Origin → List PartSays → List Selector → Type 0
Tracks x q i b [] [] = Unit {0}
Tracks x q i b [] (s ∷ ss) = ⊥
Tracks x q i b (p ∷ ps) [] = ⊥
Tracks x q i b (p ∷ ps) (s ∷ ss) = IsPart b p s × Knows x q i (origin p s) p.marks.here × Tracks x q i (origin p s) ps ss

-- one of the selectors whose parts are last leads to the path
abbrev pub Picks : Nodes → List PartSays → List Selector → Path → Type 0
Picks x [] ss r = ⊥
Picks x (p ∷ ps) [] r = ⊥
Picks x (p ∷ ps) (s ∷ ss) r = (Reaches x s r × (is_none p.next ≡ true)) ⊎ Picks x ps ss r

same_part : (b : Origin) (p : PartSays) (s : Selector) (m : Marks) → IsPart b p s → IsPart b (with_marks p m) s
same_part b p top m h = h
same_part b p (start t) m h = h
same_part b p (then s c t) m h = h

-- after a node, the marks tell where the selectors lead, and whether one of them ends there
pub tracks_after : (x : Nodes) (q : Path) (i : ℕ) (n : Node) → node_at (q ++ i ∷ []) x ≡ Some n
    → (b : Origin) (m : Bool) → Knows x q i b m → (ps : List PartSays) (ss : List Selector) → Tracks x q i b ps ss → Tracks x q (suc i) b (visited n m ps) ss
tracks_after x q i n e b m k [] [] t = t
tracks_after x q i n e b m k [] (s ∷ ss) t = absurd t
tracks_after x q i n e b m k (p ∷ ps) [] t = absurd t
tracks_after x q i n e b m k (p ∷ ps) (s ∷ ss) t =
    (same_part b p s (after p m n) t.0, knows_after x q i s p.next p.marks (is_reached p m n) (has_block n) t.1 (reached x q i n e b m k p s t.0), tracks_after x q i n e (origin p s) p.marks.here t.1 ps ss t.2)

pub ends_decides : (x : Nodes) (q : Path) (i : ℕ) (n : Node) → node_at (q ++ i ∷ []) x ≡ Some n
    → (b : Origin) (m : Bool) → Knows x q i b m → (ps : List PartSays) (ss : List Selector) → Tracks x q i b ps ss → Decides (ends n m ps) (Picks x ps ss (q ++ i ∷ []))
ends_decides x q i n e b m k [] ss t = (λ h. absurd (cc), λ h. absurd h)
ends_decides x q i n e b m k (p ∷ ps) [] t = absurd t
ends_decides x q i n e b m k (p ∷ ps) (s ∷ ss) t =
    Decides-or (is_none p.next && is_reached p m n) (ends n p.marks.here ps)
    (Decides-like (is_none p.next && is_reached p m n) (λ w. (w.1, w.0)) (λ w. (w.1, w.0)) (Decides-and (is_none p.next) (is_reached p m n) (λ h. h, λ h. h) (reached x q i n e b m k p s t.0)))
    (ends_decides x q i n e (origin p s) p.marks.here t.1 ps ss t.2)

-- before the first node in the block of the node
pub tracks_inside : (x : Nodes) (q : Path) (i : ℕ) (n : Node) → node_at (q ++ i ∷ []) x ≡ Some n → has_block n ≡ true
    → (b : Origin) (m : Bool) → Knows x q i b m → (ps : List PartSays) (ss : List Selector) → Tracks x q i b ps ss → Tracks x (q ++ i ∷ []) 0 b (entered (visited n m ps)) ss
tracks_inside x q i n e f b m k [] [] t = t
tracks_inside x q i n e f b m k [] (s ∷ ss) t = absurd t
tracks_inside x q i n e f b m k (p ∷ ps) [] t = absurd t
tracks_inside x q i n e f b m k (p ∷ ps) (s ∷ ss) t =
    let K : Bool → Type 0 = λ h. Knows x (q ++ i ∷ []) 0 (origin p s) (marked p.next (is_reached p m n) h p.marks).inside in (
      same_part b p s (entering (after p m n)) t.0,
      subst K (sym f) (knows_inside x q i s p.next p.marks (is_reached p m n) t.1 (reached x q i n e b m k p s t.0)),
      tracks_inside x q i n e f (origin p s) p.marks.here t.1 ps ss t.2,
    )

-- neither changes which selectors are last
pub picks_after : (x : Nodes) (n : Node) (r : Path) (m : Bool) (ps : List PartSays) (ss : List Selector) → Picks x (visited n m ps) ss r ≡ Picks x ps ss r
picks_after x n r m [] ss = refl
picks_after x n r m (p ∷ ps) [] = refl
picks_after x n r m (p ∷ ps) (s ∷ ss) = ap (λ T. (Reaches x s r × (is_none p.next ≡ true)) ⊎ T) (picks_after x n r p.marks.here ps ss)

pub picks_inside : (x : Nodes) (r : Path) (ps : List PartSays) (ss : List Selector) → Picks x (entered ps) ss r ≡ Picks x ps ss r
picks_inside x r [] ss = refl
picks_inside x r (p ∷ ps) [] = refl
picks_inside x r (p ∷ ps) (s ∷ ss) = ap (λ T. (Reaches x s r × (is_none p.next ≡ true)) ⊎ T) (picks_inside x r ps ss)

-- the selectors of the parts of a selector: those that it begins with, and itself
abbrev prefixes : Selector → List Selector
prefixes top = top ∷ []
prefixes (start t) = start t ∷ []
prefixes (then s c t) = prefixes s ++ then s c t ∷ []

abbrev all_prefixes : Selector → List Selector
all_prefixes top = top ∷ then top Child any_node ∷ []
all_prefixes (start t) = start t ∷ []
all_prefixes (then s c t) = prefixes (then s c t)

abbrev query_prefixes : Query → List Selector
query_prefixes q = flat_map all_prefixes q

-- from where the part after these may be reached
abbrev last_origin : Origin → List PartSays → List Selector → Origin
last_origin b [] ss = b
last_origin b (p ∷ ps) [] = b
last_origin b (p ∷ ps) (s ∷ ss) = last_origin (origin p s) ps ss

-- before the first top-level node
tracks_append : (x : Nodes) (b c : Origin) (ps rs : List PartSays) (ss ts : List Selector)
    → Tracks x [] 0 b ps ss → last_origin b ps ss ≡ c → Tracks x [] 0 c rs ts → Tracks x [] 0 b (ps ++ rs) (ss ++ ts)
tracks_append x b c [] rs [] ts t e u = let P : Origin → Type 0 = λ o. Tracks x [] 0 o rs ts in subst P (sym e) u
tracks_append x b c [] rs (s ∷ ss) ts t e u = absurd t
tracks_append x b c (p ∷ ps) rs [] ts t e u = absurd t
tracks_append x b c (p ∷ ps) rs (s ∷ ss) ts t e u = (t.0, t.1, tracks_append x (origin p s) c ps rs ss ts t.2 e u)

last_pushed : (x : Nodes) (b d : Origin) (ps : List PartSays) (ss : List Selector) (p : PartSays) (s : Selector) → Tracks x [] 0 d ps ss → last_origin b (ps ++ p ∷ []) (ss ++ s ∷ []) ≡ origin p s
last_pushed x b d [] [] p s t = refl
last_pushed x b d [] (s' ∷ ss) p s t = absurd t
last_pushed x b d (p' ∷ ps) [] p s t = absurd t
last_pushed x b d (p' ∷ ps) (s' ∷ ss) p s t = last_pushed x (origin p' s') (origin p' s') ps ss p s t.2

tracks_parts : (x : Nodes) (b : Origin) (o : Option Combinator) (s : Selector) → Tracks x [] 0 b (parts_to o s) (prefixes s) × (last_origin b (parts_to o s) (prefixes s) ≡ option_map (λ c. (s, c)) o)
tracks_parts x b o top = ((refl, knows_top x o, tt), refl)
tracks_parts x b o (start t) = (((refl, λ n. refl), knows_other x (start t) o (λ w. w), tt), refl)
tracks_parts x b o (then s c t) =
    let w = tracks_parts x b (Some c) s in
    let p = fresh After (Some t) o in (
      tracks_append x b (Some (s, c)) (parts_to (Some c) s) (p ∷ []) (prefixes s) (then s c t ∷ []) w.0 w.1 ((refl, refl, λ n. refl), knows_other x (then s c t) o (λ w. w.0), tt),
      last_pushed x b b (parts_to (Some c) s) (prefixes s) p (then s c t) w.0,
    )

tracks_selector : (x : Nodes) (b : Origin) (s : Selector) → Tracks x [] 0 b (all_parts s) (all_prefixes s)
tracks_selector x b top = (refl, knows_top x (Some Child), ((refl, refl, λ n. sym (any_node_met n)), tt, tt))
tracks_selector x b (start t) = (tracks_parts x b None (start t)).0
tracks_selector x b (then s c t) = (tracks_parts x b None (then s c t)).0

tracks_query : (x : Nodes) (b : Origin) (q : Query) → Tracks x [] 0 b (query_parts q) (query_prefixes q)
tracks_query x b [] = tt
tracks_query x b (s ∷ q) =
    let c = last_origin b (all_parts s) (all_prefixes s) in
    tracks_append x b c (all_parts s) (query_parts q) (all_prefixes s) (query_prefixes q) (tracks_selector x b s) refl (tracks_query x c q)

-- what they pick
picks_append : (x : Nodes) (r : Path) (b : Origin) (ps rs : List PartSays) (ss ts : List Selector) → Tracks x [] 0 b ps ss
    → (Picks x (ps ++ rs) (ss ++ ts) r → Picks x ps ss r ⊎ Picks x rs ts r) × (Picks x ps ss r ⊎ Picks x rs ts r → Picks x (ps ++ rs) (ss ++ ts) r)
picks_append x r b [] rs [] ts t = (inr, λ w. elim w [ inl h ↦ absurd h | inr h ↦ h ])
picks_append x r b [] rs (s ∷ ss) ts t = absurd t
picks_append x r b (p ∷ ps) rs [] ts t = absurd t
picks_append x r b (p ∷ ps) rs (s ∷ ss) ts t =
    let w = picks_append x r (origin p s) ps rs ss ts t.2 in (
      λ h. elim h [ inl a ↦ inl (inl a) | inr a ↦ regroup (Reaches x s r × (is_none p.next ≡ true)) (Picks x ps ss r) (Picks x rs ts r) (w.0 a) ],
      λ h. elim h [ inl a ↦ elim a [ inl c ↦ inl c | inr c ↦ inr (w.1 (inl c)) ] | inr a ↦ inr (w.1 (inr a)) ],
    )
  where
    regroup : (A B C : Type 0) → B ⊎ C → (A ⊎ B) ⊎ C
    regroup A B C (inl b) = inl (inr b)
    regroup A B C (inr c) = inr c

picks_parts : (x : Nodes) (r : Path) (o : Option Combinator) (s : Selector) → (Picks x (parts_to o s) (prefixes s) r → Reaches x s r × (is_none o ≡ true)) × (Reaches x s r × (is_none o ≡ true) → Picks x (parts_to o s) (prefixes s) r)
picks_parts x r o top = (λ h. elim h [ inl a ↦ a | inr a ↦ absurd a ], inl)
picks_parts x r o (start t) = (λ h. elim h [ inl a ↦ a | inr a ↦ absurd a ], inl)
picks_parts x r o (then s c t) =
    let w = picks_append x r None (parts_to (Some c) s) (fresh After (Some t) o ∷ []) (prefixes s) (then s c t ∷ []) (tracks_parts x None (Some c) s).0 in (
      λ h. elim (w.0 h) [ inl a ↦ absurd (cc ((picks_parts x r (Some c) s).0 a).1) | inr a ↦ elim a [ inl c' ↦ c' | inr c' ↦ absurd c' ] ],
      λ h. w.1 (inr (inl h)),
    )

picks_selector : (x : Nodes) (r : Path) (s : Selector) → (Picks x (all_parts s) (all_prefixes s) r → Selects x s r) × (Selects x s r → Picks x (all_parts s) (all_prefixes s) r)
picks_selector x r top = (λ h. elim h [ inl a ↦ absurd (cc a.1) | inr a ↦ elim a [ inl c ↦ c.0 | inr c ↦ absurd c ] ], λ h. inr (inl (h, refl)))
picks_selector x r (start t) = let w = picks_parts x r None (start t) in (λ h. (w.0 h).0, λ h. w.1 (h, refl))
picks_selector x r (then s c t) = let w = picks_parts x r None (then s c t) in (λ h. (w.0 h).0, λ h. w.1 (h, refl))

-- one of the selectors of the query, by recursion
abbrev SelectsOne : Nodes → Path → Query → Type 0
SelectsOne x r [] = ⊥
SelectsOne x r (s ∷ q) = Selects x s r ⊎ SelectsOne x r q

picks_query : (x : Nodes) (r : Path) (q : Query) → (Picks x (query_parts q) (query_prefixes q) r → SelectsOne x r q) × (SelectsOne x r q → Picks x (query_parts q) (query_prefixes q) r)
picks_query x r [] = (λ h. h, λ h. h)
picks_query x r (s ∷ q) =
    let w = picks_append x r None (all_parts s) (query_parts q) (all_prefixes s) (query_prefixes q) (tracks_selector x None s) in (
      λ h. elim (w.0 h) [ inl a ↦ inl ((picks_selector x r s).0 a) | inr a ↦ inr ((picks_query x r q).0 a) ],
      λ h. elim h [ inl a ↦ w.1 (inl ((picks_selector x r s).1 a)) | inr a ↦ w.1 (inr ((picks_query x r q).1 a)) ],
    )

to_any : (x : Nodes) (r : Path) (q : Query) → SelectsOne x r q → IsSelected x q r
to_any x r [] h = absurd h
to_any x r (s ∷ q) (inl h) = (0, s, omega arith, refl, h)
to_any x r (s ∷ q) (inr h) = let w = to_any x r q h in let lt : w.0 < length q = w.2 in (suc w.0, w.1, omega (arith, lt), w.3, w.4)

any_at : (x : Nodes) (r : Path) (s : Selector) (q : Query) (k : ℕ) (u : Selector) → k < length (s ∷ q) → get_or (s ∷ q) k u ≡ u → Selects x u r → (IsSelected x q r → SelectsOne x r q) → SelectsOne x r (s ∷ q)
any_at x r s q zero u l e h f = let P : Selector → Type 0 = λ v. Selects x v r in inl (subst P (sym e) h)
any_at x r s q (suc k) u l e h f = inr (f (k, u, omega (arith, l), e, h))

from_any : (x : Nodes) (r : Path) (q : Query) → IsSelected x q r → SelectsOne x r q
from_any x r [] h = absurd (omega (arith, h.2))
from_any x r (s ∷ q) h = any_at x r s q h.0 h.1 h.2 h.3 h.4 (from_any x r q)

-- what the walk knows before place i in the block at q: S are the paths that the query selects
pub record Sees (x : Nodes) (S : Path → Type 0) (q : Path) (i : ℕ) (ps : List PartSays) : Type 0 where
  pub selectors : List Selector
  pub tracks : Tracks x q i None ps selectors
  pub picked : (r : Path) → Picks x ps selectors r → S r
  pub picks : (r : Path) → S r → Picks x ps selectors r

pub sees_ends : (x : Nodes) (S : Path → Type 0) (q : Path) (i : ℕ) (ps : List PartSays) (n : Node) → Sees x S q i ps → node_at (q ++ i ∷ []) x ≡ Some n → Decides (ends n false ps) (S (q ++ i ∷ []))
sees_ends x S q i ps n w e =
    Decides-like (ends n false ps) (w.picked (q ++ i ∷ [])) (w.picks (q ++ i ∷ [])) (ends_decides x q i n e None false tt ps w.selectors w.tracks)

pub sees_after : (x : Nodes) (S : Path → Type 0) (q : Path) (i : ℕ) (ps : List PartSays) (n : Node) → Sees x S q i ps → node_at (q ++ i ∷ []) x ≡ Some n → Sees x S q (suc i) (next_parts n ps)
sees_after x S q i ps n w e = record {
  selectors = w.selectors;
  tracks = tracks_after x q i n e None false tt ps w.selectors w.tracks;
  picked = λ r h. w.picked r (transport (picks_after x n r false ps w.selectors) h);
  picks = λ r h. transport (sym (picks_after x n r false ps w.selectors)) (w.picks r h);
}

pub sees_inside : (x : Nodes) (S : Path → Type 0) (q : Path) (i : ℕ) (ps : List PartSays) (n : Node) → Sees x S q i ps → node_at (q ++ i ∷ []) x ≡ Some n → has_block n ≡ true → Sees x S (q ++ i ∷ []) 0 (entered (next_parts n ps))
sees_inside x S q i ps n w e f =
    let same : (r : Path) → Picks x (entered (next_parts n ps)) w.selectors r ≡ Picks x ps w.selectors r = λ r. picks_inside x r (next_parts n ps) w.selectors ∙ picks_after x n r false ps w.selectors in
    record {
      selectors = w.selectors;
      tracks = tracks_inside x q i n e f None false tt ps w.selectors w.tracks;
      picked = λ r h. w.picked r (transport (same r) h);
      picks = λ r h. transport (sym (same r)) (w.picks r h);
    }

pub sees_all : (x : Nodes) (q : Query) → Sees x (IsSelected x q) [] 0 (query_parts q)
sees_all x q = record {
  selectors = query_prefixes q;
  tracks = tracks_query x None q;
  picked = λ r h. to_any x r q ((picks_query x r q).0 h);
  picks = λ r h. (picks_query x r q).1 (from_any x r q h);
}
