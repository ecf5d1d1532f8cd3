-- What the marks of a part tell of its selector, and how a node changes them.
use Rattle.std.proofs.Common.{◌≡◌, ℕ, zero, suc, ◌<◌, Bool, true, false, ◌&&◌, ◌||◌, [], ◌∷◌, ◌++◌, Option, Some, None, option_map, ◌⊎◌, inl, inr, Decides, IsSomeAnd, refl, ap, ◌∙◌, sym, subst, arith}
use Rattle.std.proofs.lemmas.Bool.Decides.{Decides-and, Decides-like, Decides-or}
use Rattle.std.proofs.lemmas.List.{append_assoc, append-nil, same_from_push}
use Rattle.kdl_grammar.specs.Data.{Node, Nodes}
use Rattle.kdl_query.specs.Data.{NodeTest, Selector, start, then, top}
use Rattle.kdl_query.specs.Tests.{Meets}
use Rattle.kdl_query.specs.Selects.{MeetsAt, Path, Reaches, Relates, node_at}
use Rattle.kdl_query.specs.Internal.Holds.{meets}
use Rattle.kdl_query.specs.Internal.Parts.{PartSays, begins, is_reached, leads_on, marked, passes}
use Rattle.kdl_query.specs.declared.part.Link.{Link}
use Rattle.kdl_query.specs.declared.part.Link.TheVariants.{Document, Start, After}
use Rattle.kdl_query.specs.declared.part.Marks.{Marks}
use Rattle.kdl_query.specs.declared.tree.Combinator.{Combinator}
use Rattle.kdl_query.specs.declared.tree.Combinator.TheVariants.{Child, Descendant, NextSibling, LaterSibling}
use Rattle.kdl_query.proofs.Holding.{meets_decides, never}

-- the selector leads to the path or to one around it, to the place directly before i in the block at q, to one before i
abbrev pub Around : Nodes → Selector → Path → Type 0
Around x s q = (a : Path) × (b : Path) × (q ≡ a ++ b) × Reaches x s a

abbrev pub JustBefore : Nodes → Selector → Path → ℕ → Type 0
JustBefore x s q i = (j : ℕ) × (i ≡ suc j) × Reaches x s (q ++ j ∷ [])

abbrev pub Before : Nodes → Selector → Path → ℕ → Type 0
Before x s q i = (j : ℕ) × (j < i) × Reaches x s (q ++ j ∷ [])

-- the combinator leads from the selector to place i in the block at q, as marks tell it
abbrev pub Leads : Nodes → Path → ℕ → Selector → Combinator → Type 0
Leads x q i s Child = Reaches x s q
Leads x q i s Descendant = Around x s q
Leads x q i s NextSibling = JustBefore x s q i
Leads x q i s LaterSibling = Before x s q i

-- the selector of a part, and what leads on from it
abbrev pub Origin : Type 0
Origin = Option (Selector × Combinator)

abbrev pub origin : PartSays → Selector → Origin
origin p s = option_map (λ c. (s, c)) p.next

-- the mark tells whether place i in the block at q may be reached from there
abbrev pub Knows : Nodes → Path → ℕ → Origin → Bool → Type 0
Knows x q i None m = Unit {0}
Knows x q i (Some o) m = Decides m (Leads x q i o.0 o.1)

-- a combinator leads from the selector to a path
abbrev pub Led : Nodes → Combinator → Selector → Path → Type 0
Led x c s p = (r : Path) × Reaches x s r × Relates c r p

-- a list with one more has a first element; a list with a first element has a last one
first_of : (b : Path) (i : ℕ) → (j : ℕ) × (r : Path) × (b ++ i ∷ [] ≡ j ∷ r)
first_of [] i = (i, [], refl)
first_of (j ∷ b) i = (j, b ++ i ∷ [], refl)

last_of : (j : ℕ) (t : Path) → (b : Path) × (k : ℕ) × (j ∷ t ≡ b ++ k ∷ [])
last_of j [] = ([], j, refl)
last_of j (u ∷ t) = let w = last_of u t in (j ∷ w.0, w.1, ap (λ l. j ∷ l) w.2)

from_around : (x : Nodes) (s : Selector) (q : Path) (i : ℕ) → Around x s q → Led x Descendant s (q ++ i ∷ [])
from_around x s q i w =
    let f = first_of w.1 i in
    (w.0, w.3, (f.0, f.1, ap (λ l. l ++ i ∷ []) w.2 ∙ append_assoc w.0 w.1 (i ∷ []) ∙ ap (λ l. w.0 ++ l) f.2))

to_around : (x : Nodes) (s : Selector) (q : Path) (i : ℕ) → Led x Descendant s (q ++ i ∷ []) → Around x s q
to_around x s q i w =
    let l = last_of w.2.0 w.2.1 in
    let e : q ++ i ∷ [] ≡ (w.0 ++ l.0) ++ l.1 ∷ [] = w.2.2 ∙ ap (λ t. w.0 ++ t) l.2 ∙ sym (append_assoc w.0 l.0 (l.1 ∷ [])) in
    (w.0, l.0, (same_from_push q (w.0 ++ l.0) i l.1 e).0, w.1)

to_parent : (x : Nodes) (s : Selector) (q : Path) (i : ℕ) → Led x Child s (q ++ i ∷ []) → Reaches x s q
to_parent x s q i w = let P : Path → Type 0 = λ t. Reaches x s t in subst P (sym (same_from_push q w.0 i w.2.0 w.2.1).0) w.1

sibling : (x : Nodes) (s : Selector) (q r t : Path) (j : ℕ) → q ≡ t → r ≡ t ++ j ∷ [] → Reaches x s r → Reaches x s (q ++ j ∷ [])
sibling x s q r t j e h w = let P : Path → Type 0 = λ u. Reaches x s u in subst P (h ∙ ap (λ u. u ++ j ∷ []) (sym e)) w

to_previous : (x : Nodes) (s : Selector) (q : Path) (i : ℕ) → Led x NextSibling s (q ++ i ∷ []) → JustBefore x s q i
to_previous x s q i w =
    let e = same_from_push q w.2.0 i (suc w.2.1) w.2.3 in
    (w.2.1, e.1, sibling x s q w.0 w.2.0 w.2.1 e.0 w.2.2 w.1)

to_earlier : (x : Nodes) (s : Selector) (q : Path) (i : ℕ) → Led x LaterSibling s (q ++ i ∷ []) → Before x s q i
to_earlier x s q i w =
    let e = same_from_push q w.2.0 i w.2.2 w.2.5 in
    let lt : w.2.1 < w.2.2 = w.2.3 in
    (w.2.1, omega (arith, lt, e.1), sibling x s q w.0 w.2.0 w.2.1 e.0 w.2.4 w.1)

-- a mark tells whether the combinator leads to place i
led : (x : Nodes) (q : Path) (i : ℕ) (s : Selector) (c : Combinator) (m : Bool) → Decides m (Leads x q i s c) → Decides m (Led x c s (q ++ i ∷ []))
led x q i s Child m k = Decides-like m (λ h. (q, h, (i, refl))) (to_parent x s q i) k
led x q i s Descendant m k = Decides-like m (from_around x s q i) (to_around x s q i) k
led x q i s NextSibling m k = Decides-like m (λ w. (q ++ w.0 ∷ [], w.2, (q, w.0, refl, ap (λ n. q ++ n ∷ []) w.1))) (to_previous x s q i) k
led x q i s LaterSibling m k = Decides-like m (λ w. (q ++ w.0 ∷ [], w.2, (q, w.0, i, w.1, refl, refl))) (to_earlier x s q i) k

-- the part is that of the selector, after the part of the one before
abbrev pub IsPart : Origin → PartSays → Selector → Type 0
IsPart b p top = p.link ≡ Document
IsPart b p (start t) = (p.link ≡ Start) × ((n : Node) → passes p.test n ≡ meets t n)
IsPart b p (then s c t) = (p.link ≡ After) × (b ≡ Some (s, c)) × ((n : Node) → passes p.test n ≡ meets t n)

at_node : (x : Nodes) (t : NodeTest) (p : Path) (n : Node) → node_at p x ≡ Some n → (b : Bool) → Decides b (Meets t n) → Decides b (MeetsAt x t p)
at_node x t p n e b d = let P : Option Node → Type 0 = λ o. Decides b (IsSomeAnd o (Meets t)) in subst P (sym e) d

passes_at : (x : Nodes) (p : PartSays) (t : NodeTest) (q : Path) (n : Node) → node_at q x ≡ Some n → passes p.test n ≡ meets t n → Decides (passes p.test n) (MeetsAt x t q)
passes_at x p t q n e h = let P : Bool → Type 0 = λ b. Decides b (MeetsAt x t q) in subst P (sym h) (at_node x t q n e (meets t n) (meets_decides t n))

nonempty : (q : Path) (i : ℕ) → q ++ i ∷ [] ≡ [] → ⊥
nonempty [] i e = cc
nonempty (j ∷ q) i e = cc

-- a node reaches a part exactly if the selector leads to its path
pub reached : (x : Nodes) (q : Path) (i : ℕ) (n : Node) → node_at (q ++ i ∷ []) x ≡ Some n
    → (b : Origin) (m : Bool) → Knows x q i b m → (p : PartSays) (s : Selector) → IsPart b p s → Decides (is_reached p m n) (Reaches x s (q ++ i ∷ []))
reached x q i n e b m k p top h =
    let P : Link → Type 0 = λ l. Decides (leads_on l m && passes p.test n) (q ++ i ∷ [] ≡ []) in
    subst P (sym h) (λ w. absurd (cc), λ w. absurd (nonempty q i w))
reached x q i n e b m k p (start t) h =
    let P : Link → Type 0 = λ l. Decides (leads_on l m && passes p.test n) (MeetsAt x t (q ++ i ∷ [])) in
    subst P (sym h.0) (passes_at x p t (q ++ i ∷ []) n e (h.1 n))
reached x q i n e b m k p (then s c t) h =
    let K : Origin → Type 0 = λ o. Knows x q i o m in
    let d = Decides-and m (passes p.test n) (led x q i s c m (subst K h.1 k)) (passes_at x p t (q ++ i ∷ []) n e (h.2 n)) in
    let P : Link → Type 0 = λ l. Decides (leads_on l m && passes p.test n) (Reaches x (then s c t) (q ++ i ∷ [])) in
    subst P (sym h.0) (Decides-like (m && passes p.test n) (λ w. (w.1, w.0)) (λ w. (w.1, w.0)) d)

below_or_at : (j i : ℕ) → j < suc i → (j < i) ⊎ (j ≡ i)
below_or_at zero zero h = inr refl
below_or_at zero (suc i) h = inl (omega arith)
below_or_at (suc j) zero h = absurd (omega (arith, h))
below_or_at (suc j) (suc i) h = elim (below_or_at j i (omega (arith, h))) [ inl l ↦ inl (omega (arith, l)) | inr e ↦ inr (ap suc e) ]

-- what the marks after the node tell
pub knows_after : (x : Nodes) (q : Path) (i : ℕ) (s : Selector) (o : Option Combinator) (m : Marks) (b k : Bool) → Knows x q i (option_map (λ c. (s, c)) o) m.here → Decides b (Reaches x s (q ++ i ∷ []))
    → Knows x q (suc i) (option_map (λ c. (s, c)) o) (marked o b k m).here
knows_after x q i s None m b k h d = tt
knows_after x q i s (Some Child) m b k h d = h
knows_after x q i s (Some Descendant) m b k h d = h
knows_after x q i s (Some NextSibling) m b k h d =
    Decides-like b (λ r. (i, refl, r)) (λ w. let e : i ≡ w.0 = omega (arith, w.1) in let P : ℕ → Type 0 = λ j. Reaches x s (q ++ j ∷ []) in subst P (sym e) w.2) d
knows_after x q i s (Some LaterSibling) m b k h d = Decides-like (m.here || b) (from_either x s q i) (to_either x s q i) (Decides-or m.here b h d)
  where
    from_either : (x : Nodes) (s : Selector) (q : Path) (i : ℕ) → Before x s q i ⊎ Reaches x s (q ++ i ∷ []) → Before x s q (suc i)
    from_either x s q i (inl w) = let lt : w.0 < i = w.1 in (w.0, omega (arith, lt), w.2)
    from_either x s q i (inr h) = (i, omega arith, h)

    last_or_before : (x : Nodes) (s : Selector) (q : Path) (i j : ℕ) → (j < i) ⊎ (j ≡ i) → Reaches x s (q ++ j ∷ []) → Before x s q i ⊎ Reaches x s (q ++ i ∷ [])
    last_or_before x s q i j (inl h) w = inl (j, h, w)
    last_or_before x s q i j (inr h) w = let P : ℕ → Type 0 = λ n. Reaches x s (q ++ n ∷ []) in inr (subst P h w)

    to_either : (x : Nodes) (s : Selector) (q : Path) (i : ℕ) → Before x s q (suc i) → Before x s q i ⊎ Reaches x s (q ++ i ∷ [])
    to_either x s q i w = last_or_before x s q i w.0 (below_or_at w.0 i w.1) w.2

-- no sibling is before the first node of a block
none_before : (x : Nodes) (s : Selector) (q : Path) → Before x s q 0 → ⊥
none_before x s q w = let lt : w.0 < 0 = w.1 in absurd (omega (arith, lt))

none_just_before : (x : Nodes) (s : Selector) (q : Path) → JustBefore x s q 0 → ⊥
none_just_before x s q w = absurd (omega (arith, w.1))

-- what the marks tell in the block of the node
pub knows_inside : (x : Nodes) (q : Path) (i : ℕ) (s : Selector) (o : Option Combinator) (m : Marks) (b : Bool) → Knows x q i (option_map (λ c. (s, c)) o) m.here → Decides b (Reaches x s (q ++ i ∷ []))
    → Knows x (q ++ i ∷ []) 0 (option_map (λ c. (s, c)) o) (marked o b true m).inside
knows_inside x q i s None m b h d = tt
knows_inside x q i s (Some Child) m b h d = d
knows_inside x q i s (Some NextSibling) m b h d = never (JustBefore x s (q ++ i ∷ []) 0) (none_just_before x s (q ++ i ∷ []))
knows_inside x q i s (Some LaterSibling) m b h d = never (Before x s (q ++ i ∷ []) 0) (none_before x s (q ++ i ∷ []))
knows_inside x q i s (Some Descendant) m b h d = Decides-like (m.here || b) (from_either x s q i) (to_either x s q i) (Decides-or m.here b h d)
  where
    from_either : (x : Nodes) (s : Selector) (q : Path) (i : ℕ) → Around x s q ⊎ Reaches x s (q ++ i ∷ []) → Around x s (q ++ i ∷ [])
    from_either x s q i (inl w) = (w.0, w.1 ++ i ∷ [], ap (λ l. l ++ i ∷ []) w.2 ∙ append_assoc w.0 w.1 (i ∷ []), w.3)
    from_either x s q i (inr h) = (q ++ i ∷ [], [], sym (append-nil (q ++ i ∷ [])), h)

    either : (x : Nodes) (s : Selector) (q a b : Path) (i : ℕ) → q ++ i ∷ [] ≡ a ++ b → Reaches x s a → Around x s q ⊎ Reaches x s (q ++ i ∷ [])
    either x s q a [] i e h = let P : Path → Type 0 = λ t. Reaches x s t in inr (subst P (sym (e ∙ append-nil a)) h)
    either x s q a (j ∷ b) i e h = inl (to_around x s q i (a, h, (j, b, e)))

    to_either : (x : Nodes) (s : Selector) (q : Path) (i : ℕ) → Around x s (q ++ i ∷ []) → Around x s q ⊎ Reaches x s (q ++ i ∷ [])
    to_either x s q i w = either x s q w.0 w.1 i w.2 w.3

-- what marks tell before the first top-level node
first_nil : (a b : Path) → [] ≡ a ++ b → a ≡ []
first_nil [] b e = refl
first_nil (i ∷ a) b e = absurd (cc e)

pub knows_top : (x : Nodes) (o : Option Combinator) → Knows x [] 0 (option_map (λ c. (top, c)) o) (begins Document o)
knows_top x None = tt
knows_top x (Some Child) = (λ _. refl, λ _. refl)
knows_top x (Some Descendant) = (λ _. ([], [], refl, refl), λ _. refl)
knows_top x (Some NextSibling) = never (JustBefore x top [] 0) (none_just_before x top [])
knows_top x (Some LaterSibling) = never (Before x top [] 0) (none_before x top [])

pub knows_other : (x : Nodes) (s : Selector) (o : Option Combinator) → (Reaches x s [] → ⊥) → Knows x [] 0 (option_map (λ c. (s, c)) o) false
knows_other x s None f = tt
knows_other x s (Some Child) f = never (Reaches x s []) f
knows_other x s (Some Descendant) f = never (Around x s []) (λ w. let P : Path → Type 0 = λ t. Reaches x s t in f (subst P (first_nil w.0 w.1 w.2) w.3))
knows_other x s (Some NextSibling) f = never (JustBefore x s [] 0) (none_just_before x s [])
knows_other x s (Some LaterSibling) f = never (Before x s [] 0) (none_before x s [])
