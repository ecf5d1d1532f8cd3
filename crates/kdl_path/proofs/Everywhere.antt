-- Edits at paths, from the last path to the first, are an edit of each node at one of the paths.
use Rattle.std.proofs.Common.{◌≡◌, ◌≤◌, ◌+◌, ◌==◌, ◌||◌, inl, inr, ℕ, zero, suc, Bool, true, false, List, [], ◌∷◌, Option, refl, ap, ◌∙◌, sym, subst, arith}
use Rattle.std.proofs.lemmas.Slice.Eq.{bytes_eq-Decides}
use Rattle.std.specs.Cmp.Lexicographic.{pointwise}
use Rattle.std.specs.List.{AllByRecursion}
use Rattle.kdl_grammar.specs.Data.{Node, node, children, no_children, Nodes, none, first}
use Rattle.kdl_query.specs.Selects.{IsBefore, Path}
use Rattle.kdl_path.specs.Each.{edited_at, edited_if, edited_inside, edited_where, is_among, with_first}
use Rattle.kdl_path.specs.Edits.{with_block}
use Rattle.kdl_path.specs.Internal.OnEach.{Edit, edited, edited_each}

-- equal parts
same_parts : (f : Node → Option Node) (b c : Bool) (m n : Node) (x y : Nodes) → b ≡ c → m ≡ n → x ≡ y → with_first (edited_if b f m) x ≡ with_first (edited_if c f n) y
same_parts f b c m n x y e h k = ap (λ a. with_first (edited_if a f m) x) e ∙ ap (λ a. with_first (edited_if c f a) x) h ∙ ap (with_first (edited_if c f n)) k

-- two sets of paths that are the same from a place on
mutual
  same_where : (s t : Path → Bool) (f : Node → Option Node) (i : ℕ) (x : Nodes) → ((j : ℕ) (p : Path) → i ≤ j → s (j ∷ p) ≡ t (j ∷ p)) → edited_where s f i x ≡ edited_where t f i x
  same_where s t f i none h = refl
  same_where s t f i (first n x) h =
      same_parts f (s (i ∷ [])) (t (i ∷ [])) (edited_inside (λ p. s (i ∷ p)) f n) (edited_inside (λ p. t (i ∷ p)) f n) (edited_where s f (suc i) x) (edited_where t f (suc i) x) (h i [] (omega arith))
      (same_inside (λ p. s (i ∷ p)) (λ p. t (i ∷ p)) f n (λ j p. h i (j ∷ p) (omega arith))) (same_where s t f (suc i) x (λ j p l. h j p (omega (arith, l))))

  same_inside : (s t : Path → Bool) (f : Node → Option Node) (n : Node) → ((j : ℕ) (p : Path) → s (j ∷ p) ≡ t (j ∷ p)) → edited_inside s f n ≡ edited_inside t f n
  same_inside s t f (node ty name es no_children) h = refl
  same_inside s t f (node ty name es (children x)) h = ap (λ y. node ty name es (children y)) (same_where s t f 0 x (λ j p l. h j p))

-- no path
mutual
  nowhere : (s : Path → Bool) (f : Node → Option Node) (i : ℕ) (x : Nodes) → ((j : ℕ) (p : Path) → s (j ∷ p) ≡ false) → edited_where s f i x ≡ x
  nowhere s f i none h = refl
  nowhere s f i (first n x) h =
      same_parts f (s (i ∷ [])) false (edited_inside (λ p. s (i ∷ p)) f n) n (edited_where s f (suc i) x) x (h i []) (not_inside (λ p. s (i ∷ p)) f n (λ j p. h i (j ∷ p))) (nowhere s f (suc i) x h)

  not_inside : (s : Path → Bool) (f : Node → Option Node) (n : Node) → ((j : ℕ) (p : Path) → s (j ∷ p) ≡ false) → edited_inside s f n ≡ n
  not_inside s f (node ty name es no_children) h = refl
  not_inside s f (node ty name es (children x)) h = ap (λ y. node ty name es (children y)) (nowhere s f 0 x h)

-- the edit g puts what f gives in the place of the node there
pub record Replaces (g : Edit) (f : Node → Option Node) : Type 0 where
  pub none : (i : ℕ) → g i none ≡ none
  pub zero : (n : Node) (x : Nodes) → g 0 (first n x) ≡ with_first (f n) x
  pub suc : (i : ℕ) (n : Node) (x : Nodes) → g (suc i) (first n x) ≡ first n (g i x)

-- t has the path p, which is before all those of s, and those
record Adds (p : Path) (s t : Path → Bool) : Type 0 where
  pub before : (q : Path) → s q ≡ true → IsBefore p q
  pub new : t p ≡ true
  pub rest : (q : Path) → (p ≡ q → ⊥) → t q ≡ s q

no_earlier : (m : ℕ) (r : Path) (i : ℕ) (s : Path → Bool) → ((q : Path) → s q ≡ true → IsBefore (m ∷ r) q) → i ≤ m → s (i ∷ []) ≡ false
no_earlier m r i s h l = go (s (i ∷ [])) refl
  where
    go : (b : Bool) → s (i ∷ []) ≡ b → s (i ∷ []) ≡ false
    go false e = e
    go true e = elim (h (i ∷ []) e) [ inl k ↦ absurd (omega (arith, k, l)) | inr k ↦ absurd k.1 ]

-- the same in the block of the node on the way
below : (m k : ℕ) (r : Path) (s t : Path → Bool) → Adds (m ∷ k ∷ r) s t → Adds (k ∷ r) (λ p. s (m ∷ p)) (λ p. t (m ∷ p))
below m k r s t a = record {
  before = λ q e. elim (a.before (m ∷ q) e) [ inl l ↦ absurd (omega (arith, l)) | inr l ↦ l.1 ];
  new = a.new;
  rest = λ q e. a.rest (m ∷ q) (λ h. e (cc));
}

-- past a node, and into its block
further : (g : Edit) (f : Node → Option Node) → Replaces g f → (j : ℕ) (r : Path) (n : Node) (x : Nodes) → edited g (suc j ∷ r) (first n x) ≡ first n (edited g (j ∷ r) x)
further g f e j [] n x = e.suc j n x
further g f e j (k ∷ r) n x = refl

on_the_way : (g : Edit) (f : Node → Option Node) (i m k : ℕ) (r : Path) (s t : Path → Bool) (n : Node) (x : Nodes) → m ≡ i + 0 → Adds (m ∷ k ∷ r) s t
    → with_block (edited g (k ∷ r)) (edited_inside (λ p. s (i ∷ p)) f n) ≡ edited_inside (λ p. t (i ∷ p)) f n → edited g (0 ∷ k ∷ r) (edited_where s f i (first n x)) ≡ edited_where t f i (first n x)
on_the_way g f i m k r s t n x h a inner =
    let inside = edited_inside (λ p. s (i ∷ p)) f n in
    let rest = edited_where s f (suc i) x in
    let off = no_earlier m (k ∷ r) i s a.before (omega (arith, h)) in
    ap (λ b. edited g (0 ∷ k ∷ r) (with_first (edited_if b f inside) rest)) off
    ∙ same_parts f false (t (i ∷ [])) (with_block (edited g (k ∷ r)) inside) (edited_inside (λ p. t (i ∷ p)) f n) rest (edited_where t f (suc i) x)
    (sym (a.rest (i ∷ []) (λ z. absurd (cc)) ∙ off)) inner (same_where s t f (suc i) x (λ j p l. sym (a.rest (j ∷ p) (λ z. let y : m ≡ j = cc in absurd (omega (arith, l, y, h))))))

edited_one : (g : Edit) (f : Node → Option Node) → Replaces g f → (i j m : ℕ) (r : Path) (s t : Path → Bool) (x : Nodes) → m ≡ i + j → Adds (m ∷ r) s t → edited g (j ∷ r) (edited_where s f i x) ≡ edited_where t f i x
edited_one g f e i j m [] s t none h a = e.none j
edited_one g f e i j m (k ∷ r) s t none h a = refl
edited_one g f e i zero m [] s t (first n x) h a =
    let same : m ≡ i = omega (arith, h) in
    let inside = edited_inside (λ p. s (i ∷ p)) f n in
    let rest = edited_where s f (suc i) x in
    ap (λ b. g 0 (with_first (edited_if b f inside) rest)) (no_earlier m [] i s a.before (omega (arith, h)))
    ∙ e.zero inside rest
    ∙ same_parts f true (t (i ∷ [])) inside (edited_inside (λ p. t (i ∷ p)) f n) rest (edited_where t f (suc i) x) (sym (subst (λ (z : ℕ). t (z ∷ []) ≡ true) same a.new))
    (same_inside (λ p. s (i ∷ p)) (λ p. t (i ∷ p)) f n (λ j p. sym (a.rest (i ∷ j ∷ p) (λ k. absurd (cc)))))
    (same_where s t f (suc i) x (λ j p l. sym (a.rest (j ∷ p) (λ k. let z : m ≡ j = cc in absurd (omega (arith, l, z, h))))))
edited_one g f e i zero m (k ∷ r) s t (first (node ty name es no_children) x) h a =
    let n = node ty name es no_children in
    on_the_way g f i m k r s t n x h a refl
edited_one g f e i zero m (k ∷ r) s t (first (node ty name es (children y)) x) h a =
    let same : m ≡ i = omega (arith, h) in
    let inner : Adds (k ∷ r) (λ p. s (i ∷ p)) (λ p. t (i ∷ p)) = subst (λ (z : ℕ). Adds (k ∷ r) (λ p. s (z ∷ p)) (λ p. t (z ∷ p))) same (below m k r s t a) in
    on_the_way g f i m k r s t (node ty name es (children y)) x h a (ap (λ z. node ty name es (children z)) (edited_one g f e 0 k k r (λ p. s (i ∷ p)) (λ p. t (i ∷ p)) y (omega arith) inner))
edited_one g f e i (suc j) m r s t (first n x) h a =
    let inside = edited_inside (λ p. s (i ∷ p)) f n in
    let rest = edited_where s f (suc i) x in
    let off = no_earlier m r i s a.before (omega (arith, h)) in
    ap (λ b. edited g (suc j ∷ r) (with_first (edited_if b f inside) rest)) off
    ∙ further g f e j r inside rest
    ∙ ap (first inside) (edited_one g f e (suc i) j m r s t x (omega (arith, h)) a)
    ∙ same_parts f false (t (i ∷ [])) inside (edited_inside (λ p. t (i ∷ p)) f n) (edited_where t f (suc i) x) (edited_where t f (suc i) x)
    (sym (a.rest (i ∷ []) (λ k. let z : m ≡ i = cc in absurd (omega (arith, z, h))) ∙ off))
    (same_inside (λ p. s (i ∷ p)) (λ p. t (i ∷ p)) f n (λ q p. sym (a.rest (i ∷ q ∷ p) (λ k. let z : m ≡ i = cc in absurd (omega (arith, z, h)))))) refl

abbrev pub Ascends : List Path → Type 0
Ascends [] = Unit {0}
Ascends (p ∷ ps) = AllByRecursion (IsBefore p) ps × Ascends ps

-- the paths are a set with the first of them added to that of the others
among_after : (p q : Path) (ps : List Path) → AllByRecursion (IsBefore p) ps → is_among ps q ≡ true → IsBefore p q
among_after p q [] h e = absurd (cc)
among_after p q (r ∷ ps) h e = go (pointwise ◌==◌ q r) refl (λ k. among_after p q ps h.1 k) e
  where
    go : (b : Bool) → pointwise ◌==◌ q r ≡ b → (is_among ps q ≡ true → IsBefore p q) → (b || is_among ps q) ≡ true → IsBefore p q
    go true k f e = subst (IsBefore p) (sym ((bytes_eq-Decides q r).0 k)) h.0
    go false k f e = f e

different : (p q : Path) → (p ≡ q → ⊥) → pointwise ◌==◌ p q ≡ false
different p q h = go (pointwise ◌==◌ p q) refl
  where
    go : (b : Bool) → pointwise ◌==◌ p q ≡ b → pointwise ◌==◌ p q ≡ false
    go false e = e
    go true e = absurd (h ((bytes_eq-Decides p q).0 e))

adds : (p : Path) (ps : List Path) → AllByRecursion (IsBefore p) ps → Adds p (is_among ps) (is_among (p ∷ ps))
adds p ps h = record {
  before = λ q e. among_after p q ps h e;
  new = ap (λ b. b || is_among ps p) ((bytes_eq-Decides p p).1 refl);
  rest = λ q e. ap (λ b. b || is_among ps q) (different q p (λ k. e (sym k)));
}

pub everywhere : (g : Edit) (f : Node → Option Node) → Replaces g f → (ps : List Path) → Ascends ps → (x : Nodes) → edited_each g ps x ≡ edited_at ps f x
everywhere g f e [] h x = sym (nowhere (is_among []) f 0 x (λ j p. refl))
everywhere g f e ([] ∷ ps) h x = everywhere g f e ps h.1 x ∙ same_where (is_among ps) (is_among ([] ∷ ps)) f 0 x (λ j p l. refl)
everywhere g f e ((j ∷ r) ∷ ps) h x = ap (edited g (j ∷ r)) (everywhere g f e ps h.1 x) ∙ edited_one g f e 0 j j r (is_among ps) (is_among ((j ∷ r) ∷ ps)) x (omega arith) (adds (j ∷ r) ps h.0)
