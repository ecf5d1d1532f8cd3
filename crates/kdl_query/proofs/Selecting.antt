-- Steps and selectors, one after another.
use Rattle.std.proofs.Common.{◌≡◌, ℕ, ◌<◌, ◌≤◌, Bool, cond, List, [], ◌∷◌, ◌++◌, true, false, codes, length, length-append, refl, sym, ap, ◌∙◌, subst, arith}
use Rattle.std.proofs.lemmas.Bool.{false≢true}
use Rattle.std.proofs.lemmas.List.{append_assoc}
use Rattle.std.specs.Prelude.{Option, Result, Ok, Err, Vec, is_some, map, fold}
use Rattle.std.specs.Result.{IsErrAnd}
use Rattle.std.specs.declared.alloc.Global.{Global}
use Rattle.kdl_text.specs.Chars.{Text, begins, begins_two}
use Rattle.kdl_text.specs.Chars.Star.{none}
use Rattle.kdl_text.specs.Internal.Here.{Ate, Here, first}
use Rattle.kdl_text.specs.Internal.Reading.{Moves}
use Rattle.kdl_text.proofs.Looking.MovesJoin.{moves_one, moves_stayed, stayed_looked}
use Rattle.kdl_query.specs.Data as data'
use Rattle.kdl_query.specs.Data.{NodeTest, Query}
use Rattle.kdl_query.specs.QueryText.{After, IsFirst, IsNode, IsOperator, IsQuery, QuerySpace, Spaces, without_bom}
use Rattle.kdl_query.specs.Internal.QueryReading.{NoStep, ReadsPiece, ReadsSelector, ReadsSteps, Same, Selectors, selectors}
use Rattle.kdl_query.specs.Tree.{first_says, node_test_says, selector_says, step_says}
use Rattle.kdl_query.specs.declared.error.Refusal.{Refusal}
use Rattle.kdl_query.specs.declared.error.Refusal.TheVariants.{Fault, Memory}
use Rattle.kdl_query.specs.declared.tree.Combinator.{Combinator}
use Rattle.kdl_query.specs.declared.tree.Combinator.TheVariants.{Child, NextSibling}
use Rattle.kdl_query.specs.declared.tree.First.{First}
use Rattle.kdl_query.specs.declared.tree.Selector.{Selector}
use Rattle.kdl_query.specs.declared.tree.Step.{Step}
use Rattle.kdl_query.proofs.Unique.{spaces_det, operator_det, node_det, first_det, same_at, spaces_at, no_operator_end, no_operator_or, no_or_end, or_same}

pub same_then : {P Q R : Query → Type 0} → Same P Q → Same Q R → Same P R
same_then a b = record { on = λ q h. b.on q (a.on q h); back = λ q h. a.back q (b.back q h) }

-- no spaces are where none begins
pub no_spaces : {s : Text} → ((t : Text) → QuerySpace s t → ⊥) → Spaces s s
no_spaces h = record { run = none; stops = h }

-- spaces that were skipped change nothing
skipped_on : {x : data'.Selector} {s t : Text} {q : Query} → Spaces s t → After x s q → After x t q
skipped_on {t = t} p (After.ends a) = After.ends (subst (λ z. Spaces t z) (spaces_det p a) (no_spaces p.stops))
skipped_on {t = t} p (After.step a o b n f) = After.step (subst (λ z. Spaces t z) (spaces_det p a) (no_spaces p.stops)) o b n f
skipped_on {t = t} p (After.or a b c f) = After.or (subst (λ z. Spaces t z) (spaces_det p a) (no_spaces p.stops)) b c f

skipped_back : {x : data'.Selector} {s t : Text} {q : Query} → Spaces s t → After x t q → After x s q
skipped_back {s = s} p (After.ends a) = After.ends (subst (λ z. Spaces s z) (spaces_det (no_spaces p.stops) a) p)
skipped_back {s = s} p (After.step a o b n f) = After.step (subst (λ z. Spaces s z) (spaces_det (no_spaces p.stops) a) p) o b n f
skipped_back {s = s} p (After.or a b c f) = After.or (subst (λ z. Spaces s z) (spaces_det (no_spaces p.stops) a) p) b c f

pub skipped : (x : data'.Selector) (s t : Text) → Spaces s t → Same (After x s) (After x t)
skipped x s t p = record { on = λ q h. skipped_on p h; back = λ q h. skipped_back p h }

-- a step, where no space begins
step_on : {x : data'.Selector} {s v w r : Text} {c : Combinator} {n : NodeTest} {q : Query} → ((t : Text) → QuerySpace s t → ⊥) → IsOperator s v c → Spaces v w → IsNode w r n → After x s q → After (data'.then x c n) r q
step_on h o b m (After.ends a) = absurd (no_operator_end _ _ _ (sym (spaces_det (no_spaces h) a)) o)
step_on {x = x} {s = s} {v = v} {w = w} {r = r} {c = c} {n = n} {q = q} h o b m (After.step {u = u} {v = v'} {w = w'} {r = r'} {c = c'} {n = n'} a o' b' m' f') =
    let (e, g) = same_at IsOperator operator_det s u v v' c c' (spaces_det (no_spaces h) a) o o' in
    let (i, k) = same_at IsNode node_det w w' r r' n n' (spaces_at v v' w w' e b b') m m' in
    subst (λ z. After (data'.then x c n) z q) (sym i) (subst (λ z. After (data'.then x z n) r' q) (sym g) (subst (λ z. After (data'.then x c' z) r' q) (sym k) f'))
step_on h o b m (After.or a g i f) = absurd (no_operator_or _ _ _ _ (sym (spaces_det (no_spaces h) a)) o)

pub stepped : (x : data'.Selector) (s v w r : Text) (c : Combinator) (n : NodeTest) → ((t : Text) → QuerySpace s t → ⊥) → IsOperator s v c → Spaces v w → IsNode w r n → Same (After x s) (After (data'.then x c n) r)
stepped x s v w r c n h o b m = record { on = λ q f. step_on h o b m f; back = λ q f. After.step (no_spaces h) o b m f }

-- an operator, and no node after it
pub no_step_node : (x : data'.Selector) (s v w : Text) (c : Combinator) (q : Query) → ((t : Text) → QuerySpace s t → ⊥) → IsOperator s v c → Spaces v w → ((r : Text) (n : NodeTest) → IsNode w r n → ⊥) → After x s q → ⊥
no_step_node x s v w c q h o b m (After.ends a) = no_operator_end _ _ _ (sym (spaces_det (no_spaces h) a)) o
no_step_node x s v w c q h o b m (After.step {u = u} {v = v'} {w = w'} {r = r'} {c = c'} {n = n'} a o' b' m' f') =
    let (e, g) = same_at IsOperator operator_det s u v v' c c' (spaces_det (no_spaces h) a) o o' in
    m r' n' (subst (λ z. IsNode z r' n') (sym (spaces_at v v' w w' e b b')) m')
no_step_node x s v w c q h o b m (After.or a g i f) = no_operator_or _ _ _ _ (sym (spaces_det (no_spaces h) a)) o

-- how far steps were read
pub record StepsSoFar (f a : Text) (ts : List Step) : Type 0 where
  pub same : (x : data'.Selector) → Same (After x f) (After (fold step_says x ts) a)
  pub space : (t : Text) → QuerySpace a t → ⊥

fold_snoc : (x : data'.Selector) (ts : List Step) (t : Step) → fold step_says x (ts ++ t ∷ []) ≡ step_says (fold step_says x ts) t
fold_snoc x [] t = refl
fold_snoc x (u ∷ ts) t = fold_snoc (step_says x u) ts t

pub steps_begin : (f a : Text) (ts : List Step) → Spaces f a → ts ≡ [] → StepsSoFar f a ts
steps_begin f a ts p e = subst (λ z. StepsSoFar f a z) (sym e) (record { same = λ x. skipped x f a p; space = p.stops })

pub steps_on : (f a v w r b : Text) (ts us : List Step) (t : Step) → StepsSoFar f a ts → IsOperator a v t.combinator → Spaces v w → IsNode w r (node_test_says t.node) → Spaces r b → us ≡ ts ++ t ∷ [] → StepsSoFar f b us
steps_on f a v w r b ts us t h o p n s e = record {
  same = λ x. subst (λ z. Same (After x f) (After z b)) (sym (ap (λ z. fold step_says x z) e ∙ fold_snoc x ts t))
      (same_then (h.same x) (same_then (stepped (fold step_says x ts) a v w r t.combinator (node_test_says t.node) h.space o p n) (skipped (step_says (fold step_says x ts) t) r b s)));
  space = s.stops;
}

-- a node that is not read after an operator
pub steps_fail : (o : Result (Vec Step Global) Refusal) (e : Refusal) (f a v r : Text) (w b : Here) (ts : List Step) (c : Combinator) → IsErrAnd o (λ x. x ≡ e) → StepsSoFar f a ts → IsOperator a v c → Spaces v w.rest → ReadsPiece IsNode node_test_says (Err e) w b → ReadsSteps o f r
steps_fail (Ok x) e f a v r w b ts c i h p s n = absurd i
steps_fail (Err x) e f a v r w b ts c i h p s n = subst (λ z. ReadsSteps (Err z) f r) (sym i) (go e n)
  where
    go : (e : Refusal) → ReadsPiece IsNode node_test_says (Err e) w b → ReadsSteps (Err e) f r
    go (Fault k) n = λ x q g. no_step_node (fold step_says x ts) a v w.rest c q h.space p s n.returns ((h.same x).on q g)
    go Memory n = tt

-- each step takes in a character
one_shorter : (c : ℕ) (r : Text) → length r < length (c ∷ r)
one_shorter c r = omega arith

two_shorter : (c d : ℕ) (r : Text) → length r < length (c ∷ d ∷ r)
two_shorter c d r = omega arith

operator_shorter : {s r : Text} {c : Combinator} → IsOperator s r c → length r < length s
operator_shorter (IsOperator.child {r = r} h) = one_shorter 62 r
operator_shorter (IsOperator.descendant {r = r}) = two_shorter 62 62 r
operator_shorter (IsOperator.next_sibling {r = r} h) = one_shorter 43 r
operator_shorter (IsOperator.later_sibling {r = r}) = two_shorter 43 43 r

no_longer : {a b : Here} → Moves a b → length b.rest ≤ length a.rest
no_longer {a = a} {b = b} m = omega (arith, ap length m.piece.1, length-append m.piece.0 b.rest)

pub step_shorter : (a : Text) (v w r b : Here) (c : Combinator) → IsOperator a v.rest c → Moves v w → Moves w r → Moves r b → length b.rest < length a
step_shorter a v w r b c o l m n = omega (arith, operator_shorter o, no_longer l, no_longer m, no_longer n)

-- a selector, and what follows it
pub selectors_same : (s t r : Text) (x : data'.Selector) → Spaces s t → IsFirst t r x → Same (Selectors s) (After x r)
selectors_same s t r x p f = record { on = λ q h. go q h; back = λ q h. selectors p f h }
  where
    go : (q : Query) → Selectors s q → After x r q
    go q (selectors {t = t'} {r = r'} {x = y} p' f' h) =
        let (e, g) = same_at IsFirst first_det t t' r r' x y (spaces_det p p') f f' in
        subst (λ z. After x z q) (sym e) (subst (λ z. After z r' q) (sym g) h)

pub no_first : (s t : Text) (q : Query) → Spaces s t → ((r : Text) (x : data'.Selector) → IsFirst t r x → ⊥) → Selectors s q → ⊥
no_first s t q p n (selectors {t = t'} {r = r'} {x = y} p' f' h) = n r' y (subst (λ z. IsFirst z r' y) (spaces_det p' p) f')

pub no_steps_after : (s t r : Text) (x : data'.Selector) (q : Query) → Spaces s t → IsFirst t r x → ((y : data'.Selector) (p : Query) → After y r p → ⊥) → Selectors s q → ⊥
no_steps_after s t r x q p f n h = n x q ((selectors_same s t r x p f).on q h)

pub selector_first : (o : Result Selector Refusal) (e : Refusal) (s r : Text) (t b : Here) → IsErrAnd o (λ x. x ≡ e) → Spaces s t.rest → ReadsPiece IsFirst first_says (Err e) t b → ReadsSelector o s r
selector_first (Ok x) e s r t b i p n = absurd i
selector_first (Err x) e s r t b i p n = subst (λ z. ReadsSelector (Err z) s r) (sym i) (go e n)
  where
    go : (e : Refusal) → ReadsPiece IsFirst first_says (Err e) t b → ReadsSelector (Err e) s r
    go (Fault k) n = λ q. no_first s t.rest q p n.returns
    go Memory n = tt

pub selector_steps : (o : Result Selector Refusal) (e : Refusal) (s t u w r : Text) (x : First) → IsErrAnd o (λ x. x ≡ e) → Spaces s t → IsFirst t u (first_says x) → ReadsSteps (Err e) u w → ReadsSelector o s r
selector_steps (Ok y) e s t u w r x i p f n = absurd i
selector_steps (Err y) e s t u w r x i p f n = subst (λ z. ReadsSelector (Err z) s r) (sym i) (go e n)
  where
    go : (e : Refusal) → ReadsSteps (Err e) u w → ReadsSelector (Err e) s r
    go (Fault k) n = λ q. no_steps_after s t u (first_says x) q p f n
    go Memory n = tt

-- the selectors of a query so far: what is left of the text has the rest of them
pub record QueriesSoFar (f a : Text) (ys : Query) : Type 0 where
  pub on : (q : Query) → Selectors a q → IsQuery f (ys ++ q)
  pub back : (q : Query) → IsQuery f q → (p : Query) × (q ≡ ys ++ p) × Selectors a p

queries_begin : (f : Text) → QueriesSoFar f (without_bom f) []
queries_begin f = record { on = λ q h. on q h; back = λ q h. back q h }
  where
    on : (q : Query) → Selectors (without_bom f) q → IsQuery f q
    on q (selectors a b c) = IsQuery.query a b c

    back : (q : Query) → IsQuery f q → (p : Query) × (q ≡ p) × Selectors (without_bom f) p
    back q (IsQuery.query a b c) = (q, refl, selectors a b c)

-- the first character of a text, where it is U+FEFF
no_bom : (s : Text) → begins 0xFEFF s ≡ false → without_bom s ≡ s
no_bom [] h = refl
no_bom (c ∷ t) h = ap (λ b. cond b t (c ∷ t)) h

bom_past : (v : Bool) (f a : Here) → Ate 0xFEFF v f a → without_bom f.rest ≡ a.rest
bom_past true f a h = ap without_bom h.0
bom_past false f a h = no_bom f.rest h.0 ∙ sym (ap (λ z. z.rest) h.1)

pub bom_moves : (v : Bool) (f a : Here) → Ate 0xFEFF v f a → Moves f a
bom_moves true f a h = moves_one h
bom_moves false f a h = moves_stayed (stayed_looked f a h.1)

pub queries_start : (v : Bool) (f a : Here) (ys : List Selector) → Ate 0xFEFF v f a → ys ≡ [] → QueriesSoFar f.rest a.rest (map selector_says ys)
queries_start v f a ys h e = subst (λ z. QueriesSoFar f.rest a.rest (map selector_says z)) (sym e) (subst (λ z. QueriesSoFar f.rest z []) (bom_past v f a h) (queries_begin f.rest))

-- whether a look found a character
pub more_there : (s t : Text) (o : Option ℕ) → t ≡ s → o ≡ first t → is_some o ≡ true → s ≡ [] → ⊥
more_there s t o e k h n = let m : false ≡ true = sym (ap is_some (k ∙ ap first (e ∙ n))) ∙ h in absurd (false≢true m)

pub end_there : (s t : Text) (o : Option ℕ) → t ≡ s → o ≡ first t → is_some o ≡ false → s ≡ []
end_there s t o e k h = go s (sym (ap is_some (k ∙ ap first e)) ∙ h)
  where
    go : (s : Text) → is_some (first s) ≡ false → s ≡ []
    go [] h = refl
    go (c ∷ s) h = absurd (false≢true (sym h))

-- `||` after a selector
or_on : {x : data'.Selector} {r u : Text} {q : Query} → NoStep r → r ≡ codes "||" ++ u → After x r q → (p : Query) × (q ≡ x ∷ p) × Selectors u p
or_on {u = u} n e (After.ends a) = absurd (no_or_end u (sym (spaces_det (no_spaces n.space) a) ∙ e))
or_on {r = r} n e (After.step {v = v} {c = c} a o b m f) = absurd (n.operator v c (subst (λ z. IsOperator z v c) (sym (spaces_det (no_spaces n.space) a)) o))
or_on {u = u} n e (After.or {u = u'} {v = v} {q = q} a b c f) = (q, refl, selectors (subst (λ z. Spaces z v) (sym (or_same u u' (sym e ∙ spaces_det (no_spaces n.space) a))) b) c f)

or_back : {x : data'.Selector} {r u : Text} {p : Query} → NoStep r → r ≡ codes "||" ++ u → Selectors u p → After x r (x ∷ p)
or_back {r = r} n e (selectors a b c) = After.or (subst (λ z. Spaces r z) e (no_spaces n.space)) a b c

pub queries_on : (f a r u : Text) (xs ys : List Selector) (y : Selector) → QueriesSoFar f a (map selector_says xs) → Same (Selectors a) (After (selector_says y) r) → NoStep r → r ≡ codes "||" ++ u → ys ≡ xs ++ y ∷ [] → QueriesSoFar f u (map selector_says ys)
queries_on f a r u xs ys y h s n e k = subst (λ z. QueriesSoFar f u (map selector_says z)) (sym k) (subst (λ z. QueriesSoFar f u z) (sym (map_snoc xs)) (record { on = on; back = back }))
  where
    map_snoc : (xs : List Selector) → map selector_says (xs ++ y ∷ []) ≡ map selector_says xs ++ selector_says y ∷ []
    map_snoc [] = refl
    map_snoc (x ∷ xs) = ap (λ z. selector_says x ∷ z) (map_snoc xs)

    on : (q : Query) → Selectors u q → IsQuery f ((map selector_says xs ++ selector_says y ∷ []) ++ q)
    on q m = subst (IsQuery f) (sym (append_assoc (map selector_says xs) (selector_says y ∷ []) q)) (h.on (selector_says y ∷ q) (s.back (selector_says y ∷ q) (or_back n e m)))

    back : (q : Query) → IsQuery f q → (p : Query) × (q ≡ (map selector_says xs ++ selector_says y ∷ []) ++ p) × Selectors u p
    back q m =
        let (p, i, j) = h.back q m in
        let (o, k, l) = or_on n e (s.on p j) in
        (o, i ∙ ap (λ z. map selector_says xs ++ z) k ∙ sym (append_assoc (map selector_says xs) (selector_says y ∷ []) o), l)

-- the end of the text after a selector, or something else
end_on : {x : data'.Selector} {r : Text} {q : Query} → NoStep r → begins_two 124 124 r ≡ false → After x r q → (r ≡ []) × (q ≡ x ∷ [])
end_on n e (After.ends a) = (spaces_det (no_spaces n.space) a, refl)
end_on n e (After.step {v = v} {c = c} a o b m f) = absurd (n.operator v c (subst (λ z. IsOperator z v c) (sym (spaces_det (no_spaces n.space) a)) o))
end_on {r = r} n e (After.or {u = u} a b c f) = let k : begins_two 124 124 r ≡ true = ap (begins_two 124 124) (spaces_det (no_spaces n.space) a) in absurd (false≢true (sym e ∙ k))

pub query_ends : (f a r : Text) (xs ys : List Selector) (y : Selector) → QueriesSoFar f a (map selector_says xs) → Same (Selectors a) (After (selector_says y) r) → NoStep r → r ≡ [] → ys ≡ xs ++ y ∷ [] → IsQuery f (map selector_says ys)
query_ends f a r xs ys y h s n e k = subst (λ z. IsQuery f (map selector_says z)) (sym k) (subst (IsQuery f) (sym (map_snoc xs)) (h.on (selector_says y ∷ []) (s.back (selector_says y ∷ []) (After.ends (subst (λ z. Spaces r z) e (no_spaces n.space))))))
  where
    map_snoc : (xs : List Selector) → map selector_says (xs ++ y ∷ []) ≡ map selector_says xs ++ selector_says y ∷ []
    map_snoc [] = refl
    map_snoc (x ∷ xs) = ap (λ z. selector_says x ∷ z) (map_snoc xs)

pub no_query_on : (f a r : Text) (ys : Query) (y : data'.Selector) (q : Query) → QueriesSoFar f a ys → Same (Selectors a) (After y r) → NoStep r → begins_two 124 124 r ≡ false → (r ≡ [] → ⊥) → IsQuery f q → ⊥
no_query_on f a r ys y q h s n e k m = let (p, i, j) = h.back q m in k (end_on n e (s.on p j)).0

-- `>` and `+`, not doubled
pub child_here : (s m r : Text) → s ≡ 62 ∷ r → m ≡ s → begins_two 62 62 m ≡ false → IsOperator s r Child
child_here s m r e f h = let k : begins_two 62 62 (62 ∷ r) ≡ false = sym (ap (begins_two 62 62) (f ∙ e)) ∙ h in rw e (IsOperator.child k)

pub next_here : (s m r : Text) → s ≡ 43 ∷ r → m ≡ s → begins_two 43 43 m ≡ false → IsOperator s r NextSibling
next_here s m r e f h = let k : begins_two 43 43 (43 ∷ r) ≡ false = sym (ap (begins_two 43 43) (f ∙ e)) ∙ h in rw e (IsOperator.next_sibling k)
