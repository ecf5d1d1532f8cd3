-- A text has at most one reading as a PATH.
use Rattle.std.proofs.Common.{◌≡◌, [], ◌∷◌, ◌++◌, List, true, false, refl, sym, ap, ◌∙◌, subst, append_assoc}
use Rattle.std.proofs.lemmas.List.{append-nil}
use Rattle.std.specs.Prelude.{None}
use Rattle.std.specs.Str.Parse.{digits_value}
use Rattle.kdl_text.specs.Chars.{Text, begins, is_digit}
use Rattle.kdl_text.proofs.Quoted.UnitUnique.{run_same}
use Rattle.kdl_syntax.proofs.Lexing.StringUnique.{string_det}
use Rattle.kdl_path.specs.PathText.{AfterStep, IsIndex, IsName, IsPath, IsStep, IsTarget, PathData, StepData, TargetData, argument, node, property}
use Rattle.kdl_path.specs.Internal.PathReading.{StepsSoFar, only_target, then_path}

-- a piece begins each text in one way at most
abbrev pub Det : {A : Type 0} → (Text → Text → A → Type 0) → Type 0
Det {A = A} X = (s r t : Text) (x y : A) → X s r x → X s t y → (r ≡ t) × (x ≡ y)

pub name_det : Det IsName
name_det s r t v w a b = string_det a.string b.string

pub index_det : Det IsIndex
index_det s r t i j a b =
    let (e, f) = run_same is_digit a.digits.run b.digits.run r t a.digits.all b.digits.all a.digits.stops b.digits.stops (sym a.digits.text ∙ b.digits.text) in
    (f, a.value ∙ ap (digits_value 10) e ∙ sym b.value)

pub step_det : Det IsStep
step_det s r t x y (IsStep.plain a h) (IsStep.plain b k) = let (e, f) = name_det s r t _ _ a b in (e, ap (λ v. record { name = v; index = None }) f)
step_det s r t x y (IsStep.plain {v = v} a h) (IsStep.indexed {t = u} {v = w} b j) = let (e, f) = name_det s r (91 ∷ u) v w a b in let k : begins 91 r ≡ true = ap (begins 91) e in absurd cc
step_det s r t x y (IsStep.indexed {t = u} {v = w} b j) (IsStep.plain {v = v} a h) = let (e, f) = name_det s t (91 ∷ u) v w a b in let k : begins 91 t ≡ true = ap (begins 91) e in absurd cc
step_det s r t x y (IsStep.indexed {t = u} {v = v} {i = i} a j) (IsStep.indexed {t = u'} {v = w} {i = k} b l) =
    let (e, f) = name_det s (91 ∷ u) (91 ∷ u') v w a b in
    let g : u ≡ u' = cc in
    let (m, n) = index_det u (93 ∷ r) (93 ∷ t) i k j (subst (λ z. IsIndex z (93 ∷ t) k) (sym g) l) in
    (cc, cc)

pub step_no_key : {s r : Text} {x : StepData} → IsStep s r x → begins 64 s ≡ false
step_no_key (IsStep.plain n h) = n.no_key
step_no_key (IsStep.indexed n h) = n.no_key

-- no step follows here
abbrev pub NoStep : Text → Type 0
NoStep s = (t : Text) → s ≡ 47 ∷ t → begins 64 t ≡ true

no_step : {s r : Text} {x : StepData} → NoStep (47 ∷ s) → IsStep s r x → ⊥
no_step {s = s} n x = let k = n s refl in let l = step_no_key x in cc

pub after_only : {s : Text} {p : PathData} → NoStep s → AfterStep s p → (y : TargetData) × (p ≡ only_target y)
after_only n AfterStep.ends = (node, refl)
after_only n (AfterStep.to_argument {i = i} a) = (argument i, refl)
after_only n (AfterStep.to_property {v = v} a) = (property v, refl)
after_only n (AfterStep.step x a) = absurd (no_step n x)

pub after_det : {s : Text} {p q : PathData} → NoStep s → AfterStep s p → AfterStep s q → p ≡ q
after_det n AfterStep.ends AfterStep.ends = refl
after_det n (AfterStep.to_argument a) (AfterStep.to_argument b) = ap (λ i. only_target (argument i)) (index_det _ [] [] _ _ a b).1
after_det n (AfterStep.to_property a) (AfterStep.to_property b) = ap (λ v. only_target (property v)) (name_det _ [] [] _ _ a b).1
after_det n (AfterStep.to_property a) (AfterStep.step x b) = absurd (no_step n x)
after_det n (AfterStep.step x b) (AfterStep.to_property a) = absurd (no_step n x)
after_det n (AfterStep.step x a) (AfterStep.step y b) = absurd (no_step n x)

pub target_det : {s : Text} {x y : TargetData} → IsTarget s x → IsTarget s y → x ≡ y
target_det (IsTarget.nth a) (IsTarget.nth b) = ap argument (index_det _ [] [] _ _ a b).1
target_det (IsTarget.key a) (IsTarget.key b) = ap property (name_det _ [] [] _ _ a b).1

-- steps
pub first_step : (s t : Text) (x : StepData) → (s ≡ 47 ∷ [] → ⊥) → IsStep s t x → StepsSoFar s t (x ∷ [])
first_step s t x h a = record { on = λ p b. IsPath.place a b; back = λ q i. back q i h a }
  where
    back : {s t : Text} {x : StepData} (q : PathData) → IsPath s q → (s ≡ 47 ∷ [] → ⊥) → IsStep s t x → (p : PathData) × AfterStep t p × (q ≡ then_path (x ∷ []) p)
    back q IsPath.document h a = absurd (h refl)
    back {s = s} {t = t} {x = x} q (IsPath.place {r = r} {x = y} {p = p} b c) h a =
        let (e, f) = step_det s r t y x b a in (p, subst (λ z. AfterStep z p) e c, ap (λ z. record { steps = z ∷ p.steps; target = p.target }) f)

no_property : {u : Text} {p : PathData} → begins 64 u ≡ false → AfterStep (47 ∷ u) p → (r : Text) × (x : StepData) × (q : PathData) × IsStep u r x × AfterStep r q × (p ≡ record { steps = x ∷ q.steps; target = q.target })
no_property h (AfterStep.to_property a) = absurd cc
no_property h (AfterStep.step {r = r} {x = x} {p = p} a b) = (r, x, p, a, b, refl)

pub one_more_step : (s t u w : Text) (xs : List StepData) (x : StepData) → StepsSoFar s t xs → t ≡ 47 ∷ u → begins 64 u ≡ false → IsStep u w x → StepsSoFar s w (xs ++ x ∷ [])
one_more_step s t u w xs x h e k a = record { on = on; back = back }
  where
    on : (p : PathData) → AfterStep w p → IsPath s (then_path (xs ++ x ∷ []) p)
    on p b = subst (λ z. IsPath s (record { steps = z; target = p.target })) (sym (append_assoc xs (x ∷ []) p.steps))
        (h.on (record { steps = x ∷ p.steps; target = p.target }) (subst (λ z. AfterStep z (record { steps = x ∷ p.steps; target = p.target })) (sym e) (AfterStep.step a b)))

    back : (q : PathData) → IsPath s q → (p : PathData) × AfterStep w p × (q ≡ then_path (xs ++ x ∷ []) p)
    back q i =
        let (p, b, f) = h.back q i in
        let (r, y, o, c, d, g) = no_property k (subst (λ z. AfterStep z p) e b) in
        let (l, m) = step_det u r w y x c a in
        (o, subst (λ z. AfterStep z o) l d, f ∙ ap (then_path xs) g ∙ ap (λ z. record { steps = xs ++ z ∷ o.steps; target = o.target }) m ∙ ap (λ z. record { steps = z; target = o.target }) (sym (append_assoc xs (x ∷ []) o.steps)))

pub no_more_step : (s t u : Text) (xs : List StepData) → StepsSoFar s t xs → t ≡ 47 ∷ u → begins 64 u ≡ false → ((r : Text) (x : StepData) → IsStep u r x → ⊥) → (q : PathData) → IsPath s q → ⊥
no_more_step s t u xs h e k n q i =
    let (p, b, f) = h.back q i in
    let (r, y, o, c, d, g) = no_property k (subst (λ z. AfterStep z p) e b) in
    n r y c

pub path_ends : (s t : Text) (xs : List StepData) (y : TargetData) → StepsSoFar s t xs → AfterStep t (only_target y) → IsPath s (record { steps = xs; target = y })
path_ends s t xs y h a = subst (λ z. IsPath s (record { steps = z; target = y })) (append-nil xs) (h.on (only_target y) a)

pub path_only : (s t : Text) (xs : List StepData) (y : TargetData) → StepsSoFar s t xs → NoStep t → AfterStep t (only_target y) → (q : PathData) → IsPath s q → q ≡ record { steps = xs; target = y }
path_only s t xs y h n a q i =
    let (p, b, f) = h.back q i in
    f ∙ ap (then_path xs) (after_det n b a) ∙ ap (λ z. record { steps = z; target = y }) (append-nil xs)

pub no_path : (s t : Text) (xs : List StepData) → StepsSoFar s t xs → NoStep t → ((y : TargetData) → AfterStep t (only_target y) → ⊥) → (q : PathData) → IsPath s q → ⊥
no_path s t xs h n k q i =
    let (p, b, f) = h.back q i in
    let (y, e) = after_only n b in
    k y (subst (AfterStep t) e b)

pub document_only : (q : PathData) → IsPath (47 ∷ []) q → ((r : Text) (x : StepData) → IsStep (47 ∷ []) r x → ⊥) → q ≡ record { steps = []; target = node }
document_only q IsPath.document n = refl
document_only q (IsPath.place a b) n = absurd (n _ _ a)
