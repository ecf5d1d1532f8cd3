-- A loop that changes the elements of a list one by one.
use Rattle.kdl_parts.proofs.Common.{◌≡◌, ℕ, suc, ◌+◌, ◌<◌, ◌≤◌, List, [], ◌∷◌, ◌++◌, length, map, take, drop, set, refl, ap, ◌∙◌, arith, add-one, get_or, take_all, drop_all, length-map, append-nil}
use Rattle.std.proofs.Common.{zero}
use Rattle.std.proofs.Math.Seq.{take-append_seam}

-- what a loop has made of a list whose start is `start`: the first i are changed, the others are as they were
abbrev pub Changed : {A B : Type 0} → (A → B) → (B → B) → List A → ℕ → List B → Type 0
Changed f g xs i start = map f xs ≡ map g (take i start) ++ drop i start

changed_suc : {A B : Type 0} (f : A → B) (g : B → B) (xs : List A) (i : ℕ) (y d : A) (start : List B) → i < length xs
    → f y ≡ g (f (get_or xs i d)) → Changed f g xs i start → Changed f g (set xs i y) (suc i) start
changed_suc f g [] i y d start h e k = absurd (omega arith)
changed_suc f g (x ∷ xs) zero y d [] h e k = absurd (cc)
changed_suc f g (x ∷ xs) (suc i) y d [] h e k = absurd (cc)
changed_suc f g (x ∷ xs) zero y d (s ∷ start) h e k = let a : f x ≡ s = cc in let b : map f xs ≡ start = cc in rw (e, a, b) refl
changed_suc f g (x ∷ xs) (suc i) y d (s ∷ start) h e k =
    let a : f x ≡ g s = cc in
    let b : Changed f g xs i start = cc in
    rw (a, changed_suc f g xs i y d start (omega arith) e b) refl

-- one more element is changed
pub changed_more : {A B : Type 0} (f : A → B) (g : B → B) (xs : List A) (i : ℕ) (y d : A) (start : List B) → i < length xs
    → f y ≡ g (f (get_or xs i d)) → Changed f g xs i start → Changed f g (set xs i y) (i + 1) start
changed_more f g xs i y d start h e k = rw (add-one i) (changed_suc f g xs i y d start h e k)

-- a slice of all of a list, given back
pub given_back : {A : Type 0} (n : ℕ) (xs ys : List A) → length xs ≡ n → take n (xs ++ drop (length xs) ys) ≡ xs
given_back n xs ys h = rw (← h) (take-append_seam xs (drop (length xs) ys))

-- all are changed
pub changed_all : {A B : Type 0} (f : A → B) (g : B → B) (n i : ℕ) (xs zs ys : List A) → zs ≡ ys → length xs ≡ n → length zs ≤ i → Changed f g xs i (map f zs)
    → map f (take n (xs ++ drop (length xs) ys)) ≡ map g (map f ys)
changed_all f g n i xs zs ys z h k p =
    let start = map f ys in
    let q : Changed f g xs i start = rw z at p in
    let l : length start ≤ i = omega (arith, length-map ys f, ap length z) in
    rw (given_back n xs ys h) (q ∙ rw (take_all i start l, drop_all i start l) (append-nil (map g start)))
