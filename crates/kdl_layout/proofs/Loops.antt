-- A loop that changes the elements of a list one by one, as far as it has come: each that it has left is in a relation to what was there, and the others are as they were.
use Rattle.kdl_layout.proofs.Common.{◌≡◌, ℕ, zero, suc, ◌+◌, ◌<◌, ◌≤◌, List, [], ◌∷◌, ◌++◌, length, map, take, drop, get_or, refl, sym, ap, subst, ◌∙◌, arith, add-one, Entry, entry_data, Keeping, Settings, IsWellFormedEntry, AreWellFormedEntries, IsSpelledEntry}
use Rattle.std.proofs.Common.{set}
use Rattle.std.proofs.lemmas.List.{length-set}
use Rattle.kdl_layout.specs.Respelled.{AreSpelledEntries}
use Rattle.kdl_parts.proofs.Loops.{given_back}

-- R holds of each element of the first list and the one in its place in the second
abbrev pub Pairwise : {B : Type 0} → (B → B → Type 0) → List B → List B → Type 0
Pairwise R [] [] = Unit {0}
Pairwise R (s ∷ ss) (t ∷ ts) = R s t × Pairwise R ss ts
Pairwise R _ _ = ⊥

-- what a loop has made of a list whose start is `start`: R holds of the first i at the start and now, and the others are as they were
abbrev pub Turned : {A B : Type 0} → (A → B) → (B → B → Type 0) → List A → ℕ → List B → Type 0
Turned f R [] i [] = Unit {0}
Turned f R (x ∷ xs) zero (s ∷ ss) = (f x ≡ s) × Turned f R xs zero ss
Turned f R (x ∷ xs) (suc i) (s ∷ ss) = R s (f x) × Turned f R xs i ss
Turned f R _ _ _ = ⊥

module _ {A B : Type 0} (f : A → B) (R : B → B → Type 0) where
  -- the loop has not begun
  pub turned_start : (xs : List A) → Turned f R xs 0 (map f xs)
  turned_start [] = tt
  turned_start (x ∷ xs) = (refl, turned_start xs)

  turned_suc : (xs : List A) (i : ℕ) (y d : A) (start : List B) → i < length xs → R (f (get_or xs i d)) (f y) → Turned f R xs i start → Turned f R (set xs i y) (suc i) start
  turned_suc [] i y d start h r k = absurd (omega arith)
  turned_suc (x ∷ xs) zero y d (s ∷ start) h r k = (subst (λ (z : B). R z (f y)) k.0 r, k.1)
  turned_suc (x ∷ xs) (suc i) y d (s ∷ start) h r k = (k.0, turned_suc xs i y d start (omega arith) r k.1)
  turned_suc _ _ y d _ h r k = absurd assumption

  -- it has left one element more
  pub turned_more : (xs : List A) (i : ℕ) (y d : A) (start : List B) → i < length xs → R (f (get_or xs i d)) (f y) → Turned f R xs i start → Turned f R (set xs i y) (i + 1) start
  turned_more xs i y d start h r k = rw (add-one i) (turned_suc xs i y d start h r k)

  turned_pairs : (xs : List A) (i : ℕ) (start : List B) → length xs ≤ i → Turned f R xs i start → Pairwise R start (map f xs)
  turned_pairs [] i [] h k = tt
  turned_pairs (x ∷ xs) zero start h k = absurd (omega arith)
  turned_pairs (x ∷ xs) (suc i) (s ∷ start) h k = (k.0, turned_pairs xs i start (omega arith) k.1)
  turned_pairs _ _ _ h k = absurd assumption

  -- it has left all: R holds of what it was given and of what it gives back
  pub turned_all : (n i : ℕ) (xs zs ys : List A) → zs ≡ ys → length xs ≡ n → n ≤ i → Turned f R xs i (map f zs) → Pairwise R (map f ys) (map f (take n (xs ++ drop (length xs) ys)))
  turned_all n i xs zs ys z h l k = rw (given_back n xs ys h) (turned_pairs xs i (map f ys) (omega arith) (subst (λ (w : List A). Turned f R xs i (map f w)) z k))

  -- what R leaves as it was
  module _ {C : Type 0} (g : B → C) (same : (s t : B) → R s t → g t ≡ g s) where
    same_so_far : (xs : List A) (i : ℕ) (start : List B) → Turned f R xs i start → map g (map f xs) ≡ map g start
    same_so_far [] i [] k = refl
    same_so_far (x ∷ xs) zero (s ∷ start) k = rw (k.0, same_so_far xs zero start k.1) refl
    same_so_far (x ∷ xs) (suc i) (s ∷ start) k = rw (same s (f x) k.0, same_so_far xs i start k.1) refl
    same_so_far _ _ _ k = absurd assumption

    exchanged : (xs : List A) (i : ℕ) (y d : A) → i < length xs → g (f y) ≡ g (f (get_or xs i d)) → map g (map f (set xs i y)) ≡ map g (map f xs)
    exchanged [] i y d h e = absurd (omega arith)
    exchanged (x ∷ xs) zero y d h e = rw e refl
    exchanged (x ∷ xs) (suc i) y d h e = rw (exchanged xs i y d (omega arith) e) refl

    -- it is the same wherever the loop ends
    pub turned_same : (n i : ℕ) (xs zs ys : List A) → zs ≡ ys → length xs ≡ n → Turned f R xs i (map f zs) → map g (map f (take n (xs ++ drop (length xs) ys))) ≡ map g (map f ys)
    turned_same n i xs zs ys z h k = rw (given_back n xs ys h) (same_so_far xs i (map f zs) k ∙ ap (λ (w : List A). map g (map f w)) z)

    -- also after an element at which it gave up
    pub turned_exchanged : (n i : ℕ) (xs zs ys : List A) (y d : A) → zs ≡ ys → length xs ≡ n → i < n → Turned f R xs i (map f zs) → g (f y) ≡ g (f (get_or xs i d))
        → map g (map f (take n (set xs i y ++ drop (length (set xs i y)) ys))) ≡ map g (map f ys)
    turned_exchanged n i xs zs ys y d z h l k e =
        let m : length (set xs i y) ≡ n = omega (arith, length-set {A = A}) in
        rw (given_back n (set xs i y) ys m) (exchanged xs i y d (omega arith) e ∙ same_so_far xs i (map f zs) k ∙ ap (λ (w : List A). map g (map f w)) z)

-- a relation, and what holds of the first of the two
abbrev pub And : {B : Type 0} → (B → B → Type 0) → (B → Type 0) → B → B → Type 0
And R P s t = R s t × P s

-- an entry that is laid out, and well formed
abbrev pub LaidEntry : Keeping → Settings → Entry → Entry → Type 0
LaidEntry keep s = And (IsSpelledEntry keep s) (λ e. IsWellFormedEntry (entry_data e))

pub entries_laid : (keep : Keeping) (s : Settings) (es es' : List Entry) → Pairwise (LaidEntry keep s) es es' → AreSpelledEntries keep s es es'
entries_laid keep s [] [] k = ([], tt, tt)
entries_laid keep s (e ∷ es) (e' ∷ es') ((f, w), k) = let x = entries_laid keep s es es' k in (f.0 ∷ x.0, (f.1, x.1), (f.2, x.2))
entries_laid keep s _ _ k = absurd assumption

pub entries_fit : (keep : Keeping) (s : Settings) (es es' : List Entry) → Pairwise (LaidEntry keep s) es es' → AreWellFormedEntries (map entry_data es)
entries_fit keep s [] [] k = tt
entries_fit keep s (e ∷ es) (e' ∷ es') k = (k.0.1, entries_fit keep s es es' k.1)
entries_fit keep s _ _ k = absurd assumption

-- what R leads to holds of each element wherever the loop ends
abbrev pub Each : {B : Type 0} → (B → Type 0) → List B → Type 0
Each Q [] = Unit {0}
Each Q (x ∷ xs) = Q x × Each Q xs

module _ {A B : Type 0} (f : A → B) (R : B → B → Type 0) (Q : B → Type 0) (leads : (x y : B) → R x y → Q x → Q y) where
  each_so_far : (xs : List A) (i : ℕ) (start : List B) → Turned f R xs i start → Each Q start → Each Q (map f xs)
  each_so_far [] i [] k h = tt
  each_so_far (x ∷ xs) zero (s ∷ start) k h = (subst Q (sym k.0) h.0, each_so_far xs zero start k.1 h.1)
  each_so_far (x ∷ xs) (suc i) (s ∷ start) k h = (leads s (f x) k.0 h.0, each_so_far xs i start k.1 h.1)
  each_so_far _ _ _ k h = absurd assumption

  each_set : (xs : List A) (i : ℕ) (y d : A) → i < length xs → (Q (f (get_or xs i d)) → Q (f y)) → Each Q (map f xs) → Each Q (map f (set xs i y))
  each_set [] i y d l g h = tt
  each_set (x ∷ xs) zero y d l g h = (g h.0, h.1)
  each_set (x ∷ xs) (suc i) y d l g h = (h.0, each_set xs i y d (omega arith) g h.1)

  pub turned_each : (n i : ℕ) (xs zs ys : List A) → zs ≡ ys → length xs ≡ n → Turned f R xs i (map f zs) → Each Q (map f ys) → Each Q (map f (take n (xs ++ drop (length xs) ys)))
  turned_each n i xs zs ys z h k e = rw (given_back n xs ys h) (each_so_far xs i (map f zs) k (subst (λ (w : List A). Each Q (map f w)) (sym z) e))

  pub turned_each_set : (n i : ℕ) (xs zs ys : List A) (y d : A) → zs ≡ ys → length xs ≡ n → i < n → Turned f R xs i (map f zs) → (Q (f (get_or xs i d)) → Q (f y)) → Each Q (map f ys)
      → Each Q (map f (take n (set xs i y ++ drop (length (set xs i y)) ys)))
  turned_each_set n i xs zs ys y d z h l k g e =
      let m : length (set xs i y) ≡ n = omega (arith, length-set {A = A}) in
      rw (given_back n (set xs i y) ys m) (each_set xs i y d (omega arith) g (each_so_far xs i (map f zs) k (subst (λ (w : List A). Each Q (map f w)) (sym z) e)))
