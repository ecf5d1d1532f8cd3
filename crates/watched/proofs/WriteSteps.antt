-- What is written by several writes.
use Rattle.std.proofs.Common.{◌≡◌, ℕ, suc, ◌+◌, ◌-◌, ◌<◌, ◌≤◌, List, ◌∷◌, ◌++◌, length, get_or, take, drop, sym, ap, ◌∙◌, subst, arith, Option, length-append, take-append-drop, drop-cons}
use Rattle.std.specs.Prelude.{flat_map}
use Rattle.std.specs.Io.KnownBytes.{Appends}
use Rattle.std.proofs.KnownBytes.{Appends-trans}
use Rattle.std.proofs.Math.Seq.{take-add, take-append-add}
use Rattle.std.proofs.lemmas.List.{take_rest, take-append-le}
use Rattle.std.proofs.lemmas.Grind.{flat_map-append}
use Rattle.watched.specs.Streams.{Grows, IsCut, Stream}

-- a write of some of the bytes that are left
pub written_more : (a b c : Option (List ℕ)) (bytes : List ℕ) (done n : ℕ)
    → Appends a b (take done bytes) → Appends b c (take n (take (length bytes - done) (drop done bytes))) → Appends a c (take (done + n) bytes)
written_more a b c bytes done n p q =
    subst (Appends a c) (sym (take-add done n bytes)) (Appends-trans a b c _ _ p (rw (take_rest bytes done) at q))

-- the parts up to the i-th, that one, and the others
parts : {X : Type 0} (f : X → List ℕ) (xs : List X) (i : ℕ) (x : X) → i < length xs → x ≡ get_or xs i x
    → flat_map f xs ≡ flat_map f (take i xs) ++ (f x ++ flat_map f (drop (suc i) xs))
parts f xs i x within is =
    ap (flat_map f) (sym (take-append-drop i xs) ∙ ap (λ l. take i xs ++ l) (drop-cons xs i x within ∙ ap (λ y. y ∷ drop (suc i) xs) (sym is)))
    ∙ flat_map-append f (take i xs) (x ∷ drop (suc i) xs)

-- how long these are together
lengths : (front part rest whole : List ℕ) → whole ≡ front ++ (part ++ rest) → length whole ≡ length front + (length part + length rest)
lengths front part rest whole is =
    ap length is ∙ length-append front (part ++ rest) ∙ ap (λ k. length front + k) (length-append part rest)

-- a front is written, and then only a prefix of the part after it
pub cut_after : (front part rest whole : List ℕ) (old mid new : Stream) → whole ≡ front ++ (part ++ rest) → Grows front old mid → IsCut part mid new → IsCut whole old new
cut_after front part rest whole old mid new is (before, same) ((n, few, bytes), fails) =
    let size = lengths front part rest whole is in
    let begins : take (length front + n) whole ≡ front ++ take n part =
    ap (take (length front + n)) is ∙ take-append-add front (part ++ rest) n ∙ ap (λ l. front ++ l) (take-append-le n part rest (omega arith)) in
    ((length front + n, omega (arith, few, size), subst (Appends old.bytes new.bytes) (sym begins) (Appends-trans old.bytes mid.bytes new.bytes front (take n part) before bytes)), fails)

-- the parts up to the i-th are written, and then only a prefix of that one
pub stopped : {X : Type 0} (f : X → List ℕ) (xs : List X) (i : ℕ) (x : X) (old mid new : Stream) → i < length xs → x ≡ get_or xs i x
    → Grows (flat_map f (take i xs)) old mid → IsCut (f x) mid new → IsCut (flat_map f xs) old new
stopped f xs i x old mid new within is before cut =
    cut_after (flat_map f (take i xs)) (f x) (flat_map f (drop (suc i) xs)) (flat_map f xs) old mid new (parts f xs i x within is) before cut

-- the i-th part does not fit after those before it
pub too_long : {X : Type 0} (f : X → List ℕ) (xs : List X) (i : ℕ) (x : X) (room : ℕ) → i < length xs → x ≡ get_or xs i x
    → room - length (flat_map f (take i xs)) < length (f x) → length (flat_map f xs) ≤ room → ⊥
too_long f xs i x room within is long fits =
    let size = lengths (flat_map f (take i xs)) (f x) (flat_map f (drop (suc i) xs)) (flat_map f xs) (parts f xs i x within is) in
    omega (arith, long, fits, size)
