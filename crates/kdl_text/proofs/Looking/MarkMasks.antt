-- Vectors of 16 bytes, and the marks that they find.
use Rattle.std.proofs.Common.{◌≡◌, ℕ, ◌+◌, ◌-◌, ◌*◌, ◌<◌, ◌^◌, ◌%◌, Bool, true, false, ◌||◌, cond, eqb, ltb, List, [], ◌∷◌, map, length, replicate, refl, sym, ap, ◌∙◌, arith, bit_or, w8, Fits}
use Rattle.std.proofs.lemmas.Bool.{agree_below_at}
use Rattle.std.proofs.lemmas.Nat.{or_block}
use Rattle.std.proofs.lemmas.Simd.{bitmask_splat, zip2_splat, length-zip2, length-replicate, map-map}
use lib.Lanes.{zip2, mask_l, top, Each1}
use Rattle.kdl_text.specs.Internal.Marks.{is_comment_mark, is_newline_mark}

pair : (b m : ℕ) → b + 2 * m ≡ m * 2 ^ 1 + b
pair b m = omega arith

both : (a b m n : ℕ) → bit_or (a + 2 * m) (b + 2 * n) ≡ bit_or (m * 2 ^ 1 + a) (n * 2 ^ 1 + b)
both a b m n = ap (λ x. bit_or x (b + 2 * n)) (pair a m) ∙ ap (bit_or (m * 2 ^ 1 + a)) (pair b n)

pairs : (b m n k : ℕ) → bit_or m n ≡ k → bit_or m n * 2 ^ 1 + b ≡ b + 2 * k
pairs b m n k e = omega (arith, e)

or_one : (a b : Bool) (m n k : ℕ) → bit_or m n ≡ k → bit_or (cond a 1 0 + 2 * m) (cond b 1 0 + 2 * n) ≡ cond (a || b) 1 0 + 2 * k
or_one true true m n k e = both 1 1 m n ∙ or_block 1 m n 1 1 (omega arith) (omega arith) ∙ pairs 1 m n k e
or_one true false m n k e = both 1 0 m n ∙ or_block 1 m n 1 0 (omega arith) (omega arith) ∙ pairs 1 m n k e
or_one false true m n k e = both 0 1 m n ∙ or_block 1 m n 0 1 (omega arith) (omega arith) ∙ pairs 1 m n k e
or_one false false m n k e = both 0 0 m n ∙ or_block 1 m n 0 0 (omega arith) (omega arith) ∙ pairs 0 m n k e

-- the marks of either kind
or_masks : (p q : ℕ → Bool) (v : List ℕ) → bit_or (mask_l (map p v)) (mask_l (map q v)) ≡ mask_l (map (λ x. p x || q x) v)
or_masks p q [] = refl
or_masks p q (x ∷ v) = or_one (p x) (q x) _ _ _ (or_masks p q v)

same_map : (p q : ℕ → Bool) (v : List ℕ) → Each1 (Fits w8) v → ((x : ℕ) → x < 256 → p x ≡ q x) → map p v ≡ map q v
same_map p q [] fits same = refl
same_map p q (x ∷ v) (fit, fits) same = ap (λ b. b ∷ map p v) (same x fit.fits) ∙ ap (λ l. q x ∷ l) (same_map p q v fits same)

-- a comparison of each lane with a number
compared : (t : ℕ → ℕ → Bool) (v : List ℕ) (y : ℕ) → length v ≡ 16 → mask_l (map (top 7) (zip2 (λ a b. cond (t a b) 255 0) v (replicate 16 y))) % 2 ^ 64 ≡ mask_l (map (λ x. t x y) v)
compared t v y n = bitmask_splat w8 t v 16 y n (omega arith)

-- a comparison of what an operator makes of each lane and a number
made : (t : ℕ → ℕ → Bool) (f : ℕ → ℕ → ℕ) (v : List ℕ) (x y : ℕ) → length v ≡ 16 → mask_l (map (top 7) (zip2 (λ a b. cond (t a b) 255 0) (zip2 f v (replicate 16 x)) (replicate 16 y))) % 2 ^ 64 ≡ mask_l (map (λ a. t (f a x) y) v)
made t f v x y n =
    compared t (zip2 f v (replicate 16 x)) y (length-zip2 f v (replicate 16 x) (n ∙ sym (length-replicate 16 x)) ∙ n)
    ∙ ap (λ l. mask_l (map (λ a. t a y) l)) (zip2_splat f v 16 x n)
    ∙ ap mask_l (map-map (λ a. t a y) (λ a. f a x) v)

-- the marks of a comment
pub comment_masks : (v : List ℕ) → length v ≡ 16
    → bit_or (mask_l (map (top 7) (zip2 (λ a b. cond (eqb a b) 255 0) v (replicate 16 42))) % 2 ^ 64) (mask_l (map (top 7) (zip2 (λ a b. cond (eqb a b) 255 0) v (replicate 16 47))) % 2 ^ 64)
    ≡ mask_l (map is_comment_mark v)
comment_masks v n = rw (compared eqb v 42 n, compared eqb v 47 n) (or_masks (λ x. eqb x 42) (λ x. eqb x 47) v)

-- the marks of a newline
abbrev less : ℕ → ℕ → ℕ
less a b = (a + (2 ^ 8 - b)) % 2 ^ 8

pub newline_masks : (v : List ℕ) → length v ≡ 16 → Each1 (Fits w8) v
    → bit_or (mask_l (map (top 7) (zip2 (λ a b. cond (ltb a b) 255 0) (zip2 less v (replicate 16 10)) (replicate 16 4))) % 2 ^ 64)
    (mask_l (map (top 7) (zip2 (λ a b. cond (eqb a b) 255 0) (zip2 bit_or v (replicate 16 32)) (replicate 16 226))) % 2 ^ 64)
    ≡ mask_l (map is_newline_mark v)
newline_masks v n fits =
    let p = λ (a : ℕ). ltb (less a 10) 4 in
    let q = λ (a : ℕ). eqb (bit_or a 32) 226 in
    ap (λ m. bit_or m (mask_l (map (top 7) (zip2 (λ a b. cond (eqb a b) 255 0) (zip2 bit_or v (replicate 16 32)) (replicate 16 226))) % 2 ^ 64)) (made ltb less v 10 4 n)
    ∙ ap (bit_or (mask_l (map p v))) (made eqb bit_or v 32 226 n)
    ∙ or_masks p q v
    ∙ ap mask_l (same_map (λ a. p a || q a) is_newline_mark v fits (λ x h. agree_below_at (λ a. p a || q a) is_newline_mark 256 x refl h))
