-- Vectors of 16 bytes, and the bytes that they find in a table of ASCII characters.
use Rattle.std.proofs.Common.{◌≡◌, ℕ, suc, ◌+◌, ◌-◌, ◌*◌, ◌/◌, ◌%◌, ◌^◌, ◌<◌, ◌≤◌, Bool, true, false, not, cond, eqb, List, [], ◌∷◌, drop, map, length, get_or, replicate, refl, sym, ap, subst, ◌∙◌, ◌++◌, arith, bit_and, w8, Fits, inl, inr}
use Rattle.std.proofs.lemmas.Bool.{cases_lt, eq-eqb, not-true, not-false}
use Rattle.std.proofs.lemmas.List.{get_or-map, get_or-drop, length-map, length-drop, ext_get_or}
use Rattle.std.proofs.lemmas.List.Sums.{prefix_len-le-length, prefix_len_passes, prefix_len_stops}
use Rattle.std.proofs.lemmas.Nat.{and_le_r}
use Rattle.std.proofs.lemmas.Simd.{Each1-all, Each1-weaker, Each1-zip2, Each1-get_or, Each2-splat, below_from_Fits, length-zip2, zip2-map, map-map, zip2_splat, bitmask_splat, swz_l, SwzOk, SwzOk-from_below, length-swz_l, get_or-swz_l_below, length-chunk, trailing_mask_l, none_from_empty_mask, run_in_chunk_le, run_in_chunk_fails, run_in_chunk_stops}
use Rattle.std.specs.List.{prefix_len}
use lib.Count.{count_trailing_zeros}
use lib.Lanes.{zip2, mask_l, top, chunk, Each1}
use Rattle.kdl_text.specs.Internal.Tables.{outside, column_of, row_of, Until}
use Rattle.kdl_text.specs.declared.tables.TheConstants.{ROW_BITS}

abbrev pub down : ℕ → ℕ → ℕ
down a b = a / 2 ^ b

pub low_ok : (v : List ℕ) → length v ≡ 16 → SwzOk w8 16 16 0 (zip2 bit_and v (replicate 16 15))
low_ok v long =
    let small = Each1-all (λ a. bit_and a 15 < 16) (λ a. omega (arith, and_le_r a 15)) v in
    SwzOk-from_below w8 16 1 16 0 (zip2 bit_and v (replicate 16 15)) refl (omega (arith, length-zip2 bit_and v (replicate 16 15) long))
    (Each1-zip2 bit_and (λ j. j < 16) v (replicate 16 15) (Each2-splat (λ a b. bit_and a b < 16) v 16 15 small))

pub high_ok : (v : List ℕ) → length v ≡ 16 → Each1 (Fits w8) v → SwzOk w8 16 16 0 (zip2 down v (replicate 16 4))
high_ok v long fits =
    let small = Each1-weaker (λ a. a < 256) (λ a. a / 16 < 16) (λ a h. omega arith) v (below_from_Fits w8 v fits) in
    SwzOk-from_below w8 16 1 16 0 (zip2 down v (replicate 16 4)) refl (omega (arith, length-zip2 down v (replicate 16 4) long))
    (Each1-zip2 down (λ j. j < 16) v (replicate 16 4) (Each2-splat (λ a b. down a b < 16) v 16 4 small))

-- a table t, read at places g x below 16
pub looked_up : (t : List ℕ) (g : ℕ → ℕ) (v js : List ℕ) → length v ≡ 16 → Each1 (Fits w8) v → js ≡ map g v → ((x : ℕ) → x < 256 → g x < 16) → swz_l w8 16 t 0 js ≡ map (λ x. get_or t (g x) 0) v
looked_up t g v js n fits e small =
    let long : length js ≡ 16 = ap length e ∙ length-map v g ∙ n in
    ext_get_or 0 _ _ (length-swz_l w8 16 t 0 js ∙ long ∙ sym (length-map v (λ x. get_or t (g x) 0) ∙ n)) (λ i h.
    let lt : i < 16 = omega (arith, length-swz_l w8 16 t 0 js) in
    let within : i < length v = omega arith in
    let is : get_or js i 0 ≡ g (get_or v i 0) = ap (λ l. get_or l i 0) e ∙ get_or-map g v i 0 0 within in
    let fit = (Each1-get_or (Fits w8) v i 0 within fits).fits in
    let below : get_or js i 0 < 16 = omega (arith, small (get_or v i 0) fit) in
    get_or-swz_l_below w8 16 t 0 js i (omega arith) below
    ∙ ap (λ k. get_or t k 0) (omega arith)
    ∙ ap (λ k. get_or t k 0) is ∙ sym (get_or-map (λ x. get_or t (g x) 0) v i 0 0 within))

pub columns_are : (t v : List ℕ) → length v ≡ 16 → Each1 (Fits w8) v → swz_l w8 16 t 0 (zip2 bit_and v (replicate 16 15)) ≡ map (column_of t) v
columns_are t v n fits = looked_up t (λ x. bit_and x 15) v _ n fits (zip2_splat bit_and v 16 15 n) (λ x h. omega (arith, and_le_r x 15))

pub rows_are : (v : List ℕ) → length v ≡ 16 → Each1 (Fits w8) v → swz_l w8 16 ROW_BITS 0 (zip2 down v (replicate 16 4)) ≡ map row_of v
rows_are v n fits = looked_up ROW_BITS (λ x. x / 16) v _ n fits (zip2_splat down v 16 4 n) (λ x h. omega arith)

both_are : (t v a b : List ℕ) → a ≡ map (column_of t) v → b ≡ map row_of v → zip2 bit_and a b ≡ map (λ x. bit_and (column_of t x) (row_of x)) v
both_are t v a b e f = ap (λ z. zip2 bit_and z b) e ∙ ap (zip2 bit_and (map (column_of t) v)) f ∙ zip2-map bit_and (column_of t) row_of v

pub outsiders_are : (t v a b : List ℕ) → length v ≡ 16 → a ≡ map (column_of t) v → b ≡ map row_of v
    → mask_l (map (top 7) (zip2 (λ x y. cond (eqb x y) 255 0) (zip2 bit_and a b) (replicate 16 0))) % 2 ^ 64 ≡ mask_l (map (outside t) v)
outsiders_are t v a b n e f =
    let both = both_are t v a b e f in
    let long : length (zip2 bit_and a b) ≡ 16 = ap length both ∙ length-map v (λ x. bit_and (column_of t x) (row_of x)) ∙ n in
    bitmask_splat w8 eqb (zip2 bit_and a b) 16 0 long (omega arith) ∙ ap (λ z. mask_l (map (λ x. eqb x 0) z)) both ∙ ap mask_l (map-map (λ x. eqb x 0) (λ x. bit_and (column_of t x) (row_of x)) v)

-- no outsider in the next 16 bytes
pub none_outside : (p : ℕ → Bool) (s : List ℕ) (n m : ℕ) → n + 16 ≤ length s → m ≡ mask_l (map p (chunk n 16 s)) → m ≡ 0 → ((k : ℕ) → k < n → p (get_or s k 0) ≡ false) → (k : ℕ) → k < n + 16 → p (get_or s k 0) ≡ false
none_outside p s n m room is none below k h = elim (cases_lt k n) [ inl l ↦ below k l | inr g ↦ none_from_empty_mask p s n 16 0 room (sym is ∙ none) k g h ]

-- an outsider among them, and how many bytes come before the first
before : (p : ℕ → Bool) (s : List ℕ) (n m : ℕ) → n + 16 ≤ length s → m ≡ mask_l (map p (chunk n 16 s)) → 0 < m → count_trailing_zeros 64 m ≡ prefix_len (λ x. not (p x)) (chunk n 16 s)
before p s n m room is some = ap (count_trailing_zeros 64) is ∙ trailing_mask_l p 64 (chunk n 16 s) (omega (arith, length-chunk n 16 s room)) (omega arith)

under : (b : Bool) (n t l : ℕ) → 0 < cond b 1 0 + 2 * n → (0 < n → t < l) → cond (not b) (1 + t) 0 < suc l
under true n t l some h = omega arith
under false n t l some h = omega (arith, h (omega arith))

-- where a bit is set, not all are before the first
not_all : (p : ℕ → Bool) (xs : List ℕ) → 0 < mask_l (map p xs) → prefix_len (λ x. not (p x)) xs < length xs
not_all p [] some = absurd (omega arith)
not_all p (x ∷ xs) some = under (p x) (mask_l (map p xs)) (prefix_len (λ y. not (p y)) xs) (length xs) some (not_all p xs)

none_before : (p : ℕ → Bool) (s : List ℕ) (n m : ℕ) → n + 16 ≤ length s → m ≡ mask_l (map p (chunk n 16 s)) → 0 < m → ((k : ℕ) → k < n → p (get_or s k 0) ≡ false) → (k : ℕ) → k < n + count_trailing_zeros 64 m → p (get_or s k 0) ≡ false
none_before p s n m room is some below k h = elim (cases_lt k n) [ inl l ↦ below k l | inr g ↦ run_in_chunk_fails p s n 16 _ 0 room (before p s n m room is some) k g h ]

pub first_found : (p : ℕ → Bool) (s : List ℕ) (n m : ℕ) → n + 16 ≤ length s → m ≡ mask_l (map p (chunk n 16 s)) → 0 < m → ((k : ℕ) → k < n → p (get_or s k 0) ≡ false) → Until p s (n + count_trailing_zeros 64 m)
first_found p s n m room is some below =
    let r = before p s n m room is some in
    let short : count_trailing_zeros 64 m < 16 = omega (arith, r, not_all p (chunk n 16 s) (omega arith), length-chunk n 16 s room) in record {
      within = omega (arith, run_in_chunk_le p s n 16 _ 0 room r);
      inside = none_before p s n m room is some below;
      stops = λ _. run_in_chunk_stops p s n 16 _ 0 room r short;
    }

-- a mask of bytes among which one passes p
some_at : (p : ℕ → Bool) (s r : List ℕ) (x : ℕ) → p x ≡ true → 0 < mask_l (map p (s ++ x ∷ r))
some_at p [] r x at = subst (λ b. 0 < cond b 1 0 + 2 * mask_l (map p r)) (sym at) (omega arith)
some_at p (y ∷ s) r x at = omega (arith, some_at p s r x at)

before_seam : (q : ℕ → Bool) (s r : List ℕ) (x : ℕ) → q x ≡ false → prefix_len q (s ++ x ∷ r) ≡ prefix_len q s
before_seam q [] r x at = ap (λ b. cond b (1 + prefix_len q r) 0) at
before_seam q (y ∷ s) r x at = ap (λ n. cond (q y) (1 + n) 0) (before_seam q s r x at)

-- the bytes s before one that passes p: how many come before the first that passes p
pub front_found : (p : ℕ → Bool) (s r : List ℕ) (x m : ℕ) → length (s ++ x ∷ r) ≤ 64 → p x ≡ true → m ≡ mask_l (map p (s ++ x ∷ r)) → Until p s (count_trailing_zeros 64 m)
front_found p s r x m few at is =
    let q : ℕ → Bool = λ y. not (p y) in
    let n : count_trailing_zeros 64 m ≡ prefix_len q s =
    ap (count_trailing_zeros 64) is ∙ trailing_mask_l p 64 (s ++ x ∷ r) few (some_at p s r x at) ∙ before_seam q s r x (ap not at) in record {
      within = omega (arith, n, prefix_len-le-length q s);
      inside = λ k h. not-true _ (prefix_len_passes q s k 0 (omega (arith, n)));
      stops = λ h. subst (λ j. p (get_or s j 0) ≡ true) (sym n) (not-false _ (prefix_len_stops q s 0 (omega (arith, n))));
    }

-- the bytes after the first n, of which none passes p
pub until_after : (p : ℕ → Bool) (s : List ℕ) (n r : ℕ) → n ≤ length s → ((k : ℕ) → k < n → p (get_or s k 0) ≡ false) → Until p (drop n s) r → Until p s (n + r)
until_after p s n r room below u = record {
  within = omega (arith, length-drop n s, u.within);
  inside = λ k h. elim (cases_lt k n) [
    | inl l ↦ below k l
    | inr g ↦
        let at : n + (k - n) ≡ k = omega arith in
        subst (λ x. p x ≡ false) (get_or-drop n s (k - n) 0 ∙ ap (λ j. get_or s j 0) at) (u.inside (k - n) (omega arith))
  ];
  stops = λ h. subst (λ x. p x ≡ true) (get_or-drop n s r 0) (u.stops (omega (arith, length-drop n s)));
}

-- a byte above ASCII is in no table
pub outside_beyond : (t : List ℕ) → outside t 255 ≡ true
outside_beyond t = eq-eqb _ _ (omega (arith, and_le_r (column_of t 255) 0))
