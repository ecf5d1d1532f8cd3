-- What the levels of a walk in memory say.
use Rattle.std.proofs.Common.{◌≡◌, ℕ, ◌-◌, ◌<◌, ◌≤◌, suc, List, [], ◌∷◌, ◌++◌, length, map, Option, Some, None, option_map, slice_get, slice_index_or, slice_set, take, refl, ap, ◌∙◌, sym, arith}
use Rattle.std.proofs.Math.Seq.{take-append_seam}
use Rattle.std.proofs.lemmas.List.{drop_all, length-append, set-get_or, set_split}
use Rattle.std.specs.List.{last_or}
use Rattle.kdl_query.specs.Internal.Visits.{level_says, path_of}
use Rattle.kdl_query.specs.declared.walk.Level.{Level}

pub path_mapped : (ls : List Level) → map (λ (l : Level). l.current) ls ≡ path_of (map level_says ls)
path_mapped [] = refl
path_mapped (l ∷ ls) = ap (λ p. l.current ∷ p) (path_mapped ls)

last_there : (l : Level) (ls : List Level) → slice_get (l ∷ ls) (length ls) ≡ last_or (Some l) ls
last_there l [] = refl
last_there l (k ∷ ls) = let e : length (k ∷ ls) ≡ suc (length ls) = omega arith in ap (slice_get (l ∷ k ∷ ls)) e ∙ last_there k ls

said_last : (o : Option Level) (ls : List Level) → last_or (option_map level_says o) (map level_says ls) ≡ option_map level_says (last_or o ls)
said_last o [] = refl
said_last o (l ∷ ls) = said_last (Some l) ls

pub last_said : (ls : List Level) (l : Level) → Some l ≡ slice_get ls (length ls - 1) → last_or None (map level_says ls) ≡ Some (level_says l)
last_said [] l e = absurd (cc)
last_said (k ∷ ls) l e =
    let i : length (k ∷ ls) - 1 ≡ length ls = omega arith in
    said_last None (k ∷ ls) ∙ ap (option_map level_says) (sym (last_there k ls) ∙ ap (slice_get (k ∷ ls)) (sym i) ∙ sym e)

-- a list with another last item, and its last item
pub set_last : {X : Type 0} (n : ℕ) (xs : List X) (y : X) → n ≡ length xs → 0 < n → slice_set xs (n - 1) y ≡ take (n - 1) xs ++ y ∷ []
set_last n xs y e h =
    let within : n - 1 < length xs = omega (arith, e, h) in
    let past : length xs ≤ suc (n - 1) = omega (arith, e, h) in
    set_split xs (n - 1) y within ∙ ap (λ d. take (n - 1) xs ++ y ∷ d) (drop_all (suc (n - 1)) xs past)

pub ends_in : {X : Type 0} (n : ℕ) (xs : List X) (y : X) → n ≡ length xs → 0 < n → y ≡ slice_index_or xs (n - 1) y → xs ≡ take (n - 1) xs ++ y ∷ []
ends_in n xs y e h g = sym (ap (slice_set xs (n - 1)) g ∙ set-get_or xs (n - 1) y) ∙ set_last n xs y e h

-- without its last item
pub front_kept : {X : Type 0} (front : List X) (y : X) (xs : List X) → xs ≡ front ++ y ∷ [] → take (length xs - 1) xs ≡ front
front_kept front y xs e =
    let whole = length-append front (y ∷ []) in
    let one : length (front ++ y ∷ []) - 1 ≡ length front = omega (arith, whole) in
    ap (λ zs. take (length zs - 1) zs) e ∙ ap (λ i. take i (front ++ y ∷ [])) one ∙ take-append_seam front (y ∷ [])
