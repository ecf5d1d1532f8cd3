-- The number that digits write, and the length that a line gives.
use Rattle.std.proofs.Common.{◌≡◌, ℕ, ◌+◌, ◌*◌, ◌^◌, ◌<◌, ◌≤◌, ◌↔◌, Bool, true, false, IsTrue, None, Some, option_and_then, List, [], ◌∷◌, get_or, length, take, drop, map, codes, sym, ap, ◌∙◌, arith}
use Rattle.std.specs.Char.{digit_value, is_ascii_digit, to_ascii_lowercase}
use Rattle.std.specs.Str.{all_ascii_digits, str_eq_ignore_ascii_case}
use Rattle.std.specs.Str.Parse.{digits_value, digits_value_after}
use Rattle.std.proofs.lemmas.Bool.{and_from, and_left, and_right, cond-true, cond-false, le-ltb, lt-ltb}
use Rattle.std.proofs.lemmas.Bool.Decides.{same_from_decides}
use Rattle.std.proofs.lemmas.List.{drop_all, drop_more}
use Rattle.std.proofs.lemmas.Slice.Eq.{bytes_eq-Decides}
use Rattle.lsp_frames.specs.Heads.{length_of_line, number, place_of, trimmed}

pub number_empty : (ds : List ℕ) → length ds ≤ 0 → None ≡ number ds
unfolding number
number_empty ds h = sym (cond-false _ _ _ (and_left _ _ (le-ltb 0 (length ds) h)))

number_other : (ds : List ℕ) → all_ascii_digits ds ≡ false → None ≡ number ds
unfolding number
number_other ds h = sym (cond-false _ _ _ (and_right _ _ (and_left _ _ h)))

number_big : (ds : List ℕ) → 2 ^ 64 ≤ digits_value 10 ds → None ≡ number ds
unfolding number
number_big ds h = sym (cond-false _ _ _ (and_right _ _ (and_right _ _ (le-ltb (digits_value 10 ds) (2 ^ 64) h))))

pub number_fits : (ds : List ℕ) → 0 < length ds → all_ascii_digits ds ≡ true → digits_value 10 ds < 2 ^ 64 → Some (digits_value 10 ds) ≡ number ds
unfolding number
number_fits ds some digits fits =
    sym (cond-true _ _ _ (and_from _ _ (lt-ltb 0 (length ds) some) (and_from _ _ digits (lt-ltb (digits_value 10 ds) (2 ^ 64) fits))))

value_grows : (n : ℕ) (ds : List ℕ) → n ≤ digits_value_after 10 n ds
value_grows n [] = omega arith
value_grows n (d ∷ ds) = omega (arith, value_grows (n * 10 + digit_value d) ds)

-- the digit at i is none
pub number_stops : (ds : List ℕ) (i : ℕ) → all_ascii_digits (drop i ds) ≡ all_ascii_digits ds → i < length ds → is_ascii_digit (get_or ds i 0) ≡ false → None ≡ number ds
number_stops ds i same l h = number_other ds (sym same ∙ ap all_ascii_digits (drop_more ds i 0 l) ∙ and_left _ _ h)

-- the number grows too large at the digit at i
pub number_overflows : (ds : List ℕ) (n i : ℕ) → digits_value_after 10 n (drop i ds) ≡ digits_value 10 ds → i < length ds → 2 ^ 64 ≤ n * 10 + digit_value (get_or ds i 0) → None ≡ number ds
number_overflows ds n i same l h =
    number_big ds (omega (arith, sym same ∙ ap (digits_value_after 10 n) (drop_more ds i 0 l), value_grows (n * 10 + digit_value (get_or ds i 0)) (drop (i + 1) ds)))

-- all digits are read
pub number_ends : (ds : List ℕ) (n i : ℕ) → 0 < length ds → n < 2 ^ 64 → digits_value_after 10 n (drop i ds) ≡ digits_value 10 ds → all_ascii_digits (drop i ds) ≡ all_ascii_digits ds → length ds ≤ i → Some n ≡ number ds
number_ends ds n i some fits value digits l =
    let e : n ≡ digits_value 10 ds = sym (ap (digits_value_after 10 n) (drop_all i ds l)) ∙ value in
    ap Some e ∙ number_fits ds some (sym digits ∙ ap all_ascii_digits (drop_all i ds l)) (omega arith)

pub same_names : (r : Bool) (a b : List ℕ) → (IsTrue r ↔ (map to_ascii_lowercase a ≡ map to_ascii_lowercase b)) → r ≡ str_eq_ignore_ascii_case a b
same_names r a b h = same_from_decides r (str_eq_ignore_ascii_case a b) h (bytes_eq-Decides (map to_ascii_lowercase a) (map to_ascii_lowercase b))

pub line_without_colon : (line : List ℕ) → place_of (codes ":") line ≡ None → None ≡ length_of_line line
unfolding length_of_line
line_without_colon line e = sym (ap (option_and_then _) e)

pub line_of_other : (line : List ℕ) (colon : ℕ) → place_of (codes ":") line ≡ Some colon → str_eq_ignore_ascii_case (take colon line) (codes "content-length") ≡ false → None ≡ length_of_line line
unfolding length_of_line
line_of_other line colon e h = sym (ap (option_and_then _) e ∙ cond-false _ _ _ h)

pub line_of_length : (line : List ℕ) (colon : ℕ) → place_of (codes ":") line ≡ Some colon → str_eq_ignore_ascii_case (take colon line) (codes "content-length") ≡ true → number (trimmed (drop (colon + 1) line)) ≡ length_of_line line
unfolding length_of_line
line_of_length line colon e h = sym (ap (option_and_then _) e ∙ cond-true _ _ _ h)
