-- The decimal digits of a number, from the first on.
use Rattle.std.proofs.Common.{◌≡◌, ℕ, ◌+◌, ◌/◌, ◌%◌, ◌^◌, ◌<◌, ◌≤◌, List, [], ◌∷◌, ◌++◌, length, take, set, refl, ap, ◌∙◌, sym, length-append}
use Rattle.std.specs.Prelude.{decimal}
use Rattle.std.proofs.lemmas.Fmt.{decimal_digit, decimal_step}
use Rattle.std.proofs.lemmas.Grind.{take-set_at}

pub one_long : (n : ℕ) → n < 10 → length (decimal n) ≡ 1
one_long n small = ap length (decimal_digit n small)

pub one_put : (n : ℕ) (buffer : List ℕ) → n < 10 → 0 < length buffer → take 1 (set buffer 0 (48 + n)) ≡ decimal n
one_put n buffer small room = take-set_at buffer 0 1 (48 + n) refl room ∙ sym (decimal_digit n small)

pub next_long : (n : ℕ) → 10 ≤ n → n < 2 ^ 64 → length (decimal n) ≡ length (decimal (n / 10)) + 1
next_long n large fits = ap length (decimal_step n large fits) ∙ length-append (decimal (n / 10)) ((48 + n % 10) ∷ [])

pub next_put : (n count : ℕ) (buffer : List ℕ) → 10 ≤ n → n < 2 ^ 64 → count < length buffer → take count buffer ≡ decimal (n / 10)
    → take (count + 1) (set buffer count (48 + n % 10)) ≡ decimal n
next_put n count buffer large fits room front =
    take-set_at buffer count (count + 1) (48 + n % 10) refl room ∙ ap (λ ds. ds ++ ((48 + n % 10) ∷ [])) front ∙ sym (decimal_step n large fits)
