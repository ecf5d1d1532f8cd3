-- The UTF-8 of a text, part by part.
use Rattle.kdl_parts.proofs.Common.{◌≡◌, ℕ, ◌+◌, ◌*◌, [], ◌∷◌, ◌++◌, arith, refl, replicate, common_steps, encodes-append, chars-nil, encode_utf8, encode_utf8_all}
use Rattle.std.proofs.lemmas.List.{replicate-append-replicate}
use Rattle.std.proofs.lemmas.Str.{encode_ascii}

-- a space, a newline and the braces are one byte each
pub space_is : encode_utf8 32 ≡ 32 ∷ []
space_is = encode_ascii 32 (omega arith)

pub newline_is : encode_utf8 10 ≡ 10 ∷ []
newline_is = encode_ascii 10 (omega arith)

pub opening_is : encode_utf8 123 ≡ 123 ∷ []
opening_is = encode_ascii 123 (omega arith)

pub closing_is : encode_utf8 125 ≡ 125 ∷ []
closing_is = encode_ascii 125 (omega arith)

-- four more spaces
pub spaces_more : (n : ℕ) → encode_utf8_all (replicate (4 * n) 32) ++ (32 ∷ 32 ∷ 32 ∷ 32 ∷ []) ≡ encode_utf8_all (replicate (4 * (n + 1)) 32)
spaces_more n =
    let k : 4 * (n + 1) ≡ 4 * n + 4 = omega arith in
    rw (k, ← replicate-append-replicate {A = ℕ} (4 * n) 4 32, encodes-append (replicate (4 * n) 32) (replicate 4 32), space_is) refl

-- what joins several writes to one
pub ruleset writes = (common_steps, encodes-append, chars-nil, space_is, newline_is, opening_is, closing_is)
