-- The bytes of a text.
use Rattle.std.proofs.Common.{◌≡◌, ℕ, List, IsUtf8, chars, encode_utf8_all}
use Rattle.std.proofs.lemmas.Str.{encodes-chars}

-- the characters of a text give its bytes
pub text_bytes : (s : List ℕ) → IsUtf8 s → encode_utf8_all (chars s) ≡ s
text_bytes s u = encodes-chars s u
