-- Printed texts: what is written, as the characters that it encodes.
use Rattle.std.proofs.Common.{◌≡◌, ℕ, zero, suc, ◌<◌, ◌≤◌, ◌^◌, ◌++◌, ◌==◌, ◌↔◌, Bool, IsTrue, List, [], ◌∷◌, ℤ, pos, negsuc, arith, sym, ap, ◌∙◌, length, append-nil, encode_utf8, String, string_bytes, string_len, Global}
use Rattle.kdl_text.proofs.Looking.Texts.{bytes-encodes}
use Rattle.kdl_text.specs.Spans.{bytes}
use Rattle.std.proofs.lemmas.Bool.Decides.{Decides-at, Decides-like, Decides-eqb}
use Rattle.std.proofs.lemmas.List.{nil_from_length}
use Rattle.std.proofs.Output.{has_written_append, has_written_of_eq}
use Rattle.std.proofs.lemmas.Fmt.{IsAscii-decimal_wide}
use Rattle.std.proofs.lemmas.Str.{encodes-append, encodes-IsAscii, chars-nil, length-le-encodes}
use Rattle.std.specs.Fmt.{signed_decimal, HasWritten}
use Rattle.std.specs.declared.fmt.Formatter.{Formatter}
use Rattle.std.specs.Int.Signed.{mag}
use Rattle.std.specs.Str.{IsAscii, chars, encode_utf8_all}

-- two texts in a row
pub encoded_append : (s t : List ℕ) → encode_utf8_all (s ++ t) ≡ encode_utf8_all s ++ encode_utf8_all t
encoded_append s t = encodes-append s t

pub no_chars : chars [] ≡ []
no_chars = chars-nil

signed_ascii : (z : ℤ) → mag z < 2 ^ 127 → IsAscii (signed_decimal z)
signed_ascii (pos n) h i = IsAscii-decimal_wide n (omega arith) i
signed_ascii (negsuc n) h zero = omega arith
signed_ascii (negsuc n) h (suc i) = IsAscii-decimal_wide (suc n) (omega arith) i

-- a number of 128 bits is printed in ASCII
pub signed_bytes : (z : ℤ) → mag z < 2 ^ 127 → signed_decimal z ≡ encode_utf8_all (signed_decimal z)
signed_bytes z h = sym (encodes-IsAscii (signed_decimal z) (signed_ascii z h))

-- a character alone
pub char_bytes : (c : ℕ) → encode_utf8 c ≡ encode_utf8_all (c ∷ [])
char_bytes c = sym (append-nil (encode_utf8 c))

-- the length of a printed text
pub printed_len : (s : String Global) (t : List ℕ) → string_bytes s ≡ encode_utf8_all t → string_len s ≡ bytes t
printed_len s t e = s.bytes.ok.0 ∙ ap length e ∙ sym (bytes-encodes t)

-- a printed text is empty exactly where its length is 0
pub printed_empty : (s : String Global) (t : List ℕ) (b : Bool) → string_bytes s ≡ encode_utf8_all t → b ≡ (string_len s == 0) → IsTrue b ↔ (t ≡ [])
printed_empty s t b e is =
    let long : length t ≤ length (string_bytes s) = omega (arith, ap length e, length-le-encodes t) in
    let count : string_len s ≡ length (string_bytes s) = s.bytes.ok.0 in
    let nothing : string_len s ≡ 0 → t ≡ [] = λ h. nil_from_length t (omega arith) in
    let some : t ≡ [] → string_len s ≡ 0 = λ h. count ∙ ap length (e ∙ ap encode_utf8_all h) in
    Decides-at _ _ is (Decides-like _ nothing some (Decides-eqb (string_len s) 0))

-- two writes in a row
module _ {W : Type 0} (took : W → List ℕ → W → Type 0) where
  pub then_writes : {f g h : Formatter W} (s t : List ℕ)
      → HasWritten took f (encode_utf8_all s) g → HasWritten took g (encode_utf8_all t) h → HasWritten took f (encode_utf8_all (s ++ t)) h
  then_writes s t one two = has_written_of_eq took _ _ _ _ (sym (encoded_append s t)) (has_written_append took _ _ _ _ _ one two)
