-- A text that begins with an ASCII character, and its first byte.
use Rattle.std.proofs.Common.{◌≡◌, ℕ, ◌<◌, false, List, [], ◌∷◌, ◌++◌, length, drop, get_or, refl, ap, sym, ◌∙◌, arith, IsUtf8, chars}
use Rattle.std.proofs.lemmas.Bool.{ne_eqb}
use Rattle.std.proofs.lemmas.Str.{byte_from_char, chars-nil, encodes-chars, chars_past_char, encode_ascii, len_utf8_ascii}
use Rattle.kdl_text.specs.Chars.{begins}
use Rattle.kdl_text.specs.Internal.Here.{PastChar}
use lib.Utf8.{encodes, encode}

-- another byte begins no text of c
other_byte : (c : ℕ) (s cs : List ℕ) → c < 128 → encodes cs ≡ s → (get_or s 0 0 ≡ c → ⊥) → begins c cs ≡ false
other_byte c s [] low e other = refl
other_byte c s (d ∷ cs) low e other = ne_eqb d c (λ x. other (byte_from_char s (encodes cs) c (sym e ∙ ap (λ z. encode z ++ encodes cs) x) low))

pub begins_no : (c : ℕ) (s : List ℕ) → c < 128 → IsUtf8 s → (get_or s 0 0 ≡ c → ⊥) → begins c (chars s) ≡ false
begins_no c s low u other = other_byte c s (chars s) low (encodes-chars s u) other

pub begins_none : (c : ℕ) (s : List ℕ) → IsUtf8 s → length s ≡ 0 → begins c (chars s) ≡ false
begins_none c [] u e = ap (begins c) chars-nil
begins_none c (b ∷ s) u e = absurd (omega (arith, e))

-- past that byte
starts_with : (s : List ℕ) → 0 < length s → s ≡ get_or s 0 0 ∷ drop 1 s
starts_with [] some = absurd (omega arith)
starts_with (b ∷ s) some = refl

pub past_byte : (c : ℕ) (s r : List ℕ) → c < 128 → IsUtf8 s → 0 < length s → get_or s 0 0 ≡ c → r ≡ drop 1 s → PastChar c s r
past_byte c s r low u some is e =
    let whole : s ≡ encode c ++ r = starts_with s some ∙ ap (λ z. z ∷ drop 1 s) is ∙ ap (λ z. c ∷ z) (sym e) ∙ ap (λ z. z ++ r) (sym (encode_ascii c low)) in
    record {
      text = chars_past_char s r c u whole;
      len = omega (arith, ap length (starts_with s some), ap length e, len_utf8_ascii c low);
    }
