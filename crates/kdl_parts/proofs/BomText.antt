-- The text of one character.
use Rattle.kdl_parts.proofs.Common.{◌≡◌, List, ℕ, [], ◌∷◌, ◌++◌, ap, sym, ◌∙◌, chars-nil, encode_utf8, chars, IsUtf8}
use Rattle.std.proofs.Common.{append-nil}
use Rattle.std.proofs.lemmas.Str.{chars_past_char}

pub one_char : (c : ℕ) (bs ns : List ℕ) → bs ≡ [] → IsUtf8 ns → ns ≡ bs ++ encode_utf8 c → chars ns ≡ c ∷ []
one_char c bs ns e v f = chars_past_char ns [] c v (f ∙ ap (λ (z : List ℕ). z ++ encode_utf8 c) e ∙ sym (append-nil (encode_utf8 c))) ∙ ap (λ (z : List ℕ). c ∷ z) chars-nil
