-- What the readers of hints pass.
use Rattle.std.proofs.Common.{◌≡◌, ℕ, Bool, cond, nat_lt, true, false, List, [], ◌∷◌, ◌++◌, Option, None, Some, option_map, Bor, chars, codes, sym, ap, ◌∙◌, append_assoc, refl}
use Rattle.std.proofs.lemmas.List.Sums.{take_while-cons}
use Rattle.std.proofs.lemmas.Slice.Eq.{bytes_eq-Decides}
use Rattle.std.proofs.lemmas.Str.{chars-IsAscii, encodes-IsAscii, encodes-chars}
use Rattle.std.proofs.lemmas.Str.Ascii.{IsAscii-cons, IsAscii-nil}
use Rattle.std.proofs.lemmas.Bool.{and_parts}
use borrow.Author.Tests.{ltb-true}
use Rattle.std.specs.List.{list_all}
use lib.Utf8.{encodes}
use Rattle.std.specs.Str.{IsAscii, IsUtf8, bytes_eq}
use Rattle.kdl_text.specs.Chars.{Text, is_identifier_char}
use Rattle.kdl_report.specs.Hints.{keyword_hint, word}

-- a character of the word
pub word_more : (c : ℕ) (s : Text) → is_identifier_char c ≡ true → word (c ∷ s) ≡ c ∷ word s
word_more c s h = take_while-cons is_identifier_char c s ∙ ap (λ b. cond b (c ∷ word s) []) h

pub word_on : (t p s rest : Text) (c : ℕ) → t ≡ p ++ s → word t ≡ p ++ word s → s ≡ c ∷ rest → is_identifier_char c ≡ true → (q : Text) × (t ≡ q ++ rest) × (word t ≡ q ++ word rest)
word_on t p s rest c h w e i =
    let more : word s ≡ c ∷ word rest = ap word e ∙ word_more c rest i in
    (p ++ c ∷ [], h ∙ ap (λ z. p ++ z) e ∙ sym (append_assoc p (c ∷ []) rest), w ∙ ap (λ z. p ++ z) more ∙ sym (append_assoc p (c ∷ []) (word rest)))

-- a word in ASCII is its own characters and bytes
ascii : (k : List ℕ) → list_all (λ c. nat_lt c 128) k ≡ true → IsAscii k
ascii [] h = IsAscii-nil
ascii (c ∷ k) h = let p = and_parts (nat_lt c 128) (list_all (λ c. nat_lt c 128) k) h in IsAscii-cons c k (ltb-true c 128 p.0) (ascii k p.1)

pub hint_for : (w k : List ℕ) → list_all (λ c. nat_lt c 128) k ≡ true → w ≡ k → keyword_hint k ≡ keyword_hint (chars w)
hint_for w k h e = sym (ap (λ t. keyword_hint (chars t)) e ∙ ap keyword_hint (chars-IsAscii k (ascii k h)))

-- a text that is not a word in bytes is not that word
other_word : (w k : List ℕ) → IsUtf8 w → list_all (λ c. nat_lt c 128) k ≡ true → (w ≡ k → ⊥) → bytes_eq (chars w) k ≡ false
other_word w k u e n = go (bytes_eq (chars w) k) refl
  where
    go : (b : Bool) → bytes_eq (chars w) k ≡ b → bytes_eq (chars w) k ≡ false
    go false h = h
    go true h = absurd (n (sym (encodes-chars w u) ∙ ap encodes ((bytes_eq-Decides (chars w) k).0 h) ∙ encodes-IsAscii k (ascii k e)))

no_keyword : (t : Text) → bytes_eq t (codes "true") ≡ false → bytes_eq t (codes "false") ≡ false → bytes_eq t (codes "null") ≡ false → bytes_eq t (codes "nan") ≡ false → bytes_eq t (codes "inf") ≡ false → bytes_eq t (codes "-inf") ≡ false
    → None ≡ keyword_hint t
no_keyword t a b c d e f = rw (a, b, c, d, e, f) refl

pub no_hint : (w : List ℕ) → IsUtf8 w → (w ≡ codes "true" → ⊥) → (w ≡ codes "false" → ⊥) → (w ≡ codes "null" → ⊥) → (w ≡ codes "nan" → ⊥) → (w ≡ codes "inf" → ⊥) → (w ≡ codes "-inf" → ⊥) → None ≡ keyword_hint (chars w)
no_hint w u a b c d e f =
    no_keyword (chars w) (other_word w (codes "true") u refl a) (other_word w (codes "false") u refl b) (other_word w (codes "null") u refl c) (other_word w (codes "nan") u refl d) (other_word w (codes "inf") u refl e)
    (other_word w (codes "-inf") u refl f)

-- the hint as characters
pub hint_chars : (r : Option (Bor (List ℕ))) (h : Option (List ℕ)) → option_map (λ s. s.now) r ≡ h → option_map (λ s. chars s.now) r ≡ option_map chars h
hint_chars r h e = sym (twice r) ∙ ap (option_map chars) e
  where
    twice : (r : Option (Bor (List ℕ))) → option_map chars (option_map (λ s. s.now) r) ≡ option_map (λ s. chars s.now) r
    twice None = refl
    twice (Some s) = refl
