-- Keywords: a text begins with one at most.
use Rattle.std.proofs.Common.{◌≡◌, ℕ, [], ◌∷◌, ◌++◌, Bool, true, false, ◌==◌, refl, ap, sym, ◌∙◌, arith, Some, None, ◌↔◌, inl, inr, IsTrue, lit<, zero, suc}
use Rattle.std.proofs.lemmas.Bool.{and_parts}
use Rattle.std.proofs.lemmas.List.{append_cancel_right}
use Rattle.std.specs.Prelude.{if◌then◌else◌, Option, codes, nat_lt}
use Rattle.std.specs.List.{list_all}
use Rattle.std.specs.Str.{chars, IsAscii}
use Rattle.std.proofs.lemmas.Str.{chars-IsAscii}
use borrow.Author.Tests.{ltb-true}
use Rattle.kdl_text.specs.Chars.{Text, is_identifier_char, is_space, is_newline_char, is_banned, is_punctuation, starts}
use Rattle.kdl_text.specs.Internal.Here.{Here, Took, Ran, sliced}
use Rattle.kdl_text.specs.Spans.{bytes}
use Rattle.kdl_text.specs.Internal.Reading.{Moves}
use Rattle.kdl_text.specs.Numbers.{IsKeyword, keyword, keyword_text, FloatKeyword}
use Rattle.kdl_text.specs.Internal.NumberReading.{ReadsKeyword, WordOf}
use Rattle.kdl_text.specs.declared.numbers.Keyword.{Keyword}
use Rattle.kdl_text.specs.declared.numbers.Keyword.TheVariants.{True, False, Null, Infinity, NegativeInfinity, NotANumber}
use Rattle.kdl_text.proofs.Looking.MovesJoin.{bytes-append, moves_then, moves_one}
use Rattle.kdl_text.proofs.Quoted.UnitUnique.{run_same}

-- the word after the `#`
abbrev pub word : Keyword → Text
word True = codes "true"
word False = codes "false"
word Null = codes "null"
word Infinity = codes "inf"
word NegativeInfinity = codes "-inf"
word NotANumber = codes "nan"

-- what holds of each keyword
pub by_keyword : (P : Keyword → Type 0) → P True → P False → P Null → P Infinity → P NegativeInfinity → P NotANumber → (k : Keyword) → P k
by_keyword P a b c d e f True = a
by_keyword P a b c d e f False = b
by_keyword P a b c d e f Null = c
by_keyword P a b c d e f Infinity = d
by_keyword P a b c d e f NegativeInfinity = e
by_keyword P a b c d e f NotANumber = f

text_of : (k : Keyword) → keyword_text k ≡ 35 ∷ word k
text_of = by_keyword (λ k. keyword_text k ≡ 35 ∷ word k) refl refl refl refl refl refl

word_all : (k : Keyword) → list_all is_identifier_char (word k) ≡ true
unfolding is_identifier_char is_space is_newline_char is_banned is_punctuation
word_all = by_keyword (λ k. list_all is_identifier_char (word k) ≡ true) refl refl refl refl refl refl

-- a keyword by the first two characters of its word
abbrev pub which : Text → Keyword
which [] = True
which (c ∷ []) = True
which (c ∷ d ∷ s) =
    if c == 116 then True
    else if c == 102 then False
    else if c == 105 then Infinity
    else if c == 45 then NegativeInfinity
    else if d == 117 then Null
    else NotANumber

which_is : (k : Keyword) → which (word k) ≡ k
which_is = by_keyword (λ k. which (word k) ≡ k) refl refl refl refl refl refl

same_word : (k x : Keyword) → word k ≡ word x → k ≡ x
same_word k x e = sym (which_is k) ∙ ap which e ∙ which_is x

-- a keyword is at the front of a text whose word is known
pub keyword_is : (t p rest r : Text) (x : Keyword) → t ≡ 35 ∷ (p ++ rest) → list_all is_identifier_char p ≡ true → starts is_identifier_char rest ≡ false → IsKeyword t r x → (word x ≡ p) × (r ≡ rest)
keyword_is t p rest r x e a n (keyword f m) =
    let g : 35 ∷ (word x ++ r) ≡ 35 ∷ (p ++ rest) = ap (λ z. z ++ r) (sym (text_of x)) ∙ sym f ∙ e in
    let h : word x ++ r ≡ p ++ rest = cc in
    run_same is_identifier_char (word x) p r rest (word_all x) a m n h

-- a text begins with one keyword at most
pub keyword_det : {t r s : Text} {x y : Keyword} → IsKeyword t r x → IsKeyword t s y → (r ≡ s) × (x ≡ y)
keyword_det {t = t} {r = r} {s = s} {x = x} {y = y} i (keyword f m) =
    let e = keyword_is t (word y) s r x (f ∙ ap (λ z. z ++ s) (text_of y)) (word_all y) m i in
    (e.1, same_word x y e.0)

-- a keyword is `#` and an identifier character, and more
word_starts : (k : Keyword) → starts is_identifier_char (word k) ≡ true
unfolding is_identifier_char is_space is_newline_char is_banned is_punctuation
word_starts = by_keyword (λ k. starts is_identifier_char (word k) ≡ true) refl refl refl refl refl refl

started : (p : ℕ → Bool) (s r : Text) → starts p s ≡ true → (c : ℕ) × (w : Text) × (35 ∷ (s ++ r) ≡ 35 ∷ c ∷ w) × (p c ≡ true)
started p [] r h = cc
started p (c ∷ s) r h = (c, s ++ r, refl, h)

pub keyword_begins : {t r : Text} {k : Keyword} → IsKeyword t r k → (c : ℕ) × (s : Text) × (t ≡ 35 ∷ c ∷ s) × (is_identifier_char c ≡ true)
keyword_begins {r = r} {k = k} (keyword f m) =
    let (c, s, e, i) = started is_identifier_char (word k) r (word_starts k) in
    (c, s, f ∙ ap (λ z. z ++ r) (text_of k) ∙ e, i)

pub keyword_read : (o : Option Keyword) (t p rest : Text) → t ≡ 35 ∷ (p ++ rest) → list_all is_identifier_char p ≡ true → starts is_identifier_char rest ≡ false → WordOf o p → ReadsKeyword o t rest
keyword_read (Some k) t p rest e a n w =
    let found : IsKeyword t rest k = keyword (e ∙ ap (λ z. z ++ rest) (sym w)) n in
    λ r x. (λ i. keyword_det i found, λ (u, v). rw (u, v) found)
keyword_read None t p rest e a n w = λ r x i. let h = (keyword_is t p rest r x e a n i).0 in w x (text_of x ∙ ap (λ z. 35 ∷ z) h)

ascii : (s : Text) → list_all (λ c. nat_lt c 128) s ≡ true → IsAscii s
ascii [] h i = lit< tt
ascii (c ∷ s) h zero = ltb-true c 128 (and_parts (nat_lt c 128) (list_all (λ c. nat_lt c 128) s) h).0
ascii (c ∷ s) h (suc i) = ascii s (and_parts (nat_lt c 128) (list_all (λ c. nat_lt c 128) s) h).1 i

word_ascii : (k : Keyword) → list_all (λ c. nat_lt c 128) (word k) ≡ true
word_ascii = by_keyword (λ k. list_all (λ c. nat_lt c 128) (word k) ≡ true) refl refl refl refl refl refl

ascii_same : (s : Text) → list_all (λ c. nat_lt c 128) s ≡ true → chars s ≡ s
ascii_same s h = chars-IsAscii s (ascii s h)

chars_word : (k : Keyword) → chars (word k) ≡ word k
chars_word k = ascii_same (word k) (word_ascii k)

-- the word of a keyword, as a test of the text's bytes finds it
pub word_of : (k : Keyword) (p : Text) → p ≡ chars (word k) → keyword_text k ≡ 35 ∷ p
word_of k p e = text_of k ∙ ap (λ z. 35 ∷ z) (sym (e ∙ chars_word k))

abbrev pub IsNot : Text → Keyword → Type 0
IsNot p k = p ≡ chars (word k) → IsTrue false

pub no_word : (p : Text) → ((k : Keyword) → IsNot p k) → (k : Keyword) → keyword_text k ≡ 35 ∷ p → ⊥
no_word p n k e =
    let h : 35 ∷ word k ≡ 35 ∷ p = sym (text_of k) ∙ e in
    let g : p ≡ word k = cc in
    let x = n k (g ∙ sym (chars_word k)) in cc

-- the word after a `#`, cut out
pub keyword_here : (o : Option Keyword) (p run : Text) (a b d e : Here) → Took (Some 35) a b → Ran is_identifier_char run b d → b.rest ≡ p ++ d.rest → e ≡ sliced p d → WordOf o p → ReadsKeyword o a.rest e.rest
keyword_here o p run a b d e t s x m w =
    let same : run ≡ p = append_cancel_right run p d.rest (sym s.text ∙ x) in
    let rest : e.rest ≡ d.rest = ap (λ h. h.rest) m in
    keyword_read o a.rest p e.rest (t.0 ∙ ap (λ z. 35 ∷ z) (x ∙ ap (λ z. p ++ z) (sym rest))) (rw (← same) s.all) (rw rest s.stops) w

pub keyword_moves : (p run : Text) (a b d e : Here) → Took (Some 35) a b → Ran is_identifier_char run b d → e ≡ sliced p d → Moves a e
keyword_moves p run a b d e t s m =
    moves_then (moves_one t) (rw m (record { piece = (run, s.text); at = omega (arith, s.at, ap bytes s.text, bytes-append run d.rest); counts = omega (arith, s.steps); same = s.same }))

-- the texts of the keywords that are numbers, in memory
pub infinity_text : chars (codes "#inf") ≡ codes "#inf"
infinity_text = ascii_same (codes "#inf") refl

pub negative_text : chars (codes "#-inf") ≡ codes "#-inf"
negative_text = ascii_same (codes "#-inf") refl

pub nan_text : chars (codes "#nan") ≡ codes "#nan"
nan_text = ascii_same (codes "#nan") refl

pub float_is : {t : Text} {b : Bool} → (t ≡ chars (codes "#inf") → IsTrue false) → (t ≡ chars (codes "#-inf") → IsTrue false) → IsTrue b ↔ (t ≡ chars (codes "#nan")) → IsTrue b ↔ FloatKeyword t
float_is {t = t} {b = b} f g h = (λ y. inr (inr (h.0 y ∙ nan_text)), from)
  where
    from : FloatKeyword t → IsTrue b
    from (inl e) = let x = f (e ∙ sym infinity_text) in cc
    from (inr (inl e)) = let x = g (e ∙ sym negative_text) in cc
    from (inr (inr e)) = h.1 (e ∙ sym nan_text)
