-- The tables of ASCII characters, and runs of ASCII characters of a class.
use Rattle.std.proofs.Common.{◌≡◌, ℕ, ◌+◌, ◌<◌, ◌≤◌, zero, suc, Bool, true, false, not, ◌&&◌, List, [], ◌∷◌, ◌++◌, length, take, drop, get_or, refl, ap, sym, subst, ◌∙◌, arith, IsAscii, IsUtf8, IsCharBoundary, chars, length-append, length-take, take-suc, inl, inr, ltb-true, lt-ltb}
use Rattle.std.specs.Prelude.{nat_lt}
use Rattle.std.proofs.lemmas.Bool.{agree_below_at, and_parts, cases_lt, le-ltb, not-true, not-false}
use Rattle.std.proofs.Math.Bool.{not-not}
use Rattle.kdl_text.specs.Chars.{starts, is_space, is_newline_char, is_banned, is_punctuation, is_identifier_char, is_literal}
use Rattle.std.specs.List.{list_all}
use Rattle.std.proofs.lemmas.List.{get_or-drop, length-drop, take-append-drop}
use Rattle.std.proofs.lemmas.List.Folds.{list_all-append}
use Rattle.std.proofs.lemmas.Str.{byte_from_char, chars-append, chars-IsAscii, encodes-chars, IsUtf8-drop, IsUtf8-from_ascii, IsCharBoundary-from_take, length-encode, len_utf8_bounds}
use Rattle.std.proofs.lemmas.Str.Ascii.{IsAscii-nil, IsAscii-more}
use Rattle.kdl_text.specs.Internal.Here.{AsciiOf, in_class}
use Rattle.kdl_text.specs.Spans.{bytes}
use Rattle.kdl_text.proofs.Looking.Texts.{bytes-chars}
use Rattle.kdl_text.specs.Internal.Tables.{outside, TableOf, InsideLen}
use Rattle.kdl_text.specs.declared.chars.TheConstants.{IDENTIFIERS, LITERALS}
use Rattle.kdl_text.specs.declared.chars.Class.TheVariants.{Identifier, Literal}
use lib.Utf8.{encodes, encode}

pub table_of_identifier : TableOf (in_class Identifier) IDENTIFIERS
unfolding is_space is_newline_char is_banned is_punctuation is_identifier_char
table_of_identifier z = agree_below_at (outside IDENTIFIERS) (λ z. not (nat_lt z 128 && is_identifier_char z)) 256 z refl

pub table_of_literal : TableOf (in_class Literal) LITERALS
unfolding is_newline_char is_banned is_literal
table_of_literal z = agree_below_at (outside LITERALS) (λ z. not (nat_lt z 128 && is_literal z)) 256 z refl

pub table_tells : (p : ℕ → Bool) (t : List ℕ) (c : ℕ) → TableOf p t → c < 128 → not (outside t c) ≡ p c
table_tells p t c is l = rw (is c (omega arith), lt-ltb c 128 l) (not-not (p c))

-- the ASCII characters read so far
pub record AsciiSoFar (p : ℕ → Bool) (s : List ℕ) (count : ℕ) : Type 0 where
  pub few : count ≤ length s
  pub ascii : IsAscii (take count s)
  pub all : list_all p (take count s) ≡ true

pub ascii_begins : (p : ℕ → Bool) (s : List ℕ) → AsciiSoFar p s 0
ascii_begins p s = record { few = omega arith; ascii = IsAscii-nil; all = refl }

pub ascii_turn : (p : ℕ → Bool) (s : List ℕ) (n : ℕ) → AsciiSoFar p s n → n < length s → get_or s n 0 < 128 → p (get_or s n 0) ≡ true → AsciiSoFar p s (n + 1)
ascii_turn p s n i l a h = record {
  few = omega (arith, l);
  ascii = IsAscii-more s n l i.ascii a;
  all = let e : suc n ≡ n + 1 = omega arith in subst (λ k. list_all p (take k s) ≡ true) e (ap (list_all p) (take-suc s n 0 l) ∙ list_all-append p (take n s) (get_or s n 0 ∷ []) ∙ ap (λ b. b && (p (get_or s n 0) && true)) i.all ∙ ap (λ b. b && true) h);
}

-- bytes that are in the table of the class
inside_so_far : (p : ℕ → Bool) (t s : List ℕ) (n : ℕ) → TableOf p t → ((k : ℕ) → get_or s k 0 < 256) → n ≤ length s → ((k : ℕ) → k < n → outside t (get_or s k 0) ≡ false) → AsciiSoFar p s n
inside_so_far p t s zero is small h inside = ascii_begins p s
inside_so_far p t s (suc n) is small h inside =
    let c = get_or s n 0 in
    let (low, has) = and_parts (nat_lt c 128) (p c) (not-false _ (sym (is c (small n)) ∙ inside n (omega arith))) in
    let e : n + 1 ≡ suc n = omega arith in
    subst (AsciiSoFar p s) e (ascii_turn p s n (inside_so_far p t s n is small (omega arith) (λ k l. inside k (omega arith))) (omega arith) (ltb-true _ _ low) has)

boundary_at : (p : ℕ → Bool) (s : List ℕ) (n : ℕ) → AsciiSoFar p s n → IsUtf8 s → IsCharBoundary s n
boundary_at p s n i u = IsCharBoundary-from_take s n u i.few (IsUtf8-from_ascii (take n s) i.ascii)

-- the first byte tells whether the first character is an ASCII character of the class
first_stops : (p : ℕ → Bool) (s cs : List ℕ) → encodes cs ≡ s → (0 < length s → (nat_lt (get_or s 0 0) 128 && p (get_or s 0 0)) ≡ false) → starts (λ c. nat_lt c 128 && p c) cs ≡ false
first_stops p s [] e h = refl
first_stops p s (c ∷ cs) e h =
    elim (cases_lt c 128) [
      | inl l ↦
          let byte : get_or s 0 0 ≡ c = byte_from_char s (encodes cs) c (sym e) l in
          let some : 0 < length s = omega (arith, ap length e, length-append (encode c) (encodes cs), length-encode c, (len_utf8_bounds c).0) in
          subst (λ z. (nat_lt z 128 && p z) ≡ false) byte (h some)
      | inr g ↦ ap (λ b. b && p c) (le-ltb c 128 g)
    ]

module _ (p : ℕ → Bool) (t s : List ℕ) (n : ℕ) (is : TableOf p t) (found : InsideLen t s n) (small : (k : ℕ) → get_or s k 0 < 256) (u : IsUtf8 s) where
  so_far : AsciiSoFar p s n
  so_far = inside_so_far p t s n is small found.within found.inside

  pub ascii_boundary : IsCharBoundary s n
  ascii_boundary = boundary_at p s n so_far u

  first_outside : (r : List ℕ) → r ≡ drop n s → 0 < length r → (nat_lt (get_or r 0 0) 128 && p (get_or r 0 0)) ≡ false
  first_outside r e some =
      let c = get_or s n 0 in
      let at : get_or r 0 0 ≡ c = ap (λ l. get_or l 0 0) e ∙ get_or-drop n s 0 0 ∙ ap (λ k. get_or s k 0) (omega arith) in
      let last : n < length s = omega (arith, ap length e, length-drop n s) in
      rw at (not-true _ (sym (is c (small n)) ∙ found.stops last))

  pub ascii_run : (r : List ℕ) → r ≡ drop n s → AsciiOf p s r n
  ascii_run r e =
      let i = so_far in
      let front = IsUtf8-from_ascii (take n s) i.ascii in
      let same = chars-IsAscii (take n s) i.ascii in
      let long : length (take n s) ≡ n = omega (arith, length-take n s, i.few) in
      let back : IsUtf8 r = subst IsUtf8 (sym e) (IsUtf8-drop s n u ascii_boundary) in record {
        run = take n s;
        text = ap chars (sym (take-append-drop n s)) ∙ chars-append (take n s) (drop n s) front ∙ ap (λ x. x ++ chars (drop n s)) same ∙ ap (λ x. take n s ++ chars x) (sym e);
        all = i.all;
        stops = first_stops p r (chars r) (encodes-chars r back) (first_outside r e);
        len = omega (arith, length-drop n s, ap length e, i.few);
        count_is = long;
        bytes_is = ap bytes (sym same) ∙ bytes-chars (take n s) front ∙ long;
      }
