-- What a search for marks passes: characters none of whose bytes is a mark.
use Rattle.std.proofs.Common.{◌≡◌, ℕ, ◌+◌, ◌-◌, ◌<◌, ◌≤◌, zero, suc, Bool, true, false, not, ◌||◌, ◌==◌, List, [], ◌∷◌, ◌++◌, length, take, drop, get_or, refl, ap, sym, subst, ◌∙◌, arith, inl, inr, IsUtf8, IsCharBoundary, chars, length-append}
use Rattle.std.specs.List.{list_all}
use Rattle.std.specs.Prelude.{Some, None}
use Rattle.std.specs.Char.{len_utf8}
use Rattle.std.proofs.lemmas.Bool.{eqb-true, leb-true, and_parts, and_from, or_cases, not_from_false, false_from_ne_true}
use Rattle.std.proofs.lemmas.Bool.Decides.{nat_tests}
use Rattle.std.proofs.lemmas.List.{take-append-drop}
use Rattle.std.proofs.lemmas.List.Folds.{list_all-append, list_all_more}
use Rattle.std.proofs.lemmas.Str.{chars-append, encodes-chars, IsUtf8-take, encode_ascii}
use Rattle.kdl_text.specs.Chars.{within, is_newline_char, is_comment_char}
use Rattle.kdl_text.specs.Spans.{bytes, raise}
use Rattle.kdl_text.specs.Internal.Here.{Here, Unmarked, Passed, TookAfter}
use Rattle.kdl_text.specs.Internal.Marks.{is_comment_mark, is_newline_mark, is_mark, is_passed}
use Rattle.kdl_text.specs.Internal.Tables.{Until}
use Rattle.kdl_text.specs.declared.marks.Marks.{Marks}
use Rattle.kdl_text.specs.declared.marks.Marks.TheVariants.{Comment, Newline}
use Rattle.kdl_text.proofs.Looking.Texts.{bytes-chars}
use Rattle.kdl_text.proofs.Looking.MovesJoin.{bytes-append}
use lib.Utf8.{encodes, encode}

-- a character that a search looks for has a mark among its bytes
shown : (p : ℕ → Bool) (c d : ℕ) → list_all p (encode c) ≡ true → c ≡ d → list_all p (encode d) ≡ false → ⊥
shown p c d h e n = let k = subst (λ z. list_all p (encode z) ≡ true) e h in cc

no_comment_mark : (c : ℕ) → list_all (λ b. not (is_comment_mark b)) (encode c) ≡ true → is_comment_char c ≡ true
unfolding encode
no_comment_mark c h = go (c == 42) (c == 47) refl refl
  where
    go : (a b : Bool) → (c == 42) ≡ a → (c == 47) ≡ b → is_comment_char c ≡ true
    go true b x y = absurd (shown _ c 42 h (eqb-true c 42 x) refl)
    go false true x y = absurd (shown _ c 47 h (eqb-true c 47 y) refl)
    go false false x y = rw (x, y) refl

low_newline : (c : ℕ) → list_all (λ b. not (is_newline_mark b)) (encode c) ≡ true → within 10 13 c ≡ true → ⊥
low_newline c h x =
    let low : c < 128 = omega (arith, leb-true c 13 (and_parts _ _ x).1) in
    let k = subst (λ l. list_all (λ b. not (is_newline_mark b)) l ≡ true) (encode_ascii c low) h in
    let n = rw x at k in cc

newline_marked : (c : ℕ) → list_all (λ b. not (is_newline_mark b)) (encode c) ≡ true → is_newline_char c ≡ true → ⊥
unfolding is_newline_char encode
newline_marked c h e =
    elim (or_cases ((within 10 13 c || c == 0x85) || c == 0x2028) (c == 0x2029) e) [
      | inr x ↦ shown _ c 0x2029 h (eqb-true c 0x2029 x) refl
      | inl x ↦
          elim (or_cases (within 10 13 c || c == 0x85) (c == 0x2028) x) [
            | inr y ↦ shown _ c 0x2028 h (eqb-true c 0x2028 y) refl
            | inl y ↦
                elim (or_cases (within 10 13 c) (c == 0x85) y) [
                  | inr z ↦ shown _ c 0x85 h (eqb-true c 0x85 z) refl
                  | inl z ↦ low_newline c h z
                ]
          ]
    ]

no_newline_mark : (c : ℕ) → list_all (λ b. not (is_newline_mark b)) (encode c) ≡ true → not (is_newline_char c) ≡ true
no_newline_mark c h = not_from_false (is_newline_char c) (false_from_ne_true (is_newline_char c) (newline_marked c h))

no_mark : (m : Marks) (c : ℕ) → list_all (λ b. not (is_mark m b)) (encode c) ≡ true → is_passed m c ≡ true
no_mark Comment c h = no_comment_mark c h
no_mark Newline c h = no_newline_mark c h

all_passed : (m : Marks) (cs : List ℕ) → list_all (λ b. not (is_mark m b)) (encodes cs) ≡ true → list_all (is_passed m) cs ≡ true
all_passed m [] h = refl
all_passed m (c ∷ cs) h =
    let k = and_parts (list_all (λ b. not (is_mark m b)) (encode c)) (list_all (λ b. not (is_mark m b)) (encodes cs)) (sym (list_all-append (λ b. not (is_mark m b)) (encode c) (encodes cs)) ∙ h) in
    and_from (is_passed m c) (list_all (is_passed m) cs) (no_mark m c k.0) (all_passed m cs k.1)

none_marked : (p : ℕ → Bool) (s : List ℕ) (n : ℕ) → n ≤ length s → ((k : ℕ) → k < n → p (get_or s k 0) ≡ false) → list_all (λ b. not (p b)) (take n s) ≡ true
none_marked p s zero few none = refl
none_marked p s (suc n) few none =
    let e : n + 1 ≡ suc n = omega arith in
    subst (λ k. list_all (λ b. not (p b)) (take k s) ≡ true) e (list_all_more (λ b. not (p b)) s n 0 (omega arith) ∙ rw (none_marked p s n (omega arith) (λ k l. none k (omega arith)), none n (omega arith)) refl)

-- a mark begins a character
mark_begins : (m : Marks) (b : ℕ) → is_mark m b ≡ true → 128 ≤ b → 192 ≤ b
mark_begins Comment b h l = grind (arith, nat_tests)
mark_begins Newline b h l = grind (arith, nat_tests)

module _ (m : Marks) (s : List ℕ) (n : ℕ) (found : Until (is_mark m) s n) (u : IsUtf8 s) where
  pub mark_boundary : IsCharBoundary s n
  mark_boundary = (found.within, λ l. mark_begins m (get_or s n 0) (found.stops l))

  pub unmarked_run : (r : List ℕ) → r ≡ drop n s → Unmarked (is_passed m) s r
  unmarked_run r e =
      let front = IsUtf8-take s n u mark_boundary in record {
        run = chars (take n s);
        text = ap chars (sym (take-append-drop n s)) ∙ chars-append (take n s) (drop n s) front ∙ ap (λ x. chars (take n s) ++ chars x) (sym e);
        all = all_passed m (chars (take n s)) (ap (list_all (λ b. not (is_mark m b))) (encodes-chars (take n s) front) ∙ none_marked (is_mark m) s n found.within found.inside);
        len = ap length (sym (take-append-drop n s)) ∙ length-append (take n s) (drop n s) ∙ ap (λ k. k + length (drop n s)) (sym (bytes-chars (take n s) front)) ∙ ap (λ x. bytes (chars (take n s)) + length x) (sym e);
      }

pub unmarked_bytes : (p : ℕ → Bool) (s r : List ℕ) → Unmarked p s r → bytes (chars r) ≡ length r → bytes (chars s) ≡ length s
unmarked_bytes p s r i e = omega (arith, ap bytes i.text, bytes-append i.run (chars r), e, i.len)

-- a cursor that goes past the run, and past the character after it
module _ (p : ℕ → Bool) (whole text rest : List ℕ) (a s t : ℕ) (i : Unmarked p text rest) (counted : t ≡ raise s (length text - length rest + 1)) where
  abbrev passed_to : Here
  passed_to = record { text = whole; rest = chars rest; at = a + (length text - length rest); steps = raise s (length text - length rest) }

  passed : Passed p (record { text = whole; rest = chars text; at = a; steps = s }) passed_to
  passed =
      let n : length text - length rest ≡ bytes i.run = omega (arith, i.len) in
      record { run = i.run; text = i.text; all = i.all; at = omega (arith, n); steps = ap (raise s) n; same = refl }

  pub took_after : (next : List ℕ) (c : ℕ) → chars rest ≡ c ∷ chars next → length rest ≡ len_utf8 c + length next
      → TookAfter p (Some c) (record { text = whole; rest = chars text; at = a; steps = s }) (record { text = whole; rest = chars next; at = a + (length text - length rest) + (length rest - length next); steps = t })
  took_after next c e l = (passed_to, passed, (e, omega (arith, l), omega (arith, counted), refl))

  pub took_none : chars rest ≡ [] → TookAfter p None (record { text = whole; rest = chars text; at = a; steps = s }) (record { text = whole; rest = chars rest; at = a + (length text - length rest); steps = t })
  took_none e =
      let same : t ≡ raise (raise s (length text - length rest)) 1 = omega (arith, counted) in
      (passed_to, passed, (e, ap (λ (z : ℕ). record { text = whole; rest = chars rest; at = a + (length text - length rest); steps = z }) same))
