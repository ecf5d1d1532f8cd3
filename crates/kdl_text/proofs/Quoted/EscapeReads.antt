-- What comes after a backslash.
use Rattle.std.proofs.Common.{◌≡◌, ℕ, ◌≤◌, true, false, List, [], ◌∷◌, ◌++◌, length, take, drop, refl, sym, ap, ◌∙◌, subst, arith, append-nil, length-append, encode_utf8}
use Rattle.std.proofs.Math.Seq.{take-append_seam, drop-append_seam}
use Rattle.std.proofs.lemmas.Bool.{false≢true}
use Rattle.std.proofs.lemmas.Str.{IsUtf8-drop, IsCharBoundary-from_take, chars-append, chars_past_char, chars-nil}
use Rattle.std.specs.Prelude.{Option, Some, None, IfSome, IfNone}
use Rattle.std.specs.Str.{chars, IsUtf8}
use Rattle.kdl_text.specs.Chars.{Text, begins}
use Rattle.kdl_text.specs.Strings.{StringUnit, escape, spaces, escape_of, unit_value, is_escaped_space, letter_escape, HexNumber, Run, IsUnit, one_literal, one_letter, one_number, one_gap}
use Rattle.kdl_text.proofs.Quoted.UnitUnique.{backslash, blank_u}

unit_number : {t r : Text} {u : StringUnit} → IsUnit (92 ∷ 117 ∷ 123 ∷ t) r u → (c : ℕ) × HexNumber t r c
unit_number (one_literal x) = let k = backslash in cc
unit_number (one_letter x) = cc
unit_number (one_number {c = c} x) = (c, x)
unit_number (one_gap x y) = let k = blank_u in cc

pub number_found : (o : Option ℕ) (e : ℕ) (s m r : Text) → e ≡ 117 → s ≡ 123 ∷ m → IfSome o (λ c. HexNumber m r c) → IfSome o (λ c. IsUnit (92 ∷ e ∷ s) r (escape c))
number_found None e s m r k h n = tt
number_found (Some c) e s m r k h n = rw (k, h) (one_number n)

pub number_none : (o : Option ℕ) (e : ℕ) (s m : Text) → e ≡ 117 → s ≡ 123 ∷ m → IfNone o ((r : Text) (c : ℕ) → HexNumber m r c → ⊥) → IfNone o ((r : Text) (u : StringUnit) → IsUnit (92 ∷ e ∷ s) r u → ⊥)
number_none None e s m k h n = λ r u i. let x = unit_number (rw (k, h) at i) in n r x.0 x.1
number_none (Some c) e s m k h n = tt

no_brace : {s r : Text} {u : StringUnit} → begins 123 s ≡ false → IsUnit (92 ∷ 117 ∷ s) r u → ⊥
no_brace h (one_literal x) = let k = backslash in cc
no_brace h (one_letter x) = cc
no_brace h (one_number x) = cc
no_brace h (one_gap x y) = let k = blank_u in cc

pub brace_none : (e : ℕ) (s r : Text) (u : StringUnit) → e ≡ 117 → begins 123 s ≡ false → IsUnit (92 ∷ e ∷ s) r u → ⊥
brace_none e s r u k h i = no_brace h (rw k at i)

pub letter_found : (o : Option ℕ) (e : ℕ) (s : Text) → o ≡ letter_escape e → IfSome o (λ c. IsUnit (92 ∷ e ∷ s) s (escape c))
letter_found None e s h = tt
letter_found (Some c) e s h = one_letter (sym h)

no_letter : {e : ℕ} {s r : Text} {u : StringUnit} → None ≡ letter_escape e → (e ≡ 117 → ⊥) → is_escaped_space e ≡ false → IsUnit (92 ∷ e ∷ s) r u → ⊥
no_letter h ne b (one_literal x) = let k = backslash in cc
no_letter h ne b (one_letter x) = cc
no_letter h ne b (one_number x) = ne refl
no_letter h ne b (one_gap x y) = false≢true (sym b ∙ x)

pub letter_none : (o : Option ℕ) (e : ℕ) (s : Text) → o ≡ letter_escape e → (e ≡ 117 → ⊥) → is_escaped_space e ≡ false → IfNone o ((r : Text) (u : StringUnit) → IsUnit (92 ∷ e ∷ s) r u → ⊥)
letter_none None e s h ne b = λ r u. no_letter h ne b
letter_none (Some c) e s h ne b = tt

no_end : {r : Text} {u : StringUnit} → IsUnit (92 ∷ []) r u → ⊥
no_end (one_literal x) = let k = backslash in cc

pub end_none : (s r : Text) (u : StringUnit) → s ≡ [] → IsUnit (92 ∷ s) r u → ⊥
end_none s r u h i = no_end (rw h at i)

-- what follows a text in a text is one
tail_utf8 : (bs ds : List ℕ) → IsUtf8 bs → IsUtf8 (bs ++ ds) → IsUtf8 ds
tail_utf8 bs ds front whole =
    let within : length bs ≤ length (bs ++ ds) = omega (arith, length-append bs ds) in
    let same : take (length bs) (bs ++ ds) ≡ bs = take-append_seam bs ds in
    let rest : drop (length bs) (bs ++ ds) ≡ ds = drop-append_seam bs ds in
    rw rest at (IsUtf8-drop (bs ++ ds) (length bs) whole (IsCharBoundary-from_take (bs ++ ds) (length bs) whole within (rw same front)))

-- the bytes of a text, and a character more
pub char_pushed : (bs ns : List ℕ) (c : ℕ) → IsUtf8 bs → IsUtf8 ns → ns ≡ bs ++ encode_utf8 c → chars ns ≡ chars bs ++ c ∷ []
char_pushed bs ns c text more e =
    let whole : IsUtf8 (bs ++ encode_utf8 c) = subst IsUtf8 e more in
    let one : chars (encode_utf8 c) ≡ c ∷ [] = chars_past_char (encode_utf8 c) [] c (tail_utf8 bs (encode_utf8 c) text whole) (sym (append-nil _)) ∙ ap (λ x. c ∷ x) chars-nil in
    ap chars e ∙ chars-append bs (encode_utf8 c) text ∙ ap (λ x. chars bs ++ x) one

pub blank_found : (e : ℕ) (s m r : Text) → s ≡ e ∷ m → is_escaped_space e ≡ true → Run is_escaped_space m r → IsUnit (92 ∷ s) r spaces
blank_found e s m r h b run = rw h (one_gap b run)

pub char_none : (e : ℕ) (s m r : Text) (u : StringUnit) → s ≡ e ∷ m → ((r : Text) (u : StringUnit) → IsUnit (92 ∷ e ∷ m) r u → ⊥) → IsUnit (92 ∷ s) r u → ⊥
char_none e s m r u h none i = none r u (subst (λ z. IsUnit (92 ∷ z) r u) h i)

pub unit_at : (e : ℕ) (s m r : Text) (u : StringUnit) → s ≡ e ∷ m → IsUnit (92 ∷ e ∷ m) r u → IsUnit (92 ∷ s) r u
unit_at e s m r u h i = subst (λ z. IsUnit (92 ∷ z) r u) (sym h) i

pub unit_pushed : (o : Option ℕ) (c : ℕ) (s r bs : Text) {ns : Text} → o ≡ Some c → IsUnit (92 ∷ s) r (escape_of o) → IsUtf8 bs → IsUtf8 ns → ns ≡ bs ++ encode_utf8 c
    → (u : StringUnit) × IsUnit (92 ∷ s) r u × (chars ns ≡ chars bs ++ unit_value u)
unit_pushed o c s r bs {ns} is i text more x = (escape c, subst (λ z. IsUnit (92 ∷ s) r (escape_of z)) is i, char_pushed bs ns c text more x)
