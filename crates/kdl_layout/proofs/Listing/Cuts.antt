-- A text that is cut at a place in bytes.
use Rattle.kdl_layout.proofs.Common.{◌≡◌, ℕ, true, List, [], ◌∷◌, ◌++◌, length, take, drop, refl, sym, ap, subst, ◌∙◌, and_parts, encodes-chars, encodes-append, drop-append_seam, chars, IsUtf8, Text, bytes}
use Rattle.std.proofs.lemmas.Str.{scalars-chars, chars-encodes, IsCharBoundary-at_seam}
use Rattle.std.proofs.Math.Seq.{take-append_seam}
use Rattle.std.specs.Str.{IsCharBoundary}
use Rattle.std.proofs.Math.Utf8.{encodes, scalars}
use lib.Utf8.{scalar}
use Rattle.kdl_text.proofs.Looking.Texts.{bytes-encodes}

seam : (bs p r : Text) → IsUtf8 bs → chars bs ≡ p ++ r → bs ≡ encodes p ++ encodes r
seam bs p r u e = sym (encodes-chars bs u) ∙ ap encodes e ∙ encodes-append p r

scalars_parts : (p r : Text) → scalars (p ++ r) ≡ true → (scalars p ≡ true) × (scalars r ≡ true)
scalars_parts [] r e = (refl, e)
scalars_parts (c ∷ p) r e =
    let (a, b) = and_parts (scalar c) (scalars (p ++ r)) e in
    let (d, f) = scalars_parts p r b in
    (rw (a, d) refl, f)

parts_scalars : (bs p r : Text) → IsUtf8 bs → chars bs ≡ p ++ r → (scalars p ≡ true) × (scalars r ≡ true)
parts_scalars bs p r u e = scalars_parts p r (ap scalars (sym e) ∙ scalars-chars bs u)

pub cut_boundary : (bs p r : Text) (n : ℕ) → IsUtf8 bs → chars bs ≡ p ++ r → bytes p ≡ n → IsCharBoundary bs n
cut_boundary bs p r n u e l =
    subst (IsCharBoundary bs) (sym (bytes-encodes p) ∙ l) (IsCharBoundary-at_seam bs (encodes p) (encodes r) (seam bs p r u e) (r, ((parts_scalars bs p r u e).1, refl)))

pub cut_front : (bs p r : Text) (n : ℕ) → IsUtf8 bs → chars bs ≡ p ++ r → bytes p ≡ n → chars (take n bs) ≡ p
cut_front bs p r n u e l =
    ap (λ k. chars (take k bs)) (sym l ∙ bytes-encodes p) ∙ ap (λ (s : List ℕ). chars (take (length (encodes p)) s)) (seam bs p r u e)
    ∙ ap chars (take-append_seam (encodes p) (encodes r)) ∙ chars-encodes p (parts_scalars bs p r u e).0

pub cut_after : (bs p r : Text) (n : ℕ) → IsUtf8 bs → chars bs ≡ p ++ r → bytes p ≡ n → chars (drop n bs) ≡ r
cut_after bs p r n u e l =
    ap (λ k. chars (drop k bs)) (sym l ∙ bytes-encodes p) ∙ ap (λ (s : List ℕ). chars (drop (length (encodes p)) s)) (seam bs p r u e)
    ∙ ap chars (drop-append_seam (encodes p) (encodes r)) ∙ chars-encodes r (parts_scalars bs p r u e).1
