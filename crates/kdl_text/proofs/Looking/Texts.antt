use Rattle.std.proofs.Common.{◌≡◌, ℕ, ◌-◌, ◌≤◌, List, [], ◌∷◌, ◌++◌, length, take, sym, ap, ◌∙◌, subst, arith, length-append, refl}
use Rattle.std.proofs.lemmas.Str.{encodes-chars, encodes-append, IsCharBoundary-at_seam, length-encode}
use Rattle.std.proofs.Math.Seq.{take-append_seam}
use Rattle.std.specs.Str.{chars, IsUtf8, IsCharBoundary}
use lib.Utf8.{encodes, encode}
use Rattle.kdl_text.specs.Spans.{bytes}
use Rattle.std.specs.List.{slice_range}

pub whole : (bs ds p : List ℕ) → IsUtf8 bs → IsUtf8 ds → chars bs ≡ p ++ chars ds → bs ≡ encodes p ++ ds
whole bs ds p u v e = sym (encodes-chars bs u) ∙ ap encodes e ∙ encodes-append p (chars ds) ∙ ap (λ x. encodes p ++ x) (encodes-chars ds v)

pub front_len : (bs ds p : List ℕ) → bs ≡ p ++ ds → length bs - length ds ≡ length p
front_len bs ds p e = omega (arith, ap length e, length-append p ds)

pub boundary : (bs ds p : List ℕ) → IsUtf8 bs → IsUtf8 ds → chars bs ≡ p ++ chars ds → IsCharBoundary bs (length bs - length ds)
boundary bs ds p u v e =
    let w = whole bs ds p u v e in
    subst (IsCharBoundary bs) (sym (front_len bs ds (encodes p) w)) (IsCharBoundary-at_seam bs (encodes p) ds w v)

pub front : (bs ds p : List ℕ) → IsUtf8 bs → IsUtf8 ds → chars bs ≡ p ++ chars ds → bs ≡ take (length bs - length ds) bs ++ ds
front bs ds p u v e =
    let w = whole bs ds p u v e in
    let t : take (length bs - length ds) bs ≡ encodes p = rw (front_len bs ds (encodes p) w) (ap (take (length (encodes p))) w ∙ take-append_seam (encodes p) ds) in
    w ∙ ap (λ x. x ++ ds) (sym t)

pub chars_same : (bs ds : List ℕ) → IsUtf8 bs → IsUtf8 ds → chars bs ≡ chars ds → bs ≡ ds
chars_same bs ds u v e = sym (encodes-chars bs u) ∙ ap encodes e ∙ encodes-chars ds v

pub rest_shorter : (bs ds p : List ℕ) → IsUtf8 bs → IsUtf8 ds → chars bs ≡ p ++ chars ds → length ds ≤ length bs
rest_shorter bs ds p u v e = omega (arith, ap length (whole bs ds p u v e), length-append (encodes p) ds)

pub range_is : (bs : List ℕ) (n : ℕ) → slice_range bs 0 n ≡ take n bs
range_is bs n = grind arith

pub bytes-encodes : (cs : List ℕ) → bytes cs ≡ length (encodes cs)
bytes-encodes [] = refl
bytes-encodes (c ∷ cs) = omega (arith, length-append (encode c) (encodes cs), length-encode c, bytes-encodes cs)

pub bytes-chars : (bs : List ℕ) → IsUtf8 bs → bytes (chars bs) ≡ length bs
bytes-chars bs u = bytes-encodes (chars bs) ∙ ap length (encodes-chars bs u)

pub chars_bytes : (bs : List ℕ) → IsUtf8 bs → bytes (chars bs) ≡ length bs
chars_bytes = bytes-chars
