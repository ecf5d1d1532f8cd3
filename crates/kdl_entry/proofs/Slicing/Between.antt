-- The piece between two places.
use Rattle.std.proofs.Common.{◌≡◌, ℕ, ◌-◌, ◌==◌, ◌↔◌, Bool, IsTrue, [], ◌++◌, length, take, refl, sym, ap, ◌∙◌, arith, append_assoc, append-nil, length-append}
use Rattle.std.proofs.lemmas.Bool.Decides.{Decides-at, Decides-like, Decides-eqb}
use Rattle.std.proofs.lemmas.List.{nil_from_length}
use Rattle.std.proofs.Math.Seq.{take-append_seam}
use Rattle.std.proofs.lemmas.Str.{chars-nil}
use Rattle.std.specs.Prelude.{String, string_bytes}
use Rattle.std.specs.Str.{chars}
use Rattle.std.specs.declared.alloc.Global.{Global}
use Rattle.kdl_entry.specs.Internal.Counted.{EndsIn, InOrder}
use Rattle.kdl_entry.specs.Places.{between}
use Rattle.kdl_value.specs.Tree.{text_of}
use Rattle.kdl_text.specs.Chars.{Text}
use Rattle.kdl_text.specs.Internal.Here.{IsPart}
use Rattle.kdl_text.specs.Spans.{bytes}
use Rattle.kdl_text.proofs.Looking.Runs.{length-bytes}

pub between_is : (p s : Text) → between (p ++ s) s ≡ p
unfolding between
between_is p s =
    let n : length (p ++ s) - length s ≡ length p = omega (arith, length-append p s) in
    ap (λ k. take k (p ++ s)) n ∙ take-append_seam p s

-- a piece that was cut out is the text between its ends
pub is_between : (t s p : Text) → t ≡ p ++ s → p ≡ between t s
is_between t s p e = sym (between_is p s) ∙ ap (λ (u : Text). between u s) (sym e)

-- nothing is between two places exactly where the piece that was cut out has no bytes
pub nothing_between : (t s p : Text) (n : ℕ) (b : Bool) → t ≡ p ++ s → n ≡ bytes p → b ≡ (n == 0) → IsTrue b ↔ (between t s ≡ [])
nothing_between t s p n b e len is =
    let piece = is_between t s p e in
    let nothing : n ≡ 0 → between t s ≡ [] = λ h. sym piece ∙ nil_from_length p (omega (arith, len, h, length-bytes p)) in
    let some : between t s ≡ [] → n ≡ 0 = λ h. len ∙ ap bytes (piece ∙ h) in
    Decides-at _ _ is (Decides-like _ nothing some (Decides-eqb n 0))

-- an end of an end is one
pub then_ends : {t s r : Text} → EndsIn t s → EndsIn s r → EndsIn t r
then_ends {r = r} a b = (a.0 ++ b.0, a.1 ∙ ap (λ (z : Text). a.0 ++ z) b.1 ∙ sym (append_assoc a.0 b.0 r))

-- a place of the text is a part of it
pub is_part : (t s : Text) → EndsIn t s → IsPart t s
is_part t s a = record { before = a.0; after = []; whole = a.1 ∙ ap (λ (z : Text). a.0 ++ z) (sym (append-nil s)) }

-- a place of the text itself
pub in_order_here : {t s : Text} → EndsIn t s → InOrder t s s
in_order_here a = (a, a, ([], refl))

-- a place stays in order as the text goes on
pub in_order_on : {t from s r : Text} → InOrder t from s → EndsIn s r → InOrder t from r
in_order_on a b = (a.0, then_ends a.1 b, then_ends a.2 b)

-- no bytes are no characters
pub empty_text : (s : String Global) → string_bytes s ≡ [] → text_of s ≡ []
empty_text s e = ap chars e ∙ chars-nil
