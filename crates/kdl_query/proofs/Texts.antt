-- Texts are compared by their bytes, which tells of their characters.
use Rattle.std.proofs.Common.{◌≡◌, ◌-◌, ℕ, ◌≤◌, Bool, true, false, List, ◌++◌, length, drop, take, eqb, Option, Some, None, is_some, MatchBool, MatchOption, Decides, chars, refl, ap, ◌∙◌, sym, arith}
use Rattle.std.proofs.lemmas.Bool.Decides.{Decides-eqb, same_from_decides}
use Rattle.std.proofs.lemmas.Slice.Eq.{bytes_eq-Decides, starts_is}
use Rattle.std.proofs.Math.Seq.{drop-append_seam}
use Rattle.std.proofs.lemmas.List.{length-append, take-append-drop}
use Rattle.std.proofs.lemmas.Str.{IsUtf8-take, chars-append, encodes-append, encodes-chars}
use Rattle.std.proofs.lemmas.Str.Pattern.{starts_text}
use Rattle.std.specs.List.{ends_with, starts_with}
use Rattle.std.specs.Str.{IsUtf8}
use Rattle.std.specs.Str.Pattern.{FindsText, FindsTextPrefix, FindsTextSuffix, HasPrefixMatch, HasSuffixMatch, MatchBeginsAt}
use lib.Utf8.{encodes}
use Rattle.kdl.proofs.Finding.SaidLookups.{same_chars}
use Rattle.kdl_parts.specs.EntryLists.{same_text}
use Rattle.kdl_query.specs.Tests.{HasInfix, HasPrefix, HasSuffix}
use Rattle.kdl_query.specs.Internal.Holds.{has_infix}
use Rattle.kdl_query.proofs.Holding.{infix_decides, never, prefix_decides, suffix_decides}

pub texts_compared : (b s : List ℕ) → IsUtf8 b → IsUtf8 s → same_text b s ≡ same_text (chars b) (chars s)
texts_compared b s u v = (same_chars s v).same b u

-- texts of different lengths are not the same
pub texts_differ : (b s : List ℕ) → IsUtf8 b → IsUtf8 s → (length b ≡ length s → ⊥) → eqb (length b) (length s) ≡ same_text (chars b) (chars s)
texts_differ b s u v h =
    same_from_decides (eqb (length b) (length s)) false (Decides-eqb (length b) (length s)) (never (length b ≡ length s) h)
    ∙ same_from_decides false (same_text b s) (never (b ≡ s) (λ e. h (ap length e))) (bytes_eq-Decides b s) ∙ texts_compared b s u v

-- a text whose characters hold those of n holds its bytes
encoded : (s n p r : List ℕ) → IsUtf8 s → IsUtf8 n → chars s ≡ p ++ (chars n ++ r) → s ≡ encodes p ++ (n ++ encodes r)
encoded s n p r u v e =
    sym (encodes-chars s u) ∙ ap encodes e ∙ encodes-append p (chars n ++ r) ∙ ap (λ l. encodes p ++ l) (encodes-append (chars n) r ∙ ap (λ l. l ++ encodes r) (encodes-chars n v))

encoded_front : (s n r : List ℕ) → IsUtf8 s → IsUtf8 n → chars s ≡ chars n ++ r → s ≡ n ++ encodes r
encoded_front s n r u v e = sym (encodes-chars s u) ∙ ap encodes e ∙ encodes-append (chars n) r ∙ ap (λ l. l ++ encodes r) (encodes-chars n v)

encoded_back : (s n p : List ℕ) → IsUtf8 s → IsUtf8 n → chars s ≡ p ++ chars n → s ≡ encodes p ++ n
encoded_back s n p u v e = sym (encodes-chars s u) ∙ ap encodes e ∙ encodes-append p (chars n) ∙ ap (λ l. encodes p ++ l) (encodes-chars n v)

pub begins : (r : Bool) (n s : List ℕ) → IsUtf8 s → IsUtf8 n → MatchBool r (HasPrefixMatch (FindsTextPrefix n) s) (FindsTextPrefix n s None) → r ≡ starts_with eqb (chars s) (chars n)
begins r n s u v h =
    let w = starts_is Decides-eqb s n r (starts_text r n s h) in
    let d : Decides r (HasPrefix (chars s) (chars n)) =
    (λ e. (chars (drop (length n) s), ap chars (w.0 e) ∙ chars-append n (drop (length n) s) v), λ k. w.1 (encodes k.0) (encoded_front s n k.0 u v k.1)) in
    same_from_decides r (starts_with eqb (chars s) (chars n)) d (prefix_decides (chars s) (chars n))

ends_so : (r : Bool) (n s : List ℕ) → IsUtf8 s → IsUtf8 n → MatchBool r (HasSuffixMatch (FindsTextSuffix n) s) (FindsTextSuffix n s None) → Decides r (HasSuffix (chars s) (chars n))
ends_so true n s u v h =
    let front = take (length s - h.0) s in
    (λ _. (chars front, ap chars h.1.1 ∙ chars-append front n (IsUtf8-take s (length s - h.0) u h.3)), λ _. refl)
ends_so false n s u v h = never (HasSuffix (chars s) (chars n)) (λ k. h (encodes k.0) (encoded_back s n k.0 u v k.1))

pub finishes : (r : Bool) (n s : List ℕ) → IsUtf8 s → IsUtf8 n → MatchBool r (HasSuffixMatch (FindsTextSuffix n) s) (FindsTextSuffix n s None) → r ≡ ends_with eqb (chars s) (chars n)
finishes r n s u v h = same_from_decides r (ends_with eqb (chars s) (chars n)) (ends_so r n s u v h) (suffix_decides (chars s) (chars n))

finds_so : (o : Option ℕ) (n s : List ℕ) → IsUtf8 s → IsUtf8 n → MatchOption o (FindsText n s None) (MatchBeginsAt (FindsText n) s) → Decides (is_some o) (HasInfix (chars s) (chars n))
finds_so None n s u v h =
    never (HasInfix (chars s) (chars n)) (λ k.
    let e = encoded s n k.0 k.1 u v k.2 in
    let le : length (encodes k.0) ≤ length s = omega (arith, ap length e, length-append (encodes k.0) (n ++ encodes k.1)) in
    h (length (encodes k.0)) le (encodes k.1) (ap (drop (length (encodes k.0))) e ∙ drop-append_seam (encodes k.0) (n ++ encodes k.1)))
finds_so (Some i) n s u v h =
    let back = drop h.0 s in
    (λ _. (chars (take i s), chars back, ap chars (sym (take-append-drop i s)) ∙ chars-append (take i s) (drop i s) (IsUtf8-take s i u h.3) ∙ ap (λ l. chars (take i s) ++ l) (ap chars h.1.1.split ∙ chars-append n back v)), λ _. refl)

pub contains_so : (o : Option ℕ) (n s : List ℕ) → IsUtf8 s → IsUtf8 n → MatchOption o (FindsText n s None) (MatchBeginsAt (FindsText n) s) → is_some o ≡ has_infix (chars s) (chars n)
contains_so o n s u v h = same_from_decides (is_some o) (has_infix (chars s) (chars n)) (finds_so o n s u v h) (infix_decides (chars s) (chars n))
