-- Runs of characters that are printed as they are between quotes.
use Rattle.std.proofs.Common.{◌≡◌, ℕ, true, false, ◌||◌, ◌==◌, ◌-◌, ◌≤◌, List, [], ◌∷◌, ◌++◌, length, take, refl, sym, ap, ◌∙◌, subst, arith, append_assoc, length-append, append-nil}
use Rattle.std.proofs.Math.Seq.{take-append_seam}
use Rattle.std.proofs.lemmas.List.{append_cancel_right}
use Rattle.std.proofs.lemmas.Str.{encodes-chars, encodes-append, chars-append, IsCharBoundary-at_seam}
use Rattle.std.specs.List.{slice_range}
use Rattle.std.specs.Str.{chars, encode_utf8_all, IsUtf8, IsCharBoundary}
use Rattle.std.proofs.lemmas.Bool.{and_parts}
use Rattle.std.proofs.lemmas.Bool.Decides.{nat_tests}
use Rattle.std.specs.List.{list_all}
use Rattle.kdl_text.specs.Chars.{is_literal, is_newline_char, is_banned}
use Rattle.kdl_text.specs.Internal.Here.{is_plain, AfterRun}
use Rattle.kdl_value.specs.Spelled.{escape_letter, char_text, escaped_text, PlainRun}

pub escaped-append : (s t : List ℕ) → escaped_text (s ++ t) ≡ escaped_text s ++ escaped_text t
escaped-append [] t = refl
escaped-append (c ∷ s) t = ap (λ x. char_text c ++ x) (escaped-append s t) ∙ sym (append_assoc (char_text c) (escaped_text s) (escaped_text t))

no_letter : (c : ℕ) → is_plain c ≡ true → (escape_letter c == 0) ≡ true
unfolding is_plain is_literal is_newline_char is_banned
no_letter c h = grind (arith, nat_tests)

no_code : (c : ℕ) → is_plain c ≡ true → (is_newline_char c || is_banned c) ≡ false
unfolding is_plain is_literal
no_code c h = grind (arith, nat_tests)

plain : (c : ℕ) → is_plain c ≡ true → char_text c ≡ c ∷ []
unfolding char_text
plain c h = rw (no_letter c h, no_code c h) refl

all_plain : (run : List ℕ) → list_all is_plain run ≡ true → escaped_text run ≡ run
all_plain [] h = refl
all_plain (c ∷ run) h =
    let (one, others) = and_parts (is_plain c) (list_all is_plain run) h in
    rw (plain c one, all_plain run others) refl

pub plain_run : (old new : List ℕ) → AfterRun is_plain old new → PlainRun old new
plain_run old new (n, r) = record { run = r.run; text = r.text; as_is = all_plain r.run r.all }

whole : (old new : List ℕ) (r : PlainRun old new) → IsUtf8 old → IsUtf8 new → old ≡ encode_utf8_all r.run ++ new
whole old new r u v =
    sym (encodes-chars old u) ∙ ap encode_utf8_all r.text ∙ encodes-append r.run (chars new) ∙ ap (λ x. encode_utf8_all r.run ++ x) (encodes-chars new v)

front_len : (old new p : List ℕ) → old ≡ p ++ new → length old - length new ≡ length p
front_len old new p e = omega (arith, ap length e, length-append p new)

pub rest_shorter : (old new : List ℕ) → PlainRun old new → IsUtf8 old → IsUtf8 new → length new ≤ length old
rest_shorter old new r u v = omega (arith, ap length (whole old new r u v), length-append (encode_utf8_all r.run) new)

pub boundary : (old new : List ℕ) → PlainRun old new → IsUtf8 old → IsUtf8 new → IsCharBoundary old (length old - length new)
boundary old new r u v =
    let w = whole old new r u v in
    subst (IsCharBoundary old) (sym (front_len old new _ w)) (IsCharBoundary-at_seam old (encode_utf8_all r.run) new w v)

-- what comes before the rest
pub front : (old new piece : List ℕ) → PlainRun old new → IsUtf8 old → IsUtf8 new → IsUtf8 piece
    → piece ≡ slice_range old 0 (length old - length new) → chars old ≡ chars piece ++ chars new
front old new piece r u v p e =
    let w = whole old new r u v in
    let cut : take (length (encode_utf8_all r.run)) old ≡ encode_utf8_all r.run = ap (take (length (encode_utf8_all r.run))) w ∙ take-append_seam (encode_utf8_all r.run) new in
    let range : slice_range old 0 (length old - length new) ≡ take (length old - length new) old = grind arith in
    let is : piece ≡ encode_utf8_all r.run = e ∙ range ∙ ap (λ n. take n old) (front_len old new _ w) ∙ cut in
    ap chars (w ∙ ap (λ x. x ++ new) (sym is)) ∙ chars-append piece new p

pub front_as_is : (old new piece : List ℕ) → PlainRun old new → chars old ≡ chars piece ++ chars new → escaped_text (chars piece) ≡ chars piece
front_as_is old new piece r e =
    let same = append_cancel_right r.run (chars piece) (chars new) (sym r.text ∙ e) in
    subst (λ x. escaped_text x ≡ x) same r.as_is

-- a run, and the character after it
pub escaped-run : (done s run next following : List ℕ) (c : ℕ) (all : List ℕ) → chars s ≡ chars run ++ chars next → escaped_text (chars run) ≡ chars run → chars next ≡ c ∷ chars following
    → done ++ encode_utf8_all (escaped_text (chars s)) ≡ all
    → ((done ++ encode_utf8_all (chars run)) ++ encode_utf8_all (char_text c)) ++ encode_utf8_all (escaped_text (chars following)) ≡ all
escaped-run done s run next following c all e as_is more h =
    let front = encode_utf8_all (chars run) in
    let one = encode_utf8_all (char_text c) in
    let back = encode_utf8_all (escaped_text (chars following)) in
    let text : escaped_text (chars s) ≡ chars run ++ (char_text c ++ escaped_text (chars following)) =
    ap escaped_text (e ∙ ap (λ x. chars run ++ x) more) ∙ escaped-append (chars run) (c ∷ chars following) ∙ ap (λ x. x ++ escaped_text (c ∷ chars following)) as_is in
    let bytes : encode_utf8_all (escaped_text (chars s)) ≡ front ++ (one ++ back) =
    ap encode_utf8_all text ∙ encodes-append (chars run) (char_text c ++ escaped_text (chars following)) ∙ ap (λ x. front ++ x) (encodes-append (char_text c) (escaped_text (chars following))) in
    append_assoc (done ++ front) one back ∙ append_assoc done front (one ++ back) ∙ ap (λ x. done ++ x) (sym bytes) ∙ h

-- a run that ends the text
pub escaped-end : (done s run next : List ℕ) (all : List ℕ) → chars s ≡ chars run ++ chars next → escaped_text (chars run) ≡ chars run → chars next ≡ []
    → done ++ encode_utf8_all (escaped_text (chars s)) ≡ all → done ++ encode_utf8_all (chars run) ≡ all
escaped-end done s run next all e as_is none h =
    let text : escaped_text (chars s) ≡ chars run = ap escaped_text (e ∙ ap (λ x. chars run ++ x) none ∙ append-nil (chars run)) ∙ as_is in
    ap (λ x. done ++ encode_utf8_all x) (sym text) ∙ h
