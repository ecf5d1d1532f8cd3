use Rattle.kdl_layout.proofs.Common.{◌≡◌, ◌≢◌, ℕ, ◌-◌, ◌==◌, Bool, true, false, List, [], ◌∷◌, ◌++◌, length, take, refl, sym, ap, ◌∙◌, arith, append-nil, eqb-true, chars-append, encodes-append, encodes-chars, IsUtf8-take, encode_utf8, chars, encode_utf8_all, IsUtf8, Text, last_in, Cr, Other}
use Rattle.std.proofs.lemmas.Str.Pattern.{ends_char}
use Rattle.kdl_layout.proofs.Rewriting.Pushing.{one_char}
use Rattle.kdl_layout.proofs.blank.last_in.Goals as goal

-- a text that ends with CR
cr_after : (t : Text) → last_in (t ++ (13 ∷ [])) ≡ Cr
cr_after [] = refl
cr_after (c ∷ []) = refl
cr_after (c ∷ d ∷ t) = cr_after (d ∷ t)

cr_last : (bs front : List ℕ) → IsUtf8 front → bs ≡ front ++ (13 ∷ []) → last_in (chars bs) ≡ Cr
cr_last bs front u e =
    ap last_in (ap chars e ∙ chars-append front (13 ∷ []) u ∙ ap (λ (t : Text). chars front ++ t) (one_char 13 (omega arith))) ∙ cr_after (chars front)

-- a text that does not
other_text : (s : Text) → ((p : Text) → s ≡ p ++ (13 ∷ []) → ⊥) → last_in s ≡ Other
other_text [] h = refl
other_text (c ∷ []) h = go (c == 13) refl
  where
    go : (b : Bool) → (c == 13) ≡ b → last_in (c ∷ []) ≡ Other
    go true e = absurd (h [] (ap (λ (d : ℕ). d ∷ []) (eqb-true c 13 e)))
    go false e = rw e refl
other_text (c ∷ d ∷ s) h = other_text (d ∷ s) (λ p e. h (c ∷ p) (ap (λ (t : Text). c ∷ t) e))

other_last : (bs : List ℕ) → IsUtf8 bs → ((front : List ℕ) → bs ≢ front ++ encode_utf8 13) → last_in (chars bs) ≡ Other
other_last bs u h =
    other_text (chars bs) (λ p e. h (encode_utf8_all p) (sym (encodes-chars bs u) ∙ ap encode_utf8_all e ∙ encodes-append p (13 ∷ []) ∙ ap (λ (x : List ℕ). encode_utf8_all p ++ x) (append-nil (encode_utf8 13))))

pub returns-then-ends_with : goal.returns-then-ends_with
returns-then-ends_with c =
    let s = c.args.terminator.now in
    let found = rw c.if-ends_with.true at c.ends_with.ensures.cases in
    let split = (ends_char 13 s c.ends_with.result c.ends_with.ensures.cases (omega arith)).0 c.if-ends_with.true in
    sym (cr_last s (take (length s - 1) s) (IsUtf8-take s (length s - 1) c.utf8.terminator found.1.2) split)

pub returns-else-ends_with : goal.returns-else-ends_with
returns-else-ends_with c = sym (other_last c.args.terminator.now c.utf8.terminator (rw c.if-ends_with.false at c.ends_with.ensures.cases))
