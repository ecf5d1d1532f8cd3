-- Raw strings: a text begins with one at most.
use Rattle.std.proofs.Common.{◌≡◌, ℕ, true, false, List, [], ◌∷◌, ◌++◌, ◌==◌, refl, sym, ap, ◌∙◌, subst, arith}
use Rattle.std.proofs.lemmas.Bool.{false≢true, and_left, ne_eqb}
use Rattle.std.proofs.lemmas.List.{append_cancel_left}
use Rattle.kdl_text.specs.Dedent.{LineUnit, Literal}
use Rattle.kdl_text.specs.Chars.{Text, Newline, is_raw, is_newline_char, begins_with}
use Rattle.kdl_text.specs.Raw.{RawUnit, char, line, RawUnits, none, more, RawContent, content}
use Rattle.kdl_text.proofs.Spacing.NewlineUnique.{newline_det, no_newline}
use Rattle.kdl_text.specs.Internal.Reading.{Goes}
use Rattle.kdl_text.proofs.Looking.ValueGoes.{goes_end, goes_none}
use Rattle.kdl_text.proofs.RawStrings.ClosingPlaces.{begins_own, units_then}

raw_no_newline : (c : ℕ) → is_raw c ≡ true → is_newline_char c ≡ false
unfolding is_raw
raw_no_newline c h = grind arith

pub quote_no_newline : is_newline_char 34 ≡ false
unfolding is_newline_char
quote_no_newline = refl

raw_unit_det : {p t r s : Text} {u w : LineUnit} → RawUnit p t r u → RawUnit p t s w → (u ≡ w) × (r ≡ s)
raw_unit_det (char a b) (char d e) = (refl, refl)
raw_unit_det (char a b) (line n) = absurd (no_newline (raw_no_newline _ b) n)
raw_unit_det (line n) (char a b) = absurd (no_newline (raw_no_newline _ b) n)
raw_unit_det (line n) (line m) = (refl, newline_det n m)

-- where the closing begins no unit does
at_close : {p s m : Text} {u : LineUnit} (r : Text) → RawUnit (34 ∷ p) s m u → s ≡ (34 ∷ p) ++ r → ⊥
at_close {p = p} r (char a b) e = false≢true (sym a ∙ ap (begins_with (34 ∷ p)) e ∙ begins_own (34 ∷ p) r)
at_close {m = m} r (line n) e = no_newline quote_no_newline (subst (λ z. Newline z m) e n)

raw_back : {p s t r : Text} {us w : List LineUnit} → RawUnits (34 ∷ p) s t us → RawContent (34 ∷ p) s r w → (v : List LineUnit) × (w ≡ us ++ v) × RawContent (34 ∷ p) t r v
raw_back {w = w} none x = (w, refl, x)
raw_back (more j js) (content none e) = absurd (at_close _ j e)
raw_back {p = p} (more {us = us} j js) (content {m = m} (more {us = ls'} l ls) e) =
    let (same, ends) = raw_unit_det j l in
    let (v, is, x) = raw_back js (content (subst (λ z. RawUnits (34 ∷ p) z m ls') (sym ends) ls) e) in
    (v, cc, x)

raw_on : {p s t r : Text} {us v : List LineUnit} → RawUnits (34 ∷ p) s t us → RawContent (34 ∷ p) t r v → RawContent (34 ∷ p) s r (us ++ v)
raw_on is (content js e) = content (units_then is js) e

pub goes_raw : {p s t : Text} {us : List LineUnit} → RawUnits (34 ∷ p) s t us → Goes (RawContent (34 ∷ p)) s us t
goes_raw is = record { on = λ r v. raw_on is; back = λ r w. raw_back is }

close_only : {p t r : Text} {v : List LineUnit} → RawContent (34 ∷ p) ((34 ∷ p) ++ t) r v → (r ≡ t) × (v ≡ [])
close_only {p = p} {t = t} {r = r} (content none e) = (sym (append_cancel_left (34 ∷ p) t r e), refl)
close_only (content (more j js) e) = absurd (at_close _ j refl)

-- at the closing
pub raw_ends : (p s m t : Text) (us : List LineUnit) → RawUnits (34 ∷ p) s m us → m ≡ (34 ∷ p) ++ t → RawContent (34 ∷ p) s t us × ((r : Text) (w : List LineUnit) → RawContent (34 ∷ p) s r w → (r ≡ t) × (w ≡ us))
raw_ends p s m t us is e =
    let is' : RawUnits (34 ∷ p) s ((34 ∷ p) ++ t) us = subst (λ z. RawUnits (34 ∷ p) s z us) e is in
    goes_end (goes_raw is') (content none refl) (λ r v. close_only)

raw_nothing : {p r : Text} {v : List LineUnit} → RawContent (34 ∷ p) [] r v → ⊥
raw_nothing (content none e) = cc
raw_nothing (content (more (line n) js) e) = elim n [ ]

-- at the end of the text
pub raw_over : (p s t : Text) (us : List LineUnit) → RawUnits (34 ∷ p) s t us → t ≡ [] → (r : Text) (w : List LineUnit) → RawContent (34 ∷ p) s r w → ⊥
raw_over p s t us is e = goes_none (goes_raw is) (λ r v x. raw_nothing (subst (λ z. RawContent (34 ∷ p) z r v) e x))

pub raw_content_unit : {p : Text} {c : ℕ} {t r : Text} {w : List LineUnit} → (c ≡ 34 → ⊥) → RawContent (34 ∷ p) (c ∷ t) r w → (m : Text) × (u : LineUnit) × RawUnit (34 ∷ p) (c ∷ t) m u
raw_content_unit ne (content none e) = absurd (ne cc)
raw_content_unit ne (content (more j js) e) = (_, _, j)

pub raw_det : {p t r s : Text} {us vs : List LineUnit} → RawContent (34 ∷ p) t r us → RawContent (34 ∷ p) t s vs → (r ≡ s) × (us ≡ vs)
raw_det {p = p} {t = t} {r = r} {s = s} {us = us} {vs = vs} (content {m = m} is e) y = let (ends, same) = (raw_ends p t m r us is e).1 s vs y in (sym ends, sym same)

-- a character that is no quote
pub raw_char : {p : Text} {c : ℕ} {t : Text} → (c ≡ 34 → ⊥) → is_raw c ≡ true → RawUnit (34 ∷ p) (c ∷ t) t (Literal c)
raw_char {c = c} ne h = char (and_left (c == 34) _ (ne_eqb c 34 ne)) h

pub no_raw_unit : {p : Text} {c : ℕ} {t r : Text} {u : LineUnit} → is_newline_char c ≡ false → is_raw c ≡ false → RawUnit p (c ∷ t) r u → ⊥
no_raw_unit h k (char a b) = false≢true (sym k ∙ b)
no_raw_unit h k (line n) = no_newline h n
