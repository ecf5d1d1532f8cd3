-- The lines of multi-line strings: a text begins with those of one at most.
use Rattle.std.proofs.Common.{◌≡◌, ℕ, true, false, List, [], ◌∷◌, ◌++◌, refl, sym, ap, ◌∙◌, subst, arith}
use Rattle.std.proofs.lemmas.Bool.{false≢true}
use Rattle.kdl_text.specs.Dedent.{LineUnit, Literal}
use Rattle.kdl_text.specs.Chars.{Text, Newline, crlf, one, is_newline_char, is_literal}
use Rattle.kdl_text.specs.Strings.{StringUnit, IsUnit, one_literal}
use Rattle.kdl_text.specs.MultiLine.{kept, ContentUnit, quote, line, unit, Content, close, more}
use Rattle.kdl_text.proofs.Spacing.NewlineUnique.{newline_det, no_newline}
use Rattle.kdl_text.specs.Internal.Reading.{Goes}
use Rattle.kdl_text.proofs.RawStrings.RawUnique.{quote_no_newline}
use Rattle.kdl_text.proofs.Quoted.UnitUnique.{unit_det, unit_no_quote, unit_front}

newline_literal : (c : ℕ) → is_newline_char c ≡ true → is_literal c ≡ false
unfolding is_literal
newline_literal c h = grind arith

slash_no_newline : is_newline_char 92 ≡ false
unfolding is_newline_char
slash_no_newline = refl

no_slash : (c : ℕ) → is_newline_char c ≡ true → c ≡ 92 → ⊥
no_slash c h e = false≢true (sym slash_no_newline ∙ ap is_newline_char (sym e) ∙ h)

carriage_return : is_newline_char 13 ≡ true
unfolding is_newline_char
carriage_return = refl

newline_no_unit : {t r s : Text} {u : StringUnit} → Newline t r → IsUnit t s u → ⊥
newline_no_unit crlf i = unit_front (newline_literal 13 carriage_return) (no_slash 13 carriage_return) i
newline_no_unit (one {c = c} h k) i = unit_front (newline_literal c h) (no_slash c h) i

pub content_unit_det : {t r s : Text} {us vs : List LineUnit} → ContentUnit t r us → ContentUnit t s vs → (us ≡ vs) × (r ≡ s)
content_unit_det (quote h) (quote k) = (refl, refl)
content_unit_det (quote h) (line n) = absurd (no_newline quote_no_newline n)
content_unit_det (quote h) (unit i e) = absurd (unit_no_quote i)
content_unit_det (line n) (quote h) = absurd (no_newline quote_no_newline n)
content_unit_det (line n) (line m) = (refl, newline_det n m)
content_unit_det (line n) (unit i e) = absurd (newline_no_unit n i)
content_unit_det (unit i e) (quote h) = absurd (unit_no_quote i)
content_unit_det (unit i e) (line n) = absurd (newline_no_unit n i)
content_unit_det (unit i e) (unit j f) = let (same, ends) = unit_det i j in (e ∙ ap kept same ∙ sym f, ends)

at_quotes : {r m : Text} {us : List LineUnit} → ContentUnit (34 ∷ 34 ∷ 34 ∷ r) m us → ⊥
at_quotes (quote h) = false≢true (sym h)
at_quotes (line n) = no_newline quote_no_newline n
at_quotes (unit i e) = unit_no_quote i

content_back : {s t r : Text} {us w : List LineUnit} → ContentUnit s t us → Content s r w → (v : List LineUnit) × (w ≡ us ++ v) × Content t r v
content_back i close = absurd (at_quotes i)
content_back {r = r} i (more {us = us} {vs = vs} j x e) =
    let (same, ends) = content_unit_det i j in
    (vs, e ∙ ap (λ z. z ++ vs) (sym same), subst (λ z. Content z r vs) (sym ends) x)

-- after a unit the lines go on
pub goes_content : {s t : Text} {us : List LineUnit} → ContentUnit s t us → Goes Content s us t
goes_content i = record { on = λ r v x. more i x refl; back = λ r w. content_back i }

pub content_close : {t r : Text} {v : List LineUnit} → Content (34 ∷ 34 ∷ 34 ∷ t) r v → (r ≡ t) × (v ≡ [])
content_close close = (refl, refl)
content_close (more i x e) = absurd (at_quotes i)

no_content_unit : {r : Text} {us : List LineUnit} → ContentUnit [] r us → ⊥
no_content_unit (line n) = elim n [ ]
no_content_unit (unit i e) = elim i [ ]

pub content_empty : {r : Text} {v : List LineUnit} → Content [] r v → ⊥
content_empty (more i x e) = no_content_unit i

pub content_unit : {c : ℕ} {t r : Text} {v : List LineUnit} → (c ≡ 34 → ⊥) → Content (c ∷ t) r v → (m : Text) × (us : List LineUnit) × ContentUnit (c ∷ t) m us
content_unit ne close = absurd (ne refl)
content_unit ne (more i x e) = (_, _, i)

pub content_det : {t r s : Text} {us vs : List LineUnit} → Content t r us → Content t s vs → (r ≡ s) × (us ≡ vs)
content_det close x = let (ends, same) = content_close x in (sym ends, sym same)
content_det {vs = w} (more {us = us} i x e) y =
    let (v, is, rest) = content_back i y in
    let (ends, same) = content_det x rest in
    (ends, e ∙ ap (λ z. us ++ z) same ∙ sym is)

pub literal_unit : (c : ℕ) (s : Text) → is_literal c ≡ true → ContentUnit (c ∷ s) s (Literal c ∷ [])
literal_unit c s h = unit (one_literal h) refl

pub slash_unit : {s r : Text} {us : List LineUnit} → ContentUnit (92 ∷ s) r us → (u : StringUnit) × IsUnit (92 ∷ s) r u
slash_unit (line n) = absurd (no_newline slash_no_newline n)
slash_unit (unit {u = u} j f) = (u, j)

pub no_unit : {c : ℕ} {s r : Text} {us : List LineUnit} → (c ≡ 34 → ⊥) → (c ≡ 92 → ⊥) → is_newline_char c ≡ false → is_literal c ≡ false → ContentUnit (c ∷ s) r us → ⊥
no_unit a b n l (quote h) = a refl
no_unit a b n l (line m) = no_newline n m
no_unit a b n l (unit i e) = unit_front l b i
