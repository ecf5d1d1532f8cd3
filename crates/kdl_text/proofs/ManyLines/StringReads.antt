-- Whole strings: from their quotes, their lines and their dedent.
use Rattle.std.proofs.Common.{◌≡◌, ℕ, zero, suc, false, ◌&&◌, ◌==◌, List, [], ◌∷◌, refl, sym, ap, ◌∙◌, subst}
use Rattle.std.proofs.Math.Bool.{and-true}
use Rattle.std.proofs.lemmas.Bool.{true≢false}
use Rattle.std.specs.Prelude.{Result, Ok, Err, IfOk, MatchResult}
use Rattle.kdl_text.specs.Chars.{Text, Newline, begins_two, begins_with}
use Rattle.kdl_text.specs.Dedent.{Dedents, LineUnit}
use Rattle.kdl_text.specs.Strings.{QuotedBody, quoted}
use Rattle.kdl_text.specs.MultiLine.{Content, MultiLineBody, lines, multi_line, IsQuoted, on_one_line, on_many_lines}
use Rattle.kdl_text.specs.Internal.Lines.{LinesOf, BodyOf}
use Rattle.kdl_text.specs.Raw as raw
use Rattle.kdl_text.specs.Raw.{RawContent, closing}
use Rattle.kdl_text.specs.declared.strings.StringFailure.{StringFailure}
use Rattle.kdl_text.specs.declared.strings.StringFailure.TheVariants.{Memory}
use Rattle.kdl_text.proofs.ManyLines.LinesUnique.{content_det}
use Rattle.kdl_text.proofs.RawStrings.RawUnique.{raw_det}
use Rattle.kdl_text.proofs.Spacing.NewlineUnique.{newline_det}

dedent_made : {T : Type 0} (o : Result T StringFailure) (f : T → Text) (r e w : Text) → r ≡ e → MatchResult o (λ s. w ≡ f s) (λ x. x ≡ Memory) → MatchResult o (λ v. (r ≡ e) × (w ≡ f v)) (λ x. x ≡ Memory)
dedent_made (Ok v) f r e w ends k = (ends, k)
dedent_made (Err x) f r e w ends k = k

lines_det : (d : ℕ) (t r s : Text) (us vs : List LineUnit) → LinesOf d t r us → LinesOf d t s vs → (r ≡ s) × (us ≡ vs)
lines_det zero t r s us vs x y = content_det x y
lines_det (suc n) t r s us vs x y = raw_det x y

pub body_found : (d : ℕ) {T E : Type 0} (o : Result T E) (f : T → Text) (t m r : Text) (us : List LineUnit) → Newline t m → LinesOf d m r us
    → IfOk o (λ v. Dedents us (f v)) → IfOk o (λ v. BodyOf d t r (f v))
body_found zero (Ok v) f t m r us n x made = lines n x made
body_found (suc k) (Ok v) f t m r us n x made = raw.lines n x made
body_found d (Err e) f t m r us n x made = tt

-- the newline and the lines of a body
pub body_newline : (d : ℕ) (t r w : Text) → BodyOf d t r w → (m : Text) × Newline t m
body_newline zero t r w (lines {m = m} k x made) = (m, k)
body_newline (suc n) t r w (raw.lines {m = m} k x made) = (m, k)

pub body_lines : (d : ℕ) (t m r w : Text) → Newline t m → BodyOf d t r w → (us : List LineUnit) × LinesOf d m r us × Dedents us w
body_lines zero t m r w n (lines {us = us} k x made) = (us, subst (λ z. Content z r us) (newline_det k n) x, made)
body_lines (suc j) t m r w n (raw.lines {us = us} k x made) = (us, subst (λ z. RawContent (closing 3 (suc j)) z r us) (newline_det k n) x, made)

pub body_only : (d : ℕ) {T : Type 0} (o : Result T StringFailure) (f : T → Text) (t m e : Text) (us : List LineUnit) → Newline t m → LinesOf d m e us → ((v : Text) → Dedents us v → MatchResult o (λ s. v ≡ f s) (λ x. x ≡ Memory))
    → (r w : Text) → BodyOf d t r w → MatchResult o (λ v. (r ≡ e) × (w ≡ f v)) (λ x. x ≡ Memory)
body_only d o f t m e us n here dedents r w b =
    let (xs, x, made) = body_lines d t m r w n b in
    let (ends, same) = lines_det d m r e xs us x here in
    dedent_made o f r e w ends (dedents w (subst (λ z. Dedents z w) same made))

-- three quotes are a quote and two
pub two_of_three : (s : Text) → begins_two 34 34 s ≡ false → begins_with (34 ∷ 34 ∷ []) s ≡ false
two_of_three [] h = refl
two_of_three (c ∷ []) h = h
two_of_three (c ∷ d ∷ s) h = ap (λ z. (c == 34) && z) (and-true (d == 34)) ∙ h

pub many_found : {T E : Type 0} (o : Result T E) (f : T → Text) (s m t r : Text) → s ≡ 34 ∷ m → m ≡ 34 ∷ 34 ∷ t → IfOk o (λ v. MultiLineBody t r (f v)) → IfOk o (λ v. IsQuoted s r (f v))
many_found (Ok v) f s m t r h k b = rw (h, k) (on_many_lines (multi_line b))
many_found (Err e) f s m t r h k b = tt

many_body : {t r w : Text} → IsQuoted (34 ∷ 34 ∷ 34 ∷ t) r w → MultiLineBody t r w
many_body (on_one_line h q) = absurd (true≢false h)
many_body (on_many_lines (multi_line b)) = b

pub many_only : (s m t r w : Text) → s ≡ 34 ∷ m → m ≡ 34 ∷ 34 ∷ t → IsQuoted s r w → MultiLineBody t r w
many_only s m t r w h k q = many_body (subst (λ z. IsQuoted z r w) (h ∙ ap (λ z. 34 ∷ z) k) q)

pub one_found : {T E : Type 0} (o : Result T E) (f : T → Text) (s m n r : Text) → s ≡ 34 ∷ m → begins_two 34 34 m ≡ false → n ≡ m → IfOk o (λ v. QuotedBody n r (f v)) → IfOk o (λ v. IsQuoted s r (f v))
one_found (Ok v) f s m n r h k e b = rw h (on_one_line (two_of_three m k) (quoted (subst (λ z. QuotedBody z r (f v)) e b)))
one_found (Err e) f s m n r h k e' b = tt

one_body : {m r w : Text} → begins_two 34 34 m ≡ false → IsQuoted (34 ∷ m) r w → QuotedBody m r w
one_body h (on_one_line k (quoted b)) = b
one_body h (on_many_lines (multi_line b)) = absurd (true≢false h)

pub one_only : (s m n r w : Text) → s ≡ 34 ∷ m → begins_two 34 34 m ≡ false → n ≡ m → IsQuoted s r w → QuotedBody n r w
one_only s m n r w h k e q = subst (λ z. QuotedBody z r w) (sym e) (one_body k (subst (λ z. IsQuoted z r w) h q))
