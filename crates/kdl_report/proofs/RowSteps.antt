-- The lines that are shown for a span: what two spots have of them.
use Rattle.std.proofs.Common.{◌≡◌, ℕ, suc, ◌+◌, ◌-◌, ◌^◌, ◌<◌, ◌≤◌, true, ◌&&◌, nat_lt, min, [], ◌∷◌, ◌++◌, chars, length, refl, sym, ap, ◌∙◌, subst, append-nil, arith, inl, inr}
use Rattle.std.proofs.lemmas.Bool.{cases_lt, cond_both, and_parts}
use Rattle.std.proofs.lemmas.List.{append_cancel_right}
use Rattle.std.proofs.lemmas.Str.{len_utf8_bounds}
use Rattle.std.specs.Char.{len_utf8}
use Rattle.kdl_text.specs.Chars.{Text, begins}
use Rattle.kdl_text.specs.Spans.{bytes}
use Rattle.kdl_report.specs.Places.{before, between, column, first_bytes, first_line, from, is_cr_lf, last_line, line_at, line_number, newlines}
use Rattle.kdl_text.specs.declared.span.SourceSpan.{SourceSpan}
use Rattle.kdl_report.specs.Rows.{Row, end_of, first_row, has_last_row, last_row}
use Rattle.kdl_report.specs.Spots.{IsSpotAt, spot_text}
use Rattle.kdl_report.specs.declared.places.Spot.{Spot}
use Rattle.kdl_report.proofs.PlaceSteps.{before-from, before_fits, before_stops, first_line_single, from_fits, from_stops, last_line_single}

pub spot_line : (n : ℕ) (t : Text) (s : Spot) → IsSpotAt n t s → s.line ≡ line_number n t
spot_line n t s is = is.is.line ∙ ap (λ z. line_number s.at z) is.text ∙ ap (λ z. suc (newlines z)) is.before

pub spot_column : (n : ℕ) (t : Text) (s : Spot) → IsSpotAt n t s → s.column ≡ column n t
spot_column n t s is = is.is.column ∙ ap (λ z. column s.at z) is.text ∙ ap (λ z. suc (length (last_line z))) is.before

pub spot_left : (n : ℕ) (t : Text) (s : Spot) → IsSpotAt n t s → last_line (before s.at (spot_text s)) ≡ last_line (before n t)
spot_left n t s is = ap (λ z. last_line (before s.at z)) is.text ∙ ap last_line is.before

pub spot_line_at : (n : ℕ) (t : Text) (s : Spot) → IsSpotAt n t s → line_at s.at (spot_text s) ≡ line_at n t
spot_line_at n t s is = ap (λ z. line_at s.at z) is.text ∙ rw (is.before, is.from) refl

pub spot_rest : (n : ℕ) (t : Text) (s : Spot) → IsSpotAt n t s → chars s.rest.now ≡ from n t
spot_rest n t s is = is.is.rest ∙ ap (λ z. from s.at z) is.text ∙ is.from

-- ---- beyond the end of the text

two_bytes : (c : ℕ) (s : Text) → begins 10 s ≡ true → 2 ≤ len_utf8 c + bytes s
two_bytes c [] e = absurd (cc e)
two_bytes c (d ∷ s) e = omega (arith, (len_utf8_bounds c).0, (len_utf8_bounds d).0)

first_of_all : (c : ℕ) (s : Text) → first_bytes c s ≤ len_utf8 c + bytes s
first_of_all c s =
    cond_both (is_cr_lf c s) 2 (len_utf8 c) (λ n. n ≤ len_utf8 c + bytes s)
    (λ e. two_bytes c s (and_parts _ _ e).1)
    (λ _. omega arith)

pub before_all : (n : ℕ) (t : Text) → bytes t ≤ n → (before n t ≡ t) × (from n t ≡ [])
before_all n [] h = (refl, refl)
before_all n (c ∷ s) h =
    let fits : first_bytes c s ≤ n = omega (arith, first_of_all c s) in
    let i = before_all (n - len_utf8 c) s (omega arith) in
    (before_fits n c s fits ∙ ap (λ z. c ∷ z) i.0, from_fits n c s fits ∙ i.1)

-- a number that is capped at the greatest of 64 bits is the same place
pub record SamePlace (m n : ℕ) (t : Text) : Type 0 where
  pub front : before m t ≡ before n t
  pub back : from m t ≡ from n t

pub capped : (m n : ℕ) (t : Text) → bytes t < 2 ^ 63 → m ≡ min n (2 ^ 64 - 1) → SamePlace m n t
capped m n t small e = elim (cases_lt m n) [
  | inl lt ↦
      let a = before_all m t (omega (arith, e)) in
      let b = before_all n t (omega (arith, e)) in
      record { front = a.0 ∙ sym b.0; back = a.1 ∙ sym b.1 }
  | inr le ↦
      let same : m ≡ n = omega (arith, e) in
      record { front = rw same refl; back = rw same refl }
]

-- ---- between two spots

pub between_splits : (m n : ℕ) (t : Text) → m ≤ n → from m t ≡ between m n t ++ from n t
between_splits m n [] h = refl
between_splits m n (c ∷ s) h = elim (cases_lt m (first_bytes c s)) [
  | inl l ↦ rw (before_stops m c s l, from_stops m c s l) (sym (before-from n (c ∷ s)))
  | inr l ↦
      rw (before_fits m c s l, from_fits m c s l, before_fits n c s (omega (arith, l, h)), from_fits n c s (omega (arith, l, h)))
      (between_splits (m - len_utf8 c) (n - len_utf8 c) s (omega arith))
]

-- a start and an end
pub record Ends (span : SourceSpan) (e : ℕ) (t : Text) (a b : Spot) : Type 0 where
  pub starts : IsSpotAt span.offset t a
  pub ends : IsSpotAt e t b
  pub cap : e ≡ min (end_of span) (2 ^ 64 - 1)

pub end_at : (span : SourceSpan) (e : ℕ) (t : Text) (a b : Spot) → Ends span e t a b → SamePlace e (end_of span) t
end_at span e t a b is = capped e (end_of span) t (subst (λ z. bytes z < 2 ^ 63) is.starts.text is.starts.is.small) is.cap

pub rest_splits : (span : SourceSpan) (e : ℕ) (t : Text) (a b : Spot) → Ends span e t a b → chars a.rest.now ≡ between span.offset (end_of span) t ++ chars b.rest.now
rest_splits span e t a b is =
    let same = end_at span e t a b is in
    let tail : from (end_of span) t ≡ chars b.rest.now = sym same.back ∙ sym (spot_rest e t b is.ends) in
    spot_rest span.offset t a is.starts ∙ between_splits span.offset (end_of span) t (omega arith) ∙ ap (λ z. between span.offset (end_of span) t ++ z) tail

-- ---- the rows

abbrev pub row : ℕ → Text → Text → Text → Row
row number line left marked = record { number = number; line = line; left = left; marked = marked }

same_row : (m n : ℕ) (a b c d e f : Text) → m ≡ n → a ≡ b → c ≡ d → e ≡ f → row m a c e ≡ row n b d f
same_row m n a b c d e f p q r s = rw (p, q, r, s) refl

pub first_row_is : (span : SourceSpan) (e : ℕ) (t : Text) (a b : Spot) (left piece : Text) → Ends span e t a b → left ≡ last_line (before a.at (spot_text a)) → chars a.rest.now ≡ piece ++ chars b.rest.now
    → row a.line (left ++ first_line (chars a.rest.now)) left (first_line piece) ≡ first_row span t
first_row_is span e t a b left piece is is_left cut =
    let s = is.starts in
    let whole : piece ≡ between span.offset (end_of span) t = append_cancel_right piece (between span.offset (end_of span) t) (chars b.rest.now) (sym cut ∙ rest_splits span e t a b is) in
    let so : left ≡ last_line (before span.offset t) = is_left ∙ spot_left span.offset t a s in
    let line : left ++ first_line (chars a.rest.now) ≡ line_at span.offset t = ap (λ z. z ++ first_line (chars a.rest.now)) so ∙ ap (λ z. last_line (before span.offset t) ++ first_line z) (spot_rest span.offset t a s) in
    same_row _ _ _ _ _ _ _ _ (spot_line span.offset t a s) line so (ap first_line whole)

pub last_row_is : (span : SourceSpan) (e : ℕ) (t : Text) (a b : Spot) (none left : Text) → Ends span e t a b → none ≡ [] → left ≡ last_line (before b.at (spot_text b))
    → row b.line (none ++ first_line (chars b.line_text.now)) none (first_line left) ≡ last_row span t
last_row_is span e t a b none left is is_none is_left =
    let s = is.ends in
    let same = end_at span e t a b is in
    let last = last_line (before b.at (spot_text b)) in
    let single = last_line_single (before b.at (spot_text b)) in
    let line : none ++ first_line (chars b.line_text.now) ≡ line_at (end_of span) t =
    ap (λ z. z ++ first_line (chars b.line_text.now)) is_none ∙ ap first_line s.is.line_text ∙ first_line_single last (from b.at (spot_text b)) single ∙ spot_line_at e t b s ∙ rw (same.front, same.back) refl in
    let mark : first_line left ≡ last_line (before (end_of span) t) =
    ap first_line (is_left ∙ sym (append-nil last)) ∙ first_line_single last [] single ∙ append-nil last ∙ spot_left e t b s ∙ ap last_line same.front in
    same_row _ _ _ _ _ _ _ _ (spot_line e t b s ∙ ap (λ z. suc (newlines z)) same.front) line is_none mark

pub goes_on_is : (span : SourceSpan) (e : ℕ) (t : Text) (a b : Spot) → Ends span e t a b → (nat_lt a.line b.line && nat_lt 1 b.column) ≡ has_last_row span t
goes_on_is span e t a b is =
    let s = is.ends in
    let same = end_at span e t a b is in
    let line : b.line ≡ line_number (end_of span) t = spot_line e t b s ∙ ap (λ z. suc (newlines z)) same.front in
    let last : b.column ≡ column (end_of span) t = spot_column e t b s ∙ ap (λ z. suc (length (last_line z))) same.front in
    rw (spot_line span.offset t a is.starts, line, last) refl
