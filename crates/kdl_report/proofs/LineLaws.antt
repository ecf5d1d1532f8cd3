-- The line of a byte is a line of the text.
use Rattle.std.proofs.Common.{◌≡◌, ℕ, suc, Bool, true, false, not, ◌&&◌, ◌||◌, ◌≤◌, nat_eq, [], ◌∷◌, ◌++◌, refl, sym, ap, ◌∙◌, append_assoc, inl, inr}
use Rattle.std.proofs.lemmas.Bool.{cond-true, cond-false, cases_Bool, and_left, eqb-true, or_parts}
use Rattle.std.proofs.lemmas.List.Folds.{list_any-append}
use Rattle.std.specs.List.{list_any}
use Rattle.kdl_text.specs.Chars.{Text, begins, is_newline_char}
use Rattle.kdl_report.specs.Places.{IsLine, before, between, first_line, from, is_cr_lf, last_line, line_at, line_number, newlines}
use Rattle.kdl_report.proofs.PlaceSteps.{before-from}
use Rattle.kdl_report.proofs.RowSteps.{between_splits}

is_newline_lf : is_newline_char 10 ≡ true
unfolding is_newline_char
is_newline_lf = refl

-- a text without newlines begins with no LF, so it does not join a CR before it
no_lf : (l : Text) → list_any is_newline_char l ≡ false → begins 10 l ≡ false
no_lf [] h = refl
no_lf (d ∷ l) h = elim (cases_Bool (nat_eq d 10)) [
  | inr other ↦ other
  | inl lf ↦ absurd (cc (ap is_newline_char (eqb-true d 10 lf), is_newline_lf, (or_parts (is_newline_char d) (list_any is_newline_char l) h).0))
]

begins_kept : (a l : Text) → list_any is_newline_char l ≡ false → begins 10 (a ++ l) ≡ begins 10 a
begins_kept [] l h = no_lf l h
begins_kept (d ∷ a) l h = refl

newlines_none : (t : Text) → list_any is_newline_char t ≡ false → newlines t ≡ 0
newlines_none [] h = refl
newlines_none (c ∷ s) h =
    let parts = or_parts (is_newline_char c) (list_any is_newline_char s) h in
    cond-false (is_newline_char c && not (is_cr_lf c s)) (suc (newlines s)) (newlines s) (and_left (is_newline_char c) (not (is_cr_lf c s)) parts.0) ∙ newlines_none s parts.1

-- what is above the last line of a text
record Above (t a : Text) : Type 0 where
  whole : t ≡ a ++ last_line t
  single : list_any is_newline_char (last_line t) ≡ false
  starts : last_line a ≡ []
  number : newlines a ≡ newlines t

or_nothing : (x y : Bool) → y ≡ false → (x || y) ≡ x
or_nothing true y h = refl
or_nothing false y h = h

above_more : (c : ℕ) (s a : Text) → list_any is_newline_char (c ∷ s) ≡ true → Above s a → Above (c ∷ s) (c ∷ a)
above_more c s a h i =
    let last : last_line (c ∷ s) ≡ last_line s = cond-true _ _ _ h in
    let any : list_any is_newline_char (c ∷ s) ≡ list_any is_newline_char (c ∷ a) =
    ap (λ z. list_any is_newline_char (c ∷ z)) i.whole ∙ list_any-append is_newline_char (c ∷ a) (last_line s) ∙ or_nothing _ _ i.single in
    let cr : is_cr_lf c a ≡ is_cr_lf c s = ap (λ z. nat_eq c 13 && z) (sym (begins_kept a (last_line s) i.single) ∙ ap (begins 10) (sym i.whole)) in
    record {
      whole = ap (λ z. c ∷ z) (i.whole ∙ ap (λ z. a ++ z) (sym last));
      single = ap (list_any is_newline_char) last ∙ i.single;
      starts = cond-true _ _ _ (sym any ∙ h) ∙ i.starts;
      number = rw (cr, i.number) refl;
    }

above : (t : Text) → (a : Text) × Above t a
above [] = ([], record { whole = refl; single = refl; starts = refl; number = refl })
above (c ∷ s) = elim (cases_Bool (list_any is_newline_char (c ∷ s))) [
  | inl some ↦ let i = above s in (c ∷ i.0, above_more c s i.0 some i.1)
  | inr none ↦
      let last : last_line (c ∷ s) ≡ c ∷ s = cond-false _ _ _ none in
      ([], record { whole = sym last; single = ap (list_any is_newline_char) last ∙ none; starts = refl; number = sym (newlines_none (c ∷ s) none) })
]

-- what is below the first line of a text
record Below (t b : Text) : Type 0 where
  whole : t ≡ first_line t ++ b
  single : list_any is_newline_char (first_line t) ≡ false
  ends : first_line b ≡ []

below : (t : Text) → (b : Text) × Below t b
below [] = ([], record { whole = refl; single = refl; ends = refl })
below (c ∷ s) = elim (cases_Bool (is_newline_char c)) [
  | inl is ↦
      let first : first_line (c ∷ s) ≡ [] = cond-true _ _ _ is in
      (c ∷ s, record { whole = ap (λ z. z ++ c ∷ s) (sym first); single = ap (list_any is_newline_char) first; ends = first })
  | inr not_so ↦
      let i = below s in
      let first : first_line (c ∷ s) ≡ c ∷ first_line s = cond-false _ _ _ not_so in (
        i.0,
        record {
          whole = ap (λ z. c ∷ z) i.1.whole ∙ ap (λ z. z ++ i.0) (sym first);
          single = ap (list_any is_newline_char) first ∙ ap (λ z. z || list_any is_newline_char (first_line s)) not_so ∙ i.1.single;
          ends = i.1.ends;
        },
      )
]

pub line_is : (n : ℕ) (t : Text) → IsLine t (line_at n t) (line_number n t)
line_is n t =
    let a = above (before n t) in
    let b = below (from n t) in
    let l = last_line (before n t) in
    let f = first_line (from n t) in
    record {
      above = a.0;
      below = b.0;
      whole = sym (before-from n t) ∙ ap (λ z. z ++ from n t) a.1.whole ∙ ap (λ z. (a.0 ++ l) ++ z) b.1.whole ∙ sym (append_assoc (a.0 ++ l) f b.0) ∙ ap (λ z. z ++ b.0) (append_assoc a.0 l f);
      single = list_any-append is_newline_char l f ∙ ap (λ z. z || list_any is_newline_char f) a.1.single ∙ b.1.single;
      starts = a.1.starts;
      ends = b.1.ends;
      number = ap suc a.1.number;
    }

-- a mark that goes past the end of a line stops there
first_line_front : (x y : Text) → (right : Text) × (first_line (x ++ y) ≡ first_line x ++ right)
first_line_front [] y = (first_line y, refl)
first_line_front (c ∷ x) y = elim (cases_Bool (is_newline_char c)) [
  | inl is ↦ ([], cond-true _ _ _ is ∙ ap (λ z. z ++ []) (sym (cond-true _ _ _ is)))
  | inr not_so ↦
      let i = first_line_front x y in
      (i.0, cond-false _ _ _ not_so ∙ ap (λ z. c ∷ z) i.1 ∙ ap (λ z. z ++ i.0) (sym (cond-false _ _ _ not_so)))
]

pub mark_is : (m n : ℕ) (t : Text) → m ≤ n → (right : Text) × (line_at m t ≡ last_line (before m t) ++ first_line (between m n t) ++ right)
mark_is m n t h =
    let left = last_line (before m t) in
    let f = first_line_front (between m n t) (from n t) in
    (f.0, ap (λ z. left ++ first_line z) (between_splits m n t h) ∙ ap (λ z. left ++ z) f.1 ∙ sym (append_assoc left (first_line (between m n t)) f.0))
