-- What is shown of a line that is cut.
use Rattle.std.proofs.Common.{◌≡◌, ℕ, ◌+◌, ◌-◌, ◌/◌, ◌≤◌, [], ◌∷◌, ◌++◌, length, refl, sym, ap, ◌∙◌, append-nil, arith, inl, inr, subst}
use Rattle.std.proofs.lemmas.Bool.{eq-eqb, cases_lt, cond-true}
use Rattle.kdl_text.specs.Chars.{Text}
use Rattle.kdl_report.specs.Windows.{cut_row, dots, end_in, front_in, left_part, right_part, right_room, room, rooms}
use Rattle.kdl_report.proofs.RowSteps.{row}
use Rattle.kdl_report.proofs.WindowSteps.{AreParts, end_all, end_fits, end_stops, front_fits, front_stops, rooms_append, row_cut, within}

no_room : (n : ℕ) → 0 ≤ n
no_room n = omega arith

fits_first : (a b n : ℕ) → a + b ≤ n → a ≤ n
fits_first a b n h = omega arith

fits_rest : (a b n : ℕ) → a + b ≤ n → b ≤ n - a
fits_rest a b n h = omega arith

fits_more : (a b d : ℕ) → b ≤ d → a + b ≤ a + d
fits_more a b d h = omega arith

fits_mark : (r x f l n : ℕ) → f ≡ r + x → f ≤ n / 2 → l ≤ n - f → r ≤ n - l
fits_mark r x f l n e h k = omega arith

front_all : (n : ℕ) (t : Text) → rooms t ≤ n → front_in n t ≡ t
front_all n [] h = refl
front_all n (c ∷ s) h = front_fits n c s (fits_first (room c) (rooms s) n h) ∙ ap (λ z. c ∷ z) (front_all (n - room c) s (fits_rest (room c) (rooms s) n h))

front_size : (n : ℕ) (t : Text) → rooms (front_in n t) ≤ n
front_size n [] = no_room n
front_size n (c ∷ s) = elim (cases_lt n (room c)) [
  | inl h ↦ subst (λ z. rooms z ≤ n) (sym (front_stops n c s h)) (no_room n)
  | inr h ↦ subst (λ z. rooms z ≤ n) (sym (front_fits n c s h)) (within (room c) (rooms (front_in (n - room c) s)) n h (front_size (n - room c) s))
]

front_less : (n : ℕ) (t : Text) → rooms (front_in n t) ≤ rooms t
front_less n [] = no_room 0
front_less n (c ∷ s) = elim (cases_lt n (room c)) [
  | inl h ↦ subst (λ z. rooms z ≤ rooms (c ∷ s)) (sym (front_stops n c s h)) (no_room (rooms (c ∷ s)))
  | inr h ↦ subst (λ z. rooms z ≤ rooms (c ∷ s)) (sym (front_fits n c s h)) (fits_more (room c) (rooms (front_in (n - room c) s)) (rooms s) (front_less (n - room c) s))
]

pub front_begins : (n : ℕ) (t : Text) → (after : Text) × (t ≡ front_in n t ++ after)
front_begins n [] = ([], refl)
front_begins n (c ∷ s) = elim (cases_lt n (room c)) [
  | inl h ↦ (c ∷ s, ap (λ z. z ++ c ∷ s) (sym (front_stops n c s h)))
  | inr h ↦
      let i = front_begins (n - room c) s in
      (i.0, ap (λ z. c ∷ z) i.1 ∙ ap (λ z. z ++ i.0) (sym (front_fits n c s h)))
]

end_size : (n : ℕ) (t : Text) → rooms (end_in n t) ≤ n
end_size n [] = omega arith
end_size n (c ∷ s) = elim (cases_lt n (rooms (c ∷ s))) [
  | inl h ↦ rw (end_stops n c s h) (end_size n s)
  | inr h ↦ rw (end_fits n c s h) h
]

pub end_ends : (n : ℕ) (t : Text) → (before : Text) × (t ≡ before ++ end_in n t)
end_ends n [] = ([], refl)
end_ends n (c ∷ s) = elim (cases_lt n (rooms (c ∷ s))) [
  | inl h ↦
      let i = end_ends n s in
      (c ∷ i.0, ap (λ z. c ∷ z) i.1 ∙ ap (λ z. (c ∷ i.0) ++ z) (sym (end_stops n c s h)))
  | inr h ↦ ([], sym (end_fits n c s h))
]

pub parts_fit : (n : ℕ) (left right : Text) → rooms (left_part n left right ++ right_part n left right) ≤ n
parts_fit n left right =
    let small : rooms (left_part n left right) ≤ n - rooms (front_in (n / 2) right) = end_size (n - rooms (front_in (n / 2) right)) left in
    let rest : rooms (right_part n left right) ≤ n - rooms (left_part n left right) = front_size (n - rooms (left_part n left right)) right in
    omega (arith, rooms_append (left_part n left right) (right_part n left right), small, rest)

pub first_shown : (n c : ℕ) (left right : Text) → room c ≤ n / 2 → (after : Text) × (right_part n left (c ∷ right) ≡ c ∷ after)
first_shown n c left right h =
    let kept : rooms (front_in (n / 2) (c ∷ right)) ≡ room c + rooms (front_in (n / 2 - room c) right) = ap rooms (front_fits (n / 2) c right h) in
    let half : rooms (front_in (n / 2) (c ∷ right)) ≤ n / 2 = front_size (n / 2) (c ∷ right) in
    let small : rooms (left_part n left (c ∷ right)) ≤ n - rooms (front_in (n / 2) (c ∷ right)) = end_size (n - rooms (front_in (n / 2) (c ∷ right))) left in
    let fits : room c ≤ right_room n left (c ∷ right) = fits_mark (room c) (rooms (front_in (n / 2 - room c) right)) (rooms (front_in (n / 2) (c ∷ right))) (rooms (left_part n left (c ∷ right))) n kept half small in
    (front_in (right_room n left (c ∷ right) - room c) right, front_fits (right_room n left (c ∷ right)) c right fits)

all_shown : (t part : Text) → part ≡ t → dots t part ≡ []
all_shown t part e = cond-true _ _ _ (eq-eqb (length part) (length t) (ap length e))

whole_parts : (n number : ℕ) (left rest marked : Text) → rooms left + rooms rest ≤ n → rooms marked ≤ rooms rest → cut_row n (row number (left ++ rest) left marked) ≡ row number (left ++ rest) left marked
whole_parts n number left rest marked h k =
    let kept : ℕ = rooms (front_in (n / 2) rest) in
    let less : rooms (front_in (n / 2) rest) ≤ rooms rest = front_less (n / 2) rest in
    let part : Text = end_in (n - rooms (front_in (n / 2) rest)) left in
    let l : end_in (n - rooms (front_in (n / 2) rest)) left ≡ left = end_all (n - rooms (front_in (n / 2) rest)) left (omega (arith, h, less)) in
    let taken : rooms (end_in (n - rooms (front_in (n / 2) rest)) left) ≡ rooms left = ap rooms l in
    let fits : rooms rest ≤ n - rooms (end_in (n - rooms (front_in (n / 2) rest)) left) = omega (arith, h, taken) in
    let r : front_in (n - rooms part) rest ≡ rest = front_all (n - rooms part) rest fits in
    let m : front_in (n - rooms part) marked ≡ marked = front_all (n - rooms part) marked (omega (arith, fits, k)) in
    let parts : AreParts n left rest marked [] left rest [] marked kept (rooms part) = record {
      kept = refl;
      left = sym l;
      taken = refl;
      before = sym (all_shown left part l);
      right = sym r;
      after = sym (all_shown rest (front_in (n - rooms part) rest) r);
      marked = sym m;
    } in
    sym (row_cut n number left rest marked [] left rest [] marked kept (rooms part) parts) ∙ ap (λ z. row number (left ++ z) left marked) (append-nil rest)

pub whole_row : (n number : ℕ) (left marked right : Text) → rooms (left ++ (marked ++ right)) ≤ n
    → cut_row n (row number (left ++ (marked ++ right)) left marked) ≡ row number (left ++ (marked ++ right)) left marked
whole_row n number left marked right h =
    whole_parts n number left (marked ++ right) marked (omega (arith, h, rooms_append left (marked ++ right))) (omega (arith, rooms_append marked right))
