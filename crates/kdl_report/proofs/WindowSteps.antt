-- The part of a line that has room in some columns, when a character is read.
use Rattle.std.proofs.Common.{◌≡◌, ℕ, suc, ◌+◌, ◌-◌, ◌/◌, ◌<◌, ◌≤◌, false, nat_eq, List, [], ◌∷◌, ◌++◌, chars, drop, length, length-append, refl, sym, ap, ◌∙◌, append_assoc, append-nil, arith, subst, zero-add, inl, inr}
use Rattle.std.proofs.lemmas.Bool.{le-leb, lt-leb, eq-eqb, ne_eqb, cases_Bool, cond-true, cond-false}
use Rattle.std.proofs.lemmas.Str.{IsUtf8-encode, chars-append, chars-nil, chars_past_char}
use Rattle.std.specs.Char.{IsScalar}
use Rattle.std.specs.Prelude.{encode_utf8}
use Rattle.std.specs.Str.{IsUtf8}
use Rattle.kdl_text.specs.Chars.{Text, is_newline_char}
use Rattle.kdl_report.specs.Places.{first_line}
use Rattle.kdl_report.specs.Rows.{Row}
use Rattle.kdl_report.specs.Spots.{HasNoRoom, TakesFirst, TakesLast}
use Rattle.kdl_report.specs.Spots.HasNoRoom.{empty, full}
use Rattle.kdl_report.specs.Windows.{cut_row, dots, end_in, front_in, left_part, left_shown, right_room, right_shown, room, rooms}
use Rattle.kdl_report.proofs.RowSteps.{row}

pub front_fits : (n c : ℕ) (s : Text) → room c ≤ n → front_in n (c ∷ s) ≡ c ∷ front_in (n - room c) s
front_fits n c s h = cond-true _ _ _ (le-leb (room c) n h)

pub front_stops : (n c : ℕ) (s : Text) → n < room c → front_in n (c ∷ s) ≡ []
front_stops n c s h = cond-false _ _ _ (lt-leb (room c) n h)

-- sums of rooms
pub within : (t s n : ℕ) → t ≤ n → s ≤ n - t → t + s ≤ n
within t s n h k = omega arith

minus_sum : (n a b : ℕ) → (n - a) - b ≡ n - (a + b)
minus_sum n a b = omega arith

sum_is : (x r t s : ℕ) → x ≡ t → r ≡ s → x + (r + 0) ≡ t + s
sum_is x r t s h k = omega arith

sum_back : (r x t s : ℕ) → r ≡ s → x ≡ t → r + x ≡ t + s
sum_back r x t s h k = omega arith

longer : (n d y x z : ℕ) → y ≡ x + z → n < z → n < d + y
longer n d y x z e h = omega arith

over : (n t r x : ℕ) → n - t < r → x ≡ t → n < r + x
over n t r x h e = omega arith

sum_more : (a b c d : ℕ) → b ≡ c + d → a + b ≡ (a + c) + d
sum_more a b c d h = omega arith

pub rooms_append : (x y : Text) → rooms (x ++ y) ≡ rooms x + rooms y
rooms_append [] y = sym (zero-add (rooms y))
rooms_append (c ∷ x) y = sum_more (room c) (rooms (x ++ y)) (rooms x) (rooms y) (rooms_append x y)

-- a part is all of a text if nothing is left of it
all_before : (a b : Text) → nat_eq (length b) 0 ≡ nat_eq (length a) (length (a ++ b))
all_before a [] = sym (eq-eqb (length a) (length (a ++ [])) (ap length (sym (append-nil a))))
all_before a (c ∷ b) =
    ne_eqb (suc (length b)) 0 (λ h. omega (arith, h)) ∙ sym (ne_eqb (length a) (length (a ++ c ∷ b)) (λ h. omega (arith, h, length-append a (c ∷ b))))

all_after : (a b : Text) → nat_eq (length a) 0 ≡ nat_eq (length b) (length (a ++ b))
all_after [] b = sym (eq-eqb (length b) (length b) refl)
all_after (c ∷ a) b =
    ne_eqb (suc (length a)) 0 (λ h. omega (arith, h)) ∙ sym (ne_eqb (length b) (suc (length (a ++ b))) (λ h. omega (arith, h, length-append a b)))

-- so far: the line at the front of t has a front that has room in n columns, and r is after it
pub record FrontSoFar (n : ℕ) (t r : Text) (taken : ℕ) : Type 0 where
  pub front : Text
  pub text : t ≡ front ++ r
  pub line : first_line t ≡ front ++ first_line r
  pub shown : front_in n (first_line t) ≡ front ++ front_in (n - taken) (first_line r)
  pub columns : rooms front ≡ taken
  pub fits : taken ≤ n

pub no_front : (n : ℕ) (t : Text) → FrontSoFar n t t 0
no_front n t =
    let k : n - 0 ≡ n = omega arith in
    record { front = []; text = refl; line = refl; shown = ap (λ z. front_in z (first_line t)) (sym k); columns = refl; fits = omega arith }

pub more_front : (n taken columns : ℕ) (t r : Text) (rest : List ℕ) → FrontSoFar n t r taken → TakesFirst (n - taken) r columns rest → FrontSoFar n t (chars rest) (taken + columns)
more_front n taken columns t r rest i b =
    let s = chars rest in
    let line : first_line r ≡ b.c ∷ first_line s = ap first_line b.whole ∙ cond-false _ _ _ b.plain in
    let fits : room b.c ≤ n - taken = subst (λ z. z ≤ n - taken) (sym b.columns) b.fits in
    let k : (n - taken) - room b.c ≡ n - (taken + columns) = ap (λ z. (n - taken) - z) b.columns ∙ minus_sum n taken columns in
    let sum : rooms (i.front ++ b.c ∷ []) ≡ rooms i.front + (room b.c + 0) = rooms_append i.front (b.c ∷ []) in
    let step : front_in (n - taken) (first_line r) ≡ b.c ∷ front_in (n - (taken + columns)) (first_line s) =
    ap (front_in (n - taken)) line ∙ front_fits (n - taken) b.c (first_line s) fits ∙ ap (λ z. b.c ∷ front_in z (first_line s)) k in
    record {
      front = i.front ++ b.c ∷ [];
      text = i.text ∙ ap (λ z. i.front ++ z) b.whole ∙ sym (append_assoc i.front (b.c ∷ []) s);
      line = i.line ∙ ap (λ z. i.front ++ z) line ∙ sym (append_assoc i.front (b.c ∷ []) (first_line s));
      shown = i.shown ∙ ap (λ z. i.front ++ z) step ∙ sym (append_assoc i.front (b.c ∷ []) (front_in (n - (taken + columns)) (first_line s)));
      columns = sum ∙ sum_is (rooms i.front) (room b.c) taken columns i.columns b.columns;
      fits = within taken columns n i.fits b.fits;
    }

pub all_front : (n taken : ℕ) (t r : Text) (i : FrontSoFar n t r taken) → front_in (n - taken) (first_line r) ≡ [] → front_in n (first_line t) ≡ i.front
all_front n taken t r i none = i.shown ∙ ap (λ z. i.front ++ z) none ∙ append-nil i.front

pub whole_front : (n taken : ℕ) (t r : Text) → FrontSoFar n t r taken → front_in (n - taken) (first_line r) ≡ [] → nat_eq (length (first_line r)) 0 ≡ nat_eq (length (front_in n (first_line t))) (length (first_line t))
whole_front n taken t r i none =
    all_before i.front (first_line r) ∙ ap (λ z. nat_eq (length i.front) (length z)) (sym i.line) ∙ ap (λ z. nat_eq (length z) (length (first_line t))) (sym (all_front n taken t r i none))

-- so far: the text t has an end that has room in n columns, and r is before it
pub record EndSoFar (n : ℕ) (t r : Text) (taken : ℕ) : Type 0 where
  pub part : Text
  pub text : t ≡ r ++ part
  pub columns : rooms part ≡ taken
  pub fits : taken ≤ n

pub no_end : (n : ℕ) (t : Text) → EndSoFar n t t 0
no_end n t = record { part = []; text = sym (append-nil t); columns = refl; fits = omega arith }

pub more_end : (n taken columns : ℕ) (t : Text) (text rest : List ℕ) → EndSoFar n t (chars text) taken → TakesLast (n - taken) text columns rest → EndSoFar n t (chars rest) (taken + columns)
more_end n taken columns t text rest i b = record {
  part = b.c ∷ i.part;
  text = i.text ∙ ap (λ z. z ++ i.part) b.whole ∙ append_assoc (chars rest) (b.c ∷ []) i.part;
  columns = sum_back (room b.c) (rooms i.part) taken columns b.columns i.columns;
  fits = within taken columns n i.fits b.fits;
}

pub end_fits : (n c : ℕ) (s : Text) → rooms (c ∷ s) ≤ n → end_in n (c ∷ s) ≡ c ∷ s
end_fits n c s h = cond-true _ _ _ (le-leb (rooms (c ∷ s)) n h)

pub end_stops : (n c : ℕ) (s : Text) → n < rooms (c ∷ s) → end_in n (c ∷ s) ≡ end_in n s
end_stops n c s h = cond-false _ _ _ (lt-leb (rooms (c ∷ s)) n h)

pub end_all : (n : ℕ) (p : Text) → rooms p ≤ n → end_in n p ≡ p
end_all n [] h = refl
end_all n (c ∷ s) h = end_fits n c s h

end_skips : (n : ℕ) (x p : Text) (c : ℕ) → n < rooms (c ∷ p) → end_in n (x ++ c ∷ p) ≡ end_in n p
end_skips n [] p c h = end_stops n c p h
end_skips n (d ∷ x) p c h =
    let sum : rooms (x ++ c ∷ p) ≡ rooms x + rooms (c ∷ p) = rooms_append x (c ∷ p) in
    let long : n < rooms (d ∷ (x ++ c ∷ p)) = longer n (room d) (rooms (x ++ c ∷ p)) (rooms x) (rooms (c ∷ p)) sum h in
    end_stops n d (x ++ c ∷ p) long ∙ end_skips n x p c h

pub all_end : (n taken : ℕ) (t r : Text) → HasNoRoom (n - taken) r → (i : EndSoFar n t r taken) → end_in n t ≡ i.part
all_end n taken t _ empty i = ap (end_in n) i.text ∙ end_all n i.part (subst (λ z. z ≤ n) (sym i.columns) i.fits)
all_end n taken t _ (full x c h) i =
    let long : n < rooms (c ∷ i.part) = over n taken (room c) (rooms i.part) h i.columns in
    ap (end_in n) (i.text ∙ append_assoc x (c ∷ []) i.part) ∙ end_skips n x i.part c long ∙ end_all n i.part (subst (λ z. z ≤ n) (sym i.columns) i.fits)

pub whole_end : (n taken : ℕ) (t r : Text) → EndSoFar n t r taken → HasNoRoom (n - taken) r → nat_eq (length r) 0 ≡ nat_eq (length (end_in n t)) (length t)
whole_end n taken t r i none =
    all_after r i.part ∙ ap (λ z. nat_eq (length i.part) (length z)) (sym i.text) ∙ ap (λ z. nat_eq (length z) (length t)) (sym (all_end n taken t r none i))

-- a line ends with its text or at a newline
pub line_ends : (c : ℕ) (s : Text) → is_newline_char c ≡ nat_eq (length (first_line (c ∷ s))) 0
line_ends c s = elim (cases_Bool (is_newline_char c)) [
  | inl does ↦ does ∙ sym (ap (λ z. nat_eq (length z) 0) (cond-true _ _ _ does))
  | inr plain ↦
      let some : nat_eq (suc (length (first_line s))) 0 ≡ false = ne_eqb (suc (length (first_line s))) 0 (λ h. omega (arith, h)) in
      plain ∙ sym (ap (λ z. nat_eq (length z) 0) (cond-false _ _ _ plain) ∙ some)
]

-- the last character of a text
pub last_whole : (bs rest : List ℕ) (c : ℕ) → IsUtf8 rest → IsScalar c → bs ≡ rest ++ encode_utf8 c → chars bs ≡ chars rest ++ c ∷ []
last_whole bs rest c u w e =
    let one : chars (encode_utf8 c) ≡ c ∷ [] = chars_past_char (encode_utf8 c) [] c (IsUtf8-encode c w) (sym (append-nil (encode_utf8 c))) ∙ ap (λ z. c ∷ z) chars-nil in
    ap chars e ∙ chars-append rest (encode_utf8 c) u ∙ ap (λ z. chars rest ++ z) one

-- ---- a row that is cut

pub drop_front : (a b : Text) → drop (length a) (a ++ b) ≡ b
drop_front [] b = refl
drop_front (c ∷ a) b = drop_front a b

-- what is shown of a line whose mark has left before it and right from it on
shown_row : (n number : ℕ) (left right marked : Text) → Row
shown_row n number left right marked = row number (left_shown n left right ++ right_shown n left right) (left_shown n left right) (front_in (right_room n left right) marked)

-- the parts that a row is cut to
pub record AreParts (n : ℕ) (whole rest mark : Text) (b l r a m : Text) (k s : ℕ) : Type 0 where
  pub kept : k ≡ rooms (front_in (n / 2) rest)
  pub left : l ≡ end_in (n - k) whole
  pub taken : s ≡ rooms (end_in (n - k) whole)
  pub before : b ≡ dots whole (end_in (n - k) whole)
  pub right : r ≡ front_in (n - s) rest
  pub after : a ≡ dots rest (front_in (n - s) rest)
  pub marked : m ≡ front_in (n - s) mark

shown_so : (n number : ℕ) (left right marked before l r after m : Text) (kept taken : ℕ) → AreParts n left right marked before l r after m kept taken
    → row number ((before ++ l) ++ (r ++ after)) (before ++ l) m ≡ shown_row n number left right marked
unfolding shown_row
shown_so n number left right marked before l r after m kept taken is =
    let part : end_in (n - kept) left ≡ left_part n left right = ap (λ z. end_in (n - z) left) is.kept in
    let space : n - taken ≡ right_room n left right = ap (λ z. n - z) (is.taken ∙ ap rooms part) in
    let front : front_in (n - taken) right ≡ front_in (right_room n left right) right = ap (λ z. front_in z right) space in
    let first : before ++ l ≡ left_shown n left right = ap (λ z. before ++ z) (is.left ∙ part) ∙ ap (λ z. z ++ left_part n left right) (is.before ∙ ap (dots left) part) in
    let last : r ++ after ≡ right_shown n left right = ap (λ z. r ++ z) (is.after ∙ ap (dots right) front) ∙ ap (λ z. z ++ dots right (front_in (right_room n left right) right)) (is.right ∙ front) in
    let mark : m ≡ front_in (right_room n left right) marked = is.marked ∙ ap (λ z. front_in z marked) space in
    ap (λ z. row number (z ++ (r ++ after)) z m) first ∙ ap (λ z. row number (left_shown n left right ++ z) (left_shown n left right) m) last
    ∙ ap (λ z. row number (left_shown n left right ++ right_shown n left right) (left_shown n left right) z) mark

pub row_cut : (n number : ℕ) (left right marked before l r after m : Text) (kept taken : ℕ) → AreParts n left right marked before l r after m kept taken
    → row number ((before ++ l) ++ (r ++ after)) (before ++ l) m ≡ cut_row n (row number (left ++ right) left marked)
unfolding shown_row
row_cut n number left right marked before l r after m kept taken is =
    shown_so n number left right marked before l r after m kept taken is ∙ ap (λ z. shown_row n number left z marked) (sym (drop_front left right))
