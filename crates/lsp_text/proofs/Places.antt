-- Where the lines and the positions of a text are.
use Rattle.std.proofs.Common.{◌≡◌, ℕ, zero, suc, ◌+◌, ◌-◌, ◌≤◌, Bool, true, false, not, ◌&&◌, ◌||◌, ◌==◌, cond, max, List, [], ◌∷◌, ◌++◌, length, take, drop, refl, sym, ap, ◌∙◌, subst, append_assoc, length-append, zero-add, arith, inl, inr}
use Rattle.std.proofs.lemmas.Bool.{and_from, and_parts, cases_Bool, cases_lt, cond-true, cond-false, or_from, or_parts, or_right}
use Rattle.std.proofs.lemmas.List.{drop-drop, drop_at, take-append-drop}
use Rattle.std.proofs.lemmas.Str.{IsUtf8-append, IsCharBoundary-at_seam, chars-append, chars-encodes, encodes-append, encodes-chars, length-encode, scalars-chars}
use Rattle.std.proofs.Math.Seq.{take-add, take-append_seam, drop-append_seam}
use Rattle.std.specs.Char.{}
use Rattle.std.specs.Str.{IsCharBoundary, IsUtf8, chars}
use lib.Utf8.{encode, encodes, scalar, scalars}
use Rattle.lsp_text.specs.declared.position.Encoding.{Encoding}
use Rattle.lsp_text.specs.declared.position.Encoding.TheVariants.{Utf8}
use Rattle.lsp_text.specs.declared.position.Position.{Position}
use Rattle.lsp_text.specs.Positions.{Text, after_line, begins_feed, ends_line, first_line, from_line, front, index, line, line_start, lines_before, position, size, units, units_before}
use Rattle.lsp_text.specs.Steps.{stepped, walked}

-- ---- sizes

pub size-append : (e : Encoding) (s t : Text) → size e (s ++ t) ≡ size e s + size e t
size-append e [] t = sym (zero-add (size e t))
size-append e (c ∷ s) t = omega (arith, size-append e s t)

size-encodes : (cs : Text) → size Utf8 cs ≡ length (encodes cs)
size-encodes [] = refl
size-encodes (c ∷ cs) = omega (arith, length-append (encode c) (encodes cs), length-encode c, size-encodes cs)

pub size-bytes : (bs : List ℕ) → IsUtf8 bs → size Utf8 (chars bs) ≡ length bs
size-bytes bs u = size-encodes (chars bs) ∙ ap length (encodes-chars bs u)

scalars_before : (xs ys : Text) → scalars (xs ++ ys) ≡ true → scalars xs ≡ true
scalars_before [] ys h = refl
scalars_before (x ∷ xs) ys h = let p = and_parts (scalar x) (scalars (xs ++ ys)) h in and_from _ _ p.0 (scalars_before xs ys p.1)

pub scalars_after : (xs ys : Text) → scalars (xs ++ ys) ≡ true → scalars ys ≡ true
scalars_after [] ys h = h
scalars_after (x ∷ xs) ys h = scalars_after xs ys (and_parts (scalar x) (scalars (xs ++ ys)) h).1

-- ---- lines

pub from_line_nil : (n : ℕ) → from_line n [] ≡ []
from_line_nil zero = refl
from_line_nil (suc n) = from_line_nil n

after_line_rest : (t : Text) → (p : Text) × (t ≡ p ++ after_line t)
after_line_rest [] = ([], refl)
after_line_rest (c ∷ t) = elim (cases_Bool (ends_line c t)) [
  | inl h ↦ (c ∷ [], ap (λ z. c ∷ z) (sym (cond-true _ _ _ h)))
  | inr h ↦ let i = after_line_rest t in (c ∷ i.0, ap (λ z. c ∷ z) (i.1 ∙ ap (λ z. i.0 ++ z) (sym (cond-false _ _ _ h))))
]

pub from_line_rest : (n : ℕ) (t : Text) → (p : Text) × (t ≡ p ++ from_line n t)
from_line_rest zero t = ([], refl)
from_line_rest (suc n) t =
    let i = after_line_rest t in
    let j = from_line_rest n (after_line t) in
    (i.0 ++ j.0, i.1 ∙ ap (λ z. i.0 ++ z) j.1 ∙ sym (append_assoc i.0 j.0 _))

pub from_line_le : (n : ℕ) (t : Text) → length (from_line n t) ≤ length t
from_line_le n t = let r = from_line_rest n t in omega (arith, ap length r.1, length-append r.0 (from_line n t))

pub line_start_drop : (n : ℕ) (t : Text) → drop (line_start n t) t ≡ from_line n t
line_start_drop n t =
    let r = from_line_rest n t in
    let e : length r.0 ≡ line_start n t = omega (arith, ap length r.1, length-append r.0 (from_line n t)) in
    ap (drop (line_start n t)) r.1 ∙ drop_at r.0 (from_line n t) (line_start n t) e

pub index_drop : (e : Encoding) (p : Position) (t : Text) → drop (index e p t) t ≡ drop (length (front e p.character (line p.line t))) (from_line p.line t)
index_drop e p t =
    sym (drop-drop (length (front e p.character (line p.line t))) (line_start p.line t) t) ∙ ap (drop (length (front e p.character (line p.line t)))) (line_start_drop p.line t)

-- ---- bytes

pub record IsOffset (bs ds : List ℕ) (i : ℕ) : Type 0 where
  pub le : length ds ≤ length bs
  pub offset : length bs - length ds ≡ size Utf8 (take i (chars bs))
  pub boundary : IsCharBoundary bs (length bs - length ds)

pub is_offset : (bs ds : List ℕ) (i : ℕ) → IsUtf8 bs → IsUtf8 ds → chars ds ≡ drop i (chars bs) → IsOffset bs ds i
is_offset bs ds i u v e =
    let f = take i (chars bs) in
    let w : bs ≡ encodes f ++ ds =
    sym (encodes-chars bs u) ∙ ap encodes (sym (take-append-drop i (chars bs))) ∙ encodes-append f (drop i (chars bs)) ∙ ap (λ x. encodes f ++ x) (ap encodes (sym e) ∙ encodes-chars ds v) in
    let n : length bs ≡ length (encodes f) + length ds = ap length w ∙ length-append (encodes f) ds in
    let k : length (encodes f) ≡ length bs - length ds = omega (arith, n) in
    record {
      le = omega (arith, n);
      offset = sym k ∙ sym (size-encodes f);
      boundary = subst (IsCharBoundary bs) k (IsCharBoundary-at_seam bs (encodes f) ds w v);
    }

pub offset_found : (e : Encoding) (p : Position) (bs ls ds : List ℕ) → IsUtf8 bs → IsUtf8 ds → chars ls ≡ from_line p.line (chars bs)
    → chars ds ≡ drop (length (front e p.character (first_line (chars ls)))) (chars ls) → IsOffset bs ds (index e p (chars bs))
offset_found e p bs ls ds u v l r =
    is_offset bs ds (index e p (chars bs)) u v (r ∙ ap (λ z. drop (length (front e p.character (first_line z))) z) l ∙ sym (index_drop e p (chars bs)))

-- ---- reading from left to right

not_false : (b : Bool) → not b ≡ false → b ≡ true
not_false true h = refl
not_false false h = absurd (cc h)

pub same_position : (p : Position) (m n : ℕ) → p.line ≡ m → p.character ≡ n → p ≡ record { line = m; character = n }
same_position p m n h k = rw (← h, ← k) refl

pub start_ends : (n c : ℕ) (t : Text) → ends_line c t ≡ true → line_start (suc n) (c ∷ t) ≡ suc (line_start n t)
start_ends n c t h = ap (λ z. suc (length t) - length (from_line n z)) (cond-true _ _ _ h) ∙ omega (arith, from_line_le n t)

pub start_goes : (n c : ℕ) (t : Text) → ends_line c t ≡ false → line_start (suc n) (c ∷ t) ≡ suc (line_start (suc n) t)
start_goes n c t h = ap (λ z. suc (length t) - length (from_line n z)) (cond-false _ _ _ h) ∙ omega (arith, from_line_le (suc n) t)

pub start_zero : (t : Text) → line_start 0 t ≡ 0
start_zero t = omega arith

pub units_first : (e : Encoding) (k : ℕ) (t : Text) → lines_before k t ≡ 0 → units_before e k t ≡ size e (first_line (take k t))
units_first e k t h = ap (λ z. size e (first_line (drop z (take k t)))) (ap (λ n. line_start n t) h ∙ start_zero t)

pub units_ends : (e : Encoding) (k c : ℕ) (t : Text) → ends_line c t ≡ true → units_before e (suc k) (c ∷ t) ≡ units_before e k t
units_ends e k c t h =
    ap (λ z. size e (first_line (drop z (c ∷ take k t)))) (ap (λ n. line_start n (c ∷ t)) (cond-true _ _ _ h) ∙ start_ends (lines_before k t) c t h)

pub units_goes : (e : Encoding) (k c m : ℕ) (t : Text) → ends_line c t ≡ false → lines_before k t ≡ suc m → units_before e (suc k) (c ∷ t) ≡ units_before e k t
units_goes e k c m t h n =
    ap (λ z. size e (first_line (drop z (c ∷ take k t)))) (ap (λ n. line_start n (c ∷ t)) (cond-false _ _ _ h ∙ n) ∙ start_goes m c t h)
    ∙ ap (λ z. size e (first_line (drop (line_start z t) (take k t)))) (sym n)

pub units_here : (e : Encoding) (k c : ℕ) (t : Text) → ends_line c t ≡ false → lines_before k t ≡ 0 → units_before e (suc k) (c ∷ t) ≡ size e (first_line (c ∷ take k t))
units_here e k c t h n = units_first e (suc k) (c ∷ t) (cond-false _ _ _ h ∙ n)

pub first_line_feed : (k : ℕ) (t : Text) → begins_feed t ≡ true → first_line (take k t) ≡ []
first_line_feed zero t h = refl
first_line_feed (suc k) [] h = refl
first_line_feed (suc k) (c ∷ t) h = ap (λ z. cond (z || c == 13) [] (c ∷ first_line (take k t))) h

-- ---- the position after some characters

kept : ℕ → ℕ → ℕ
kept zero n = n
kept (suc m) n = 0

kept_zero : (m : ℕ) → kept m 0 ≡ 0
unfolding kept
kept_zero zero = refl
kept_zero (suc m) = refl

record IsWalked (e : Encoding) (p q : Position) (k : ℕ) (t : Text) : Type 0 where
  line : q.line ≡ p.line + lines_before k t
  character : q.character ≡ kept (lines_before k t) p.character + units_before e k t

walked_ends : (e : Encoding) (p q : Position) (k c : ℕ) (t : Text) → ends_line c t ≡ true → IsWalked e (record { line = p.line + 1; character = 0 }) q k t → IsWalked e p q (suc k) (c ∷ t)
unfolding kept
walked_ends e p q k c t h w =
    let n : lines_before (suc k) (c ∷ t) ≡ suc (lines_before k t) = cond-true _ _ _ h in
    record {
      line = omega (arith, w.line, n);
      character = w.character ∙ ap (λ z. z + units_before e k t) (kept_zero (lines_before k t) ∙ sym (ap (λ z. kept z p.character) n)) ∙ ap (λ z. kept (lines_before (suc k) (c ∷ t)) p.character + z) (sym (units_ends e k c t h));
    }

-- the line does not end: `kept` is the count of units so far, after the character too
walked_goes : (e : Encoding) (p q : Position) (k c n m : ℕ) (t : Text) → ends_line c t ≡ false → lines_before k t ≡ m
    → (m ≡ 0 → n + size e (first_line (take k t)) ≡ p.character + size e (first_line (c ∷ take k t)))
    → IsWalked e (record { line = p.line; character = n }) q k t → IsWalked e p q (suc k) (c ∷ t)
unfolding kept
walked_goes e p q k c n zero t h l s w =
    let g : lines_before (suc k) (c ∷ t) ≡ lines_before k t = cond-false _ _ _ h in
    record {
      line = omega (arith, w.line, g);
      character = w.character ∙ ap (λ z. kept z n + units_before e k t) l ∙ ap (λ z. n + z) (units_first e k t l) ∙ s refl
          ∙ ap (λ z. p.character + z) (sym (units_here e k c t h l)) ∙ ap (λ z. kept z p.character + units_before e (suc k) (c ∷ t)) (sym (g ∙ l));
    }
walked_goes e p q k c n (suc m) t h l s w =
    let g : lines_before (suc k) (c ∷ t) ≡ lines_before k t = cond-false _ _ _ h in
    record {
      line = omega (arith, w.line, g);
      character = w.character ∙ ap (λ z. kept z n + units_before e k t) l ∙ ap (λ z. 0 + z) (sym (units_goes e k c m t h l)) ∙ ap (λ z. kept z p.character + units_before e (suc k) (c ∷ t)) (sym (g ∙ l));
    }

-- a line feed follows a CR that does not end a line
pub before_feed : (c : ℕ) (t : Text) → ends_line c t ≡ false → (c == 13) ≡ true → begins_feed t ≡ true
before_feed c t h r = not_false (begins_feed t) (sym (ap (λ z. z && not (begins_feed t)) r) ∙ (or_parts (c == 10) ((c == 13) && not (begins_feed t)) h).1)

is_walked : (e : Encoding) (p : Position) (k : ℕ) (t : Text) → IsWalked e p (walked e p k t) k t
unfolding kept
is_walked e p zero t = record { line = omega arith; character = omega (arith, units_first e 0 t refl) }
is_walked e p (suc k) [] = record { line = omega arith; character = omega (arith, units_first e (suc k) [] refl) }
is_walked e p (suc k) (c ∷ t) = elim (cases_Bool (ends_line c t)) [
  | inl h ↦
      let q : Position = record { line = p.line + 1; character = 0 } in
      let s : stepped e p c t ≡ q = cond-true _ _ _ h in
      walked_ends e p _ k c t h (subst (λ (r : Position). IsWalked e q (walked e r k t) k t) (sym s) (is_walked e q k t))
  | inr h ↦ elim (cases_Bool (c == 13)) [
    | inl r ↦
        let s : stepped e p c t ≡ p = cond-false _ _ _ h ∙ cond-true _ _ _ r in
        let none : size e (first_line (take k t)) ≡ 0 = ap (size e) (first_line_feed k t (before_feed c t h r)) in
        let gone : size e (first_line (c ∷ take k t)) ≡ 0 = ap (size e) (cond-true (c == 10 || c == 13) [] (c ∷ first_line (take k t)) (or_right (c == 10) (c == 13) r)) in
        walked_goes e p _ k c p.character _ t h refl (λ _. omega (arith, none, gone)) (subst (λ (r : Position). IsWalked e p (walked e r k t) k t) (sym s) (is_walked e p k t))
    | inr r ↦
        let q : Position = record { line = p.line; character = p.character + units e c } in
        let s : stepped e p c t ≡ q = cond-false _ _ _ h ∙ cond-false _ _ _ r in
        let plain : first_line (c ∷ take k t) ≡ c ∷ first_line (take k t) = cond-false _ _ _ (or_from _ _ (or_parts (c == 10) ((c == 13) && not (begins_feed t)) h).0 r) in
        walked_goes e p _ k c q.character _ t h refl (λ _. omega (arith, ap (size e) plain)) (subst (λ (r : Position). IsWalked e q (walked e r k t) k t) (sym s) (is_walked e q k t))
  ]
]

pub walked_position : (e : Encoding) (k : ℕ) (t : Text) → walked e (record { line = 0; character = 0 }) k t ≡ position e k t
walked_position e k t =
    let w = is_walked e (record { line = 0; character = 0 }) k t in
    let l : (walked e (record { line = 0; character = 0 }) k t).line ≡ lines_before k t = w.line ∙ zero-add _ in
    let c : (walked e (record { line = 0; character = 0 }) k t).character ≡ units_before e k t =
    w.character ∙ ap (λ z. z + units_before e k t) (kept_zero (lines_before k t)) ∙ zero-add _ in
    same_position _ _ _ l c

-- ---- parts of a text

pub size_take_le : (e : Encoding) (i j : ℕ) (t : Text) → i ≤ j → size e (take i t) ≤ size e (take j t)
size_take_le e i j t h =
    let k : j ≡ i + (j - i) = omega arith in
    omega (arith, ap (λ z. size e (take z t)) k, ap (size e) (take-add i (j - i) t), size-append e (take i t) (take (j - i) (drop i t)))

pub size_take_max : (e : Encoding) (i j : ℕ) (t : Text) → max (size e (take i t)) (size e (take j t)) ≡ size e (take (max i j) t)
size_take_max e i j t = elim (cases_lt i j) [
  | inl h ↦
      let m : max i j ≡ j = omega arith in
      rw m (omega (arith, size_take_le e i j t (omega (arith, h))))
  | inr h ↦
      let m : max i j ≡ i = omega arith in
      rw m (omega (arith, size_take_le e j i t h))
]

parts_of : (bs : List ℕ) (i : ℕ) → IsUtf8 bs → bs ≡ encodes (take i (chars bs)) ++ encodes (drop i (chars bs))
parts_of bs i u = sym (encodes-chars bs u) ∙ ap encodes (sym (take-append-drop i (chars bs))) ∙ encodes-append (take i (chars bs)) (drop i (chars bs))

pub chars_take : (bs : List ℕ) (i n : ℕ) → IsUtf8 bs → n ≡ size Utf8 (take i (chars bs)) → chars (take n bs) ≡ take i (chars bs)
chars_take bs i n u e =
    let f = take i (chars bs) in
    let r = drop i (chars bs) in
    let ok : scalars f ≡ true = scalars_before f r (subst (λ z. scalars z ≡ true) (sym (take-append-drop i (chars bs))) (scalars-chars bs u)) in
    ap (λ z. chars (take n z)) (parts_of bs i u) ∙ ap (λ z. chars (take z (encodes f ++ encodes r))) (e ∙ size-encodes f) ∙ ap chars (take-append_seam (encodes f) (encodes r)) ∙ chars-encodes f ok

pub chars_drop : (bs : List ℕ) (i n : ℕ) → IsUtf8 bs → n ≡ size Utf8 (take i (chars bs)) → chars (drop n bs) ≡ drop i (chars bs)
chars_drop bs i n u e =
    let f = take i (chars bs) in
    let r = drop i (chars bs) in
    let ok : scalars r ≡ true = scalars_after f r (subst (λ z. scalars z ≡ true) (sym (take-append-drop i (chars bs))) (scalars-chars bs u)) in
    ap (λ z. chars (drop n z)) (parts_of bs i u) ∙ ap (λ z. chars (drop z (encodes f ++ encodes r))) (e ∙ size-encodes f) ∙ ap chars (drop-append_seam (encodes f) (encodes r)) ∙ chars-encodes r ok

-- three parts, one after another
pub three_parts : (a b d o x y z : List ℕ) → IsUtf8 a → IsUtf8 b → o ≡ [] → x ≡ o ++ a → y ≡ x ++ b → z ≡ y ++ d → chars z ≡ chars a ++ chars b ++ chars d
three_parts a b d o x y z ua ub eo ex ey ez =
    let all : z ≡ (a ++ b) ++ d = ez ∙ ap (λ v. v ++ d) (ey ∙ ap (λ v. v ++ b) (ex ∙ ap (λ v. v ++ a) eo)) in
    ap chars all ∙ chars-append (a ++ b) d (IsUtf8-append a b ua ub) ∙ ap (λ v. v ++ chars d) (chars-append a b ua)
