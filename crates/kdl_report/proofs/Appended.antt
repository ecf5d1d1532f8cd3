-- What is appended to a string.
use Rattle.std.proofs.Common.{◌≡◌, ℕ, zero, suc, ◌+◌, Bool, cond, List, [], ◌∷◌, ◌++◌, Result, Ok, Err, chars, is_ok, length, length-append, nat_eq, ◌&&◌, refl, sym, ap, ◌∙◌, append_assoc, arith, zero-add}
use Rattle.std.specs.Result.{OnOk}
use Rattle.std.proofs.lemmas.Bool.{and_left, ne_eqb}
use Rattle.std.proofs.lemmas.Result.{on_ok_weaker}
use Rattle.std.specs.Prelude.{String, encode_utf8_all, string_bytes}
use Rattle.std.specs.Str.{IsUtf8}
use Rattle.std.specs.declared.alloc.Global.{Global}
use Rattle.std.proofs.lemmas.Str.{IsUtf8-string_bytes, chars-append, chars-nil, encodes-append, encodes-chars}
use lib.Utf8.{encodes}
use Rattle.std.proofs.lemmas.List.{append-nil, nil_from_length}
use Rattle.std.proofs.lemmas.List.Concat.{flat_map-append}
use Rattle.std.proofs.lemmas.List.Sums.{sum_by-append}
use Rattle.kdl_text.specs.Chars.{Text, times}
use Rattle.kdl_report.specs.declared.places.Place.{Place}
use Rattle.kdl_report.specs.Picture.{spaced}
use Rattle.kdl_report.specs.Shown.{columns, shown, shown_bytes, shown_char, text_of, width}

pub appended : {A E : Type 0} (r : Result A E) (old new s : List ℕ) → IsUtf8 old → new ≡ cond (is_ok r) (old ++ s) old → OnOk r (chars new ≡ chars old ++ chars s)
appended (Ok u) old new s h e = ap chars e ∙ chars-append old s h
appended (Err u) old new s h e = tt

-- the bytes that are appended
pub bytes_appended : (old new : String Global) (t : Text) → text_of new ≡ text_of old ++ t → string_bytes new ≡ string_bytes old ++ encode_utf8_all t
bytes_appended old new t e =
    sym (encodes-chars (string_bytes new) (IsUtf8-string_bytes new)) ∙ (ap encodes e ∙ (encodes-append (text_of old) t ∙ ap (λ z. z ++ encodes t) (encodes-chars (string_bytes old) (IsUtf8-string_bytes old))))

-- one more
pub times_push : (n c : ℕ) → times n c ++ c ∷ [] ≡ times (suc n) c
times_push zero c = refl
times_push (suc n) c = ap (λ z. c ∷ z) (times_push n c)

pub times_add : (m n c : ℕ) → times (m + n) c ≡ times m c ++ times n c
times_add zero n c = ap (λ z. times z c) (zero-add n)
times_add (suc m) n c =
    let e : suc m + n ≡ suc (m + n) = omega arith in
    rw e (ap (λ z. c ∷ z) (times_add m n c))

pub shown_push : (t : Text) (c : ℕ) → shown (t ++ c ∷ []) ≡ shown t ++ shown_char c
shown_push t c = flat_map-append shown_char t (c ∷ []) ∙ ap (λ z. shown t ++ z) (append-nil (shown_char c))

-- a text whose characters are shown as they are
pub as_is : (bs t : List ℕ) → IsUtf8 bs → t ≡ chars bs → shown t ≡ t → shown_bytes bs ≡ bs
as_is bs t u e h = ap (λ z. encodes (shown z)) (sym e) ∙ (ap encodes (h ∙ e) ∙ encodes-chars bs u)

pub columns_push : (t : Text) (c : ℕ) → columns (shown (t ++ c ∷ [])) ≡ columns (shown t) + columns (shown_char c)
columns_push t c = ap columns (shown_push t c) ∙ sum_by-append width (shown t) (shown_char c)

pub columns_add : (a b : Text) (c : ℕ) → times (columns (shown a)) c ++ times (columns (shown b)) c ≡ times (columns (shown (a ++ b))) c
columns_add a b c =
    sym (times_add (columns (shown a)) (columns (shown b)) c) ∙ ap (λ z. times z c) (sym (sum_by-append width (shown a) (shown b)) ∙ ap columns (sym (flat_map-append shown_char a b)))

-- a line of four parts
pub line_shown : (x a b d e : Text) → (((x ++ shown a) ++ shown b) ++ shown d) ++ shown e ≡ x ++ shown ((a ++ b) ++ (d ++ e))
line_shown x a b d e =
    let parts : shown ((a ++ b) ++ (d ++ e)) ≡ (shown a ++ shown b) ++ (shown d ++ shown e) =
    flat_map-append shown_char (a ++ b) (d ++ e) ∙ ap (λ z. z ++ shown (d ++ e)) (flat_map-append shown_char a b) ∙ ap (λ z. (shown a ++ shown b) ++ z) (flat_map-append shown_char d e) in
    regroup x (shown a) (shown b) (shown d) (shown e) ∙ ap (λ z. x ++ z) (sym parts)
  where
    regroup : (x a b d e : Text) → (((x ++ a) ++ b) ++ d) ++ e ≡ x ++ ((a ++ b) ++ (d ++ e))
    regroup x a b d e = simp append_assoc

zero_sum : (m n : ℕ) → nat_eq (m + n) 0 ≡ (nat_eq m 0 && nat_eq n 0)
zero_sum zero n = ap (λ z. nat_eq z 0) (zero-add n)
zero_sum (suc m) n = ne_eqb (suc m + n) 0 (λ h. omega (arith, h)) ∙ sym (and_left _ _ (ne_eqb (suc m) 0 (λ h. omega (arith, h))))

pub both_empty : (a b : Text) → (nat_eq (length a) 0 && nat_eq (length b) 0) ≡ nat_eq (length (a ++ b)) 0
both_empty a b = sym (zero_sum (length a) (length b)) ∙ ap (λ z. nat_eq z 0) (sym (length-append a b))

-- a text without characters has no bytes
pub empty_chars : (bs : List ℕ) → IsUtf8 bs → nat_eq (length bs) 0 ≡ nat_eq (length (chars bs)) 0
empty_chars [] u = ap (λ z. nat_eq (length z) 0) (sym chars-nil)
empty_chars (b ∷ bs) u =
    let some : chars (b ∷ bs) ≡ [] → ⊥ = λ h. let none : b ∷ bs ≡ [] = sym (encodes-chars (b ∷ bs) u) ∙ ap encodes h in (cc) in
    ne_eqb (suc (length bs)) 0 (λ h. omega (arith, h)) ∙ sym (ne_eqb (length (chars (b ∷ bs))) 0 (λ h. some (nil_from_length (chars (b ∷ bs)) h)))

pub bare_push : (t : Text) (c n : ℕ) (b : Bool) → b ≡ nat_eq (columns (shown t)) 0 → n ≡ columns (shown_char c) → (b && nat_eq n 0) ≡ nat_eq (columns (shown (t ++ c ∷ []))) 0
bare_push t c n b h k =
    ap (λ z. z && nat_eq n 0) h ∙ ap (λ z. nat_eq (columns (shown t)) 0 && nat_eq z 0) k ∙ sym (zero_sum (columns (shown t)) (columns (shown_char c)))
    ∙ ap (λ z. nat_eq z 0) (sym (columns_push t c))

pub marks_push : (first old new t : Text) (c n mark : ℕ) → old ≡ first ++ times (columns (shown t)) mark → new ≡ old ++ times n mark → n ≡ columns (shown_char c) → new ≡ first ++ times (columns (shown (t ++ c ∷ []))) mark
marks_push first old new t c n mark h e k =
    e ∙ ap (λ z. z ++ times n mark) h ∙ append_assoc first (times (columns (shown t)) mark) (times n mark)
    ∙ ap (λ z. first ++ z) (ap (λ z. times (columns (shown t)) mark ++ times z mark) k ∙ sym (times_add (columns (shown t)) (columns (shown_char c)) mark) ∙ ap (λ z. times z mark) (sym (columns_push t c)))

-- one text after another
pub and_then : (first old new x y : Text) → old ≡ first ++ x → new ≡ old ++ y → new ≡ first ++ (x ++ y)
and_then first old new x y h e = e ∙ ap (λ z. z ++ y) h ∙ append_assoc first x y

pub and_last : {A E : Type 0} (r : Result A E) (first old new x y : Text) → old ≡ first ++ x → OnOk r (new ≡ old ++ y) → OnOk r (new ≡ first ++ (x ++ y))
and_last r first old new x y h = on_ok_weaker r (and_then first old new x y h)

pub as_piece : (old new x y : Text) → new ≡ old ++ x → x ≡ y → new ≡ old ++ y
as_piece old new x y e p = e ∙ ap (λ z. old ++ z) p

pub as_last : {A E : Type 0} (r : Result A E) (old new x y : Text) → OnOk r (new ≡ old ++ x) → x ≡ y → OnOk r (new ≡ old ++ y)
as_last r old new x y e p = on_ok_weaker r (λ h. as_piece old new x y h p) e

pub spaced_some : (t : Text) → (t ≡ [] → ⊥) → 32 ∷ [] ++ shown t ≡ spaced t
spaced_some [] h = absurd (h refl)
spaced_some (c ∷ s) h = refl

pub same_place : (p : Place) (m n : ℕ) → p.line ≡ m → p.column ≡ n → p ≡ record { line = m; column = n }
same_place p m n h k = rw (← h, ← k) refl
