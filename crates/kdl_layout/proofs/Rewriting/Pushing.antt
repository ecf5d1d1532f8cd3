-- Texts that are written one after another.
use Rattle.kdl_layout.proofs.Common.{◌≡◌, ◌≢◌, ℕ, ◌+◌, ◌-◌, ◌<◌, ◌≤◌, ◌==◌, Bool, true, false, List, [], ◌∷◌, ◌++◌, length, take, get_or, refl, sym, ap, ◌∙◌, arith, lit<, zero, suc, append_assoc, append-nil, Some, Result, Ok, Err, IfOk, MatchBool, eqb-true, map-append, chars-IsAscii, chars-append, chars-nil, encodes-append, encodes-chars, IsUtf8-take, encode_utf8, chars, encode_utf8_all, IsUtf8, IsAscii, Text, comment, piece, item_text, line_text, lines, tail, item_view, items_view}
use Rattle.std.proofs.lemmas.Bool.{eq-eqb}
use Rattle.std.proofs.lemmas.List.{take_all, take_more}
use Rattle.std.specs.Str.Pattern.{FindsCharSuffix}
use Rattle.kdl_layout.specs.Items as items
use Rattle.kdl_layout.specs.declared.spaces.Item.{Item}
use Rattle.kdl_layout.proofs.Rewriting.BeforeNewlines.{line_after}

pub if_ok : {A E P Q : Type 0} (r : Result A E) → (P → Q) → IfOk r (λ (a : A). P) → IfOk r (λ (a : A). Q)
if_ok (Ok a) f p = f p
if_ok (Err e) f p = p

small : (c : ℕ) (s : List ℕ) → c < 128 → IsAscii s → IsAscii (c ∷ s)
small c s h a zero = h
small c s h a (suc i) = a i

none : IsAscii []
none i = lit< tt

-- an ASCII character is its own byte
pub one_char : (c : ℕ) → c < 128 → chars (c ∷ []) ≡ c ∷ []
one_char c h = chars-IsAscii (c ∷ []) (small c [] h none)

pub escline_text : chars (32 ∷ 92 ∷ 32 ∷ []) ≡ 32 ∷ 92 ∷ 32 ∷ []
escline_text = chars-IsAscii (32 ∷ 92 ∷ 32 ∷ []) (small 32 (92 ∷ 32 ∷ []) (omega arith) (small 92 (32 ∷ []) (omega arith) (small 32 [] (omega arith) none)))

-- what two or three writes in a row have written
pub two : (now mid was a b : Text) → now ≡ mid ++ b → mid ≡ was ++ a → now ≡ was ++ (a ++ b)
two now mid was a b e f = e ∙ ap (λ (t : Text). t ++ b) f ∙ append_assoc was a b

pub three : (now late mid was a b c : Text) → now ≡ late ++ c → late ≡ mid ++ b → mid ≡ was ++ a → now ≡ was ++ (a ++ b ++ c)
three now late mid was a b c e f g = two now late was (a ++ b) c e (two late mid was a b f g)

-- a text without the CR at its end
pub line_shorter : (bs front : List ℕ) → IsUtf8 bs → (n : ℕ) × FindsCharSuffix 13 bs (Some n) × (front ≡ take (length bs - n) bs) × (length front + n ≡ length bs)
    → bs ≡ front ++ (13 ∷ []) → line_text (chars bs) ≡ chars front ++ (10 ∷ [])
line_shorter bs front u h e =
    let v : IsUtf8 (take (length bs - h.0) bs) = IsUtf8-take bs (length bs - h.0) u (rw h.1.0 h.1.2) in
    let w : IsUtf8 front = rw h.2 v in
    ap line_text (ap chars e ∙ chars-append front (13 ∷ []) w ∙ ap (λ (t : Text). chars front ++ t) (one_char 13 (omega arith))) ∙ line_after (chars front) 13 []

-- a text without one
last_other : (s : Text) → ((p : Text) → s ≡ p ++ (13 ∷ []) → ⊥) → line_text s ≡ s
last_other [] h = refl
last_other (c ∷ []) h = go (c == 13) refl
  where
    go : (b : Bool) → (c == 13) ≡ b → line_text (c ∷ []) ≡ c ∷ []
    go true e = absurd (h [] (ap (λ (d : ℕ). d ∷ []) (eqb-true c 13 e)))
    go false e = rw e refl
last_other (c ∷ d ∷ s) h = ap (λ (t : Text). c ∷ t) (last_other (d ∷ s) (λ p e. h (c ∷ p) (ap (λ (t : Text). c ∷ t) e)))

pub line_same : (bs : List ℕ) → IsUtf8 bs → ((front : List ℕ) → bs ≢ front ++ encode_utf8 13) → line_text (chars bs) ≡ chars bs
line_same bs u h =
    last_other (chars bs) (λ p e. h (encode_utf8_all p) (sym (encodes-chars bs u) ∙ ap encode_utf8_all e ∙ encodes-append p (13 ∷ []) ∙ ap (λ (x : List ℕ). encode_utf8_all p ++ x) (append-nil (encode_utf8 13))))

-- items that are written one by one
pub lines_after : (before : Text) (is js : List items.Item) → lines before (is ++ js) ≡ lines before is ++ lines before js
lines_after before [] js = refl
lines_after before (i ∷ is) js = rw (lines_after before is js) (sym (append_assoc (before ++ line_text (item_text i) ++ (10 ∷ [])) (lines before is) (lines before js)))

pub tail_after : (is js : List items.Item) → tail (is ++ js) ≡ tail is ++ tail js
tail_after [] js = refl
tail_after (comment t ∷ is) js = rw (tail_after is js) (sym (append_assoc (32 ∷ 92 ∷ 32 ∷ t ++ (10 ∷ [])) (tail is) (tail js)))
tail_after (piece t ∷ is) js = rw (tail_after is js) (sym (append_assoc (32 ∷ t) (tail is) (tail js)))

-- one more is written
pub one_more : (write : List items.Item → Text) → ((is js : List items.Item) → write (is ++ js) ≡ write is ++ write js)
    → (xs : List Item) (i : ℕ) (d : Item) (now mid was : Text) → i < length xs → now ≡ mid ++ write (item_view (get_or xs i d) ∷ []) → mid ≡ was ++ write (items_view (take i xs))
    → now ≡ was ++ write (items_view (take (i + 1) xs))
one_more write joins xs i d now mid was h e f =
    two now mid was (write (items_view (take i xs))) (write (item_view (get_or xs i d) ∷ [])) e f
    ∙ ap (λ (t : Text). was ++ t) (sym (ap (λ (z : List Item). write (items_view z)) (take_more xs i d h) ∙ ap write (map-append item_view (take i xs) (get_or xs i d ∷ [])) ∙ joins (items_view (take i xs)) (item_view (get_or xs i d) ∷ [])))

-- all are
pub all_written : (write : List items.Item → Text) (xs : List Item) (i : ℕ) (now was : Text) → length xs ≤ i → now ≡ was ++ write (items_view (take i xs)) → now ≡ was ++ write (items_view xs)
all_written write xs i now was h e = e ∙ ap (λ (z : List Item). was ++ write (items_view z)) (take_all i xs h)

-- a text has no characters where it has no bytes
pub no_bytes : (b : Bool) (bs : List ℕ) → IsUtf8 bs → b ≡ (length bs == 0) → MatchBool b (chars bs ≡ []) (chars bs ≢ [])
no_bytes true [] u e = chars-nil
no_bytes false [] u e = let f = eq-eqb 0 0 refl in absurd (cc)
no_bytes true (x ∷ bs) u e = let z : suc (length bs) ≡ 0 = eqb-true (length (x ∷ bs)) 0 (sym e) in absurd (cc)
no_bytes false (x ∷ bs) u e = λ z. let f : x ∷ bs ≡ [] = sym (encodes-chars (x ∷ bs) u) ∙ ap encode_utf8_all z in absurd (cc)
