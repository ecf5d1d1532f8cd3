-- The tokens of a value, and the value that they are of.
use Rattle.std.proofs.Common.{◌≡◌, ℕ, ℤ, Bool, true, false, List, [], ◌∷◌, refl, ap, ◌∙◌, sym, subst}
use Rattle.std.specs.Prelude.{FitsSigned, codes}
use Rattle.std.specs.Int.{w128}
use Rattle.std.specs.Fmt.{signed_decimal}
use Rattle.std.specs.Str.{IsUtf8, chars, encode_utf8_all}
use Rattle.std.proofs.lemmas.Str.{chars-IsAscii, chars_from_encodes, encodes-chars, encodes_same}
use Rattle.json.specs.Token as json'
use Rattle.json.specs.Token.{Token}
use Rattle.json.specs.Print.{IsNumber}
use Rattle.kdl_text.specs.Numbers.{FloatText}
use Rattle.kdl_value.specs.Data.{Value, text, integer, float, truth, null}
use Rattle.kdl_value.specs.WellFormed.{IsWellFormed}
use Rattle.kdl_json.specs.Form.{float_tokens, is_json_number, value_tokens}
use Rattle.kdl_json.specs.Values.{IsFloatOf, IsNumberOf, IsTextOf}
use Rattle.kdl_json.proofs.Numbers.{IsAscii-written, IsNumber-from_test, IsNumber-written, test-from_IsNumber, whole_no_float}

-- the tokens of a float that begin with a number, and with an object
record Numbered (b : Bool) (s u : List ℕ) (us ts : List Token) : Type 0 where
  is : b ≡ true
  text : s ≡ u
  rest : us ≡ ts

float_numbered : (b : Bool) (u s : List ℕ) (us ts : List Token) → json'.number s ∷ us ≡ float_tokens u b ts → Numbered b s u us ts
float_numbered true u s us ts e = record { is = refl; text = cc; rest = cc }
float_numbered false u s us ts e = cc

record Boxed (b : Bool) (u : List ℕ) (us ts : List Token) : Type 0 where
  is : b ≡ false
  rest : us ≡ json'.key (codes "float") ∷ json'.string u ∷ json'.end_object ∷ ts

float_boxed : (b : Bool) (u : List ℕ) (us ts : List Token) → json'.begin_object ∷ us ≡ float_tokens u b ts → Boxed b u us ts
float_boxed true u us ts e = cc
float_boxed false u us ts e = record { is = refl; rest = cc }

-- what is written as a number
pub record IsNumbered (s : List ℕ) (x : Value) (us ts : List Token) : Type 0 where
  pub of : IsNumberOf s x
  pub rest : us ≡ ts

pub value_numbered : (x : Value) (s : List ℕ) (us ts : List Token) → json'.number s ∷ us ≡ value_tokens x ts → IsNumbered s x us ts
value_numbered (text t) s us ts e = cc
value_numbered (integer z) s us ts e = let h : s ≡ signed_decimal z = cc in record { of = λ vs. ap (λ (u : List ℕ). json'.number u ∷ vs) h; rest = cc }
value_numbered (float t) s us ts e =
    let u = encode_utf8_all t in
    let h = float_numbered (is_json_number u) u s us ts e in
    record { of = λ vs. subst (λ (b : Bool). json'.number s ∷ vs ≡ float_tokens u b vs) (sym h.is) (ap (λ (w : List ℕ). json'.number w ∷ vs) h.text); rest = h.rest }
value_numbered (truth b) s us ts e = cc
value_numbered null s us ts e = cc

-- what is written as an object
pub record IsBoxed (x : Value) (us ts : List Token) : Type 0 where
  pub string : List ℕ
  pub of : IsFloatOf string x
  pub rest : us ≡ json'.key (codes "float") ∷ json'.string string ∷ json'.end_object ∷ ts

pub value_boxed : (x : Value) (us ts : List Token) → json'.begin_object ∷ us ≡ value_tokens x ts → IsBoxed x us ts
value_boxed (text t) us ts e = cc
value_boxed (integer z) us ts e = cc
value_boxed (float t) us ts e =
    let u = encode_utf8_all t in
    let h = float_boxed (is_json_number u) u us ts e in
    record {
      string = u;
      of = λ vs. subst (λ (b : Bool). json'.begin_object ∷ json'.key (codes "float") ∷ json'.string u ∷ json'.end_object ∷ vs ≡ float_tokens u b vs) (sym h.is) refl;
      rest = h.rest;
    }
value_boxed (truth b) us ts e = cc
value_boxed null us ts e = cc

-- what is written for a float, and for a whole number
pub float_number : (s : List ℕ) → IsUtf8 s → IsNumber s → IsNumberOf s (float (chars s))
float_number s u n = λ ts. let e = encodes-chars s u in
    subst (λ (w : List ℕ). json'.number s ∷ ts ≡ float_tokens w (is_json_number w) ts) (sym e)
    (subst (λ (b : Bool). json'.number s ∷ ts ≡ float_tokens s b ts) (sym (test-from_IsNumber s n)) refl)

no_test : (s : List ℕ) (b : Bool) → (b ≡ true → IsNumber s) → (IsNumber s → ⊥) → b ≡ false
no_test s true f n = absurd (n (f refl))
no_test s false f n = refl

pub float_object : (s : List ℕ) → IsUtf8 s → (IsNumber s → ⊥) → IsFloatOf s (float (chars s))
float_object s u n = λ ts. let e = encodes-chars s u in
    let Box = json'.begin_object ∷ json'.key (codes "float") ∷ json'.string s ∷ json'.end_object ∷ ts in
    subst (λ (w : List ℕ). Box ≡ float_tokens w (is_json_number w) ts) (sym e)
    (subst (λ (b : Bool). Box ≡ float_tokens s b ts) (sym (no_test s (is_json_number s) (IsNumber-from_test s) n)) refl)

-- a value that is written as a number has one, and is the float of that text, or the whole number
chars_written : (s : List ℕ) (z : ℤ) → FitsSigned w128 z → s ≡ signed_decimal z → chars s ≡ signed_decimal z
chars_written s z f e = ap chars e ∙ chars-IsAscii (signed_decimal z) (IsAscii-written z f)

pub has_number : (x : Value) (s : List ℕ) → IsWellFormed x → IsNumberOf s x → IsNumber s
has_number (text t) s w h = let e = h [] in cc
has_number (integer z) s w h = let e = h [] in let is : s ≡ signed_decimal z = cc in subst IsNumber (sym is) (IsNumber-written z w)
has_number (float t) s w h =
    let u = encode_utf8_all t in
    let k = float_numbered (is_json_number u) u s [] [] (h []) in
    subst IsNumber (sym k.text) (IsNumber-from_test u k.is)
has_number (truth b) s w h = let e = h [] in cc
has_number null s w h = let e = h [] in cc

pub is_float : (x : Value) (s : List ℕ) → IsUtf8 s → IsWellFormed x → IsNumberOf s x → FloatText (chars s) → float (chars s) ≡ x
is_float (text t) s u w h f = let e = h [] in cc
is_float (integer z) s u w h f =
    let e = h [] in
    let is : s ≡ signed_decimal z = cc in
    absurd (whole_no_float z w (subst FloatText (chars_written s z w is) f))
is_float (float t) s u w h f =
    let v = encode_utf8_all t in
    let k = float_numbered (is_json_number v) v s [] [] (h []) in
    ap float (sym (chars_from_encodes t s u (sym k.text)))
is_float (truth b) s u w h f = let e = h [] in cc
is_float null s u w h f = let e = h [] in cc

-- without a float, it is a whole number
pub record IsWhole (x : Value) (s : List ℕ) : Type 0 where
  pub number : ℤ
  pub fits : FitsSigned w128 number
  pub text : s ≡ signed_decimal number
  pub is : x ≡ integer number

pub is_whole : (x : Value) (s : List ℕ) → IsUtf8 s → IsWellFormed x → IsNumberOf s x → (FloatText (chars s) → ⊥) → IsWhole x s
is_whole (text t) s u w h f = let e = h [] in cc
is_whole (integer z) s u w h f = let e = h [] in record { number = z; fits = w; text = cc; is = refl }
is_whole (float t) s u w h f =
    let v = encode_utf8_all t in
    let k = float_numbered (is_json_number v) v s [] [] (h []) in
    absurd (f (subst FloatText (chars_from_encodes t s u (sym k.text)) w))
is_whole (truth b) s u w h f = let e = h [] in cc
is_whole null s u w h f = let e = h [] in cc

-- a value that is written as an object has no number, and is the float of that text
record IsOther (x : Value) (s : List ℕ) : Type 0 where
  float' : List ℕ
  is : x ≡ float float'
  text : s ≡ encode_utf8_all float'
  other : is_json_number s ≡ false

is_other : (x : Value) (s : List ℕ) → IsFloatOf s x → IsOther x s
is_other (text t) s h = let e = h [] in cc
is_other (integer z) s h = let e = h [] in cc
is_other (float t) s h =
    let v = encode_utf8_all t in
    let k = float_boxed (is_json_number v) v _ [] (h []) in
    let r = k.rest in
    let same : s ≡ v = cc in
    record { float' = t; is = refl; text = same; other = ap is_json_number same ∙ k.is }
is_other (truth b) s h = let e = h [] in cc
is_other null s h = let e = h [] in cc

pub has_no_number : (x : Value) (s : List ℕ) → IsFloatOf s x → IsNumber s → ⊥
has_no_number x s h n = let o = (is_other x s h).other in let t = test-from_IsNumber s n in cc

pub is_object : (x : Value) (s : List ℕ) → IsUtf8 s → IsFloatOf s x → float (chars s) ≡ x
is_object x s u h = let o = is_other x s h in ap float (sym (chars_from_encodes o.float' s u (sym o.text))) ∙ sym o.is

pub has_float : (x : Value) (s : List ℕ) → IsUtf8 s → IsWellFormed x → IsFloatOf s x → FloatText (chars s)
has_float x s u w h = subst IsWellFormed (sym (is_object x s u h)) w

-- strings, booleans and null
pub record IsRead (v x : Value) (us ts : List Token) : Type 0 where
  pub is : v ≡ x
  pub rest : us ≡ ts

pub text_tokens : (s : List ℕ) (v : Value) (ts : List Token) → IsTextOf s v → json'.string s ∷ ts ≡ value_tokens v ts
text_tokens s v ts h = ap (λ (u : List ℕ). json'.string u ∷ ts) (sym h.bytes) ∙ ap (λ (w : Value). value_tokens w ts) (sym h.is)

pub text_read : (s : List ℕ) (v x : Value) (us ts : List Token) → IsTextOf s v → json'.string s ∷ us ≡ value_tokens x ts → IsRead v x us ts
text_read s v (text t) us ts h e =
    let same : s ≡ encode_utf8_all t = cc in
    record { is = h.is ∙ ap text (encodes_same h.characters t (h.bytes ∙ same)); rest = cc }
text_read s v (integer z) us ts h e = cc
text_read s v (float t) us ts h e = go (is_json_number (encode_utf8_all t)) e
  where
    go : (b : Bool) → json'.string s ∷ us ≡ float_tokens (encode_utf8_all t) b ts → IsRead v (float t) us ts
    go true e = cc
    go false e = cc
text_read s v (truth b) us ts h e = cc
text_read s v null us ts h e = cc

pub truth_read : (b : Bool) (x : Value) (us ts : List Token) → json'.boolean b ∷ us ≡ value_tokens x ts → IsRead (truth b) x us ts
truth_read b (text t) us ts e = cc
truth_read b (integer z) us ts e = cc
truth_read b (float t) us ts e = go (is_json_number (encode_utf8_all t)) e
  where
    go : (d : Bool) → json'.boolean b ∷ us ≡ float_tokens (encode_utf8_all t) d ts → IsRead (truth b) (float t) us ts
    go true e = cc
    go false e = cc
truth_read b (truth d) us ts e = let same : b ≡ d = cc in record { is = ap truth same; rest = cc }
truth_read b null us ts e = cc

pub null_read : (x : Value) (us ts : List Token) → json'.null ∷ us ≡ value_tokens x ts → IsRead null x us ts
null_read (text t) us ts e = cc
null_read (integer z) us ts e = cc
null_read (float t) us ts e = go (is_json_number (encode_utf8_all t)) e
  where
    go : (d : Bool) → json'.null ∷ us ≡ float_tokens (encode_utf8_all t) d ts → IsRead null (float t) us ts
    go true e = cc
    go false e = cc
null_read (truth d) us ts e = cc
null_read null us ts e = record { is = refl; rest = cc }
