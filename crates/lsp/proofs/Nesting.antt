-- Where writers of JSON are.
use Rattle.std.proofs.Common.{arith, ◌≡◌, ◌++◌, ◌∷◌, ◌∙◌, ◌+◌, ◌<◌, ◌≤◌, [], ℕ, zero, suc, List, OnOk, Result, Ok, String, Global, ap, fold, refl, string_bytes, subst, sym}
use Rattle.std.proofs.lemmas.Grind.{fold-append}
use Rattle.std.proofs.lemmas.List.{append-nil, append_assoc}
use Rattle.std.proofs.lemmas.Result.{on_ok_weaker}
use Rattle.json.proofs.Numbered.{ArePrintableOrBad-tokens, value-HasNumbers}
use Rattle.json.proofs.Printed.Trees.{value-json_tokens}
use Rattle.json.specs.Json as json
use Rattle.json.specs.Json.{Json, array, boolean, item, member, no_items, no_members, null, number, object, string}
use Rattle.json.specs.Lex.{tokens}
use Rattle.json.specs.Print.{ArePrintableOrBad, print}
use Rattle.json.specs.Token as token
use Rattle.json.specs.Token.{Token}
use Rattle.json.specs.Tree.{HasNumbers, depth, items_tokens, json_tokens, members_tokens}
use Rattle.json.specs.Written.{Written, Writes}
use Rattle.lsp.specs.Internal.Nesting.{Nesting, Start, End, Items, Members, Value, Broken, after_key, after_members, after_token, after_value, first, greeting_head, in_objects, nesting}
use Rattle.lsp.specs.Replies.{IsJson, IsSomeJson, greeting_json}
use Rattle.lsp_text.specs.declared.position.Encoding.{Encoding}

-- a token is written by a writer that is at a place
pub wrote_last : {E : Type 0} (r : Result (Unit {0}) E) (old new : Written) (t : Token) → Writes r old new t → OnOk r ((n : Nesting) → nesting old ≡ n → nesting new ≡ after_token n t)
wrote_last r old new t w =
    on_ok_weaker r
    (λ e n is. ap (λ b. fold after_token (first b) new.tokens) w.room.0 ∙ ap (fold after_token (first old.before)) e
    ∙ fold-append after_token (first old.before) old.tokens (t ∷ []) ∙ ap (λ m. after_token m t) is)
    w.ok

pub wrote : {E : Type 0} (u : Unit {0}) (old new : Written) (t : Token) (n : Nesting) → Writes {E = E} (Ok u) old new t → nesting old ≡ n → nesting new ≡ after_token n t
wrote u old new t n w is = wrote_last (Ok u) old new t w n is

-- tokens are written by a writer that has written nothing
pub begun : (b : List ℕ) (ss ts : List Token) → b ≡ [] → ss ≡ ts → fold after_token (first b) ss ≡ fold after_token Start ts
begun b ss ts before is = ap (λ x. fold after_token (first x) ss) before ∙ ap (fold after_token Start) is

-- ---- objects, each in the one before it

-- the first is an item, and each other one is the value of a key
pub first_object : (k : ℕ) (n : Nesting) → k ≤ 0 → after_value (in_objects k n) ≡ in_objects k n
first_object zero n h = refl
first_object (suc k) n h = absurd (omega arith)

pub one_more : (k j : ℕ) (n : Nesting) → j ≡ k + 1 → Members (in_objects k n) ≡ in_objects j n
one_more k zero n e = absurd (omega arith)
one_more k (suc j) n e = let same : k ≡ j = omega arith in ap (λ i. Members (in_objects i n)) same

pub next_object : (k : ℕ) (n : Nesting) → 0 < k → after_value (after_key (in_objects k n)) ≡ in_objects k n
next_object zero n h = absurd (omega arith)
next_object (suc k) n h = refl

pub one_less : (k j : ℕ) (n : Nesting) → j + 1 ≡ k → after_members (in_objects k n) ≡ in_objects j n
one_less zero j n e = absurd (omega arith)
one_less (suc k) j n e = let same : k ≡ j = omega arith in ap (λ i. in_objects i n) same

-- ---- tokens that end a value are those of one

-- what the tokens are that come to the end of the value
abbrev Fits : Nesting → List Token → Type 0
Fits Start ts = (j : Json) × (ts ≡ json_tokens j)
Fits End ts = ts ≡ []
Fits (Items n) ts = (js : json.Items) × (us : List Token) × (ts ≡ items_tokens js ++ us) × Fits n us
Fits (Members n) ts = (ms : json.Members) × (us : List Token) × (ts ≡ members_tokens ms ++ us) × Fits n us
Fits (Value n) ts = (j : Json) × (ms : json.Members) × (us : List Token) × (ts ≡ json_tokens j ++ (members_tokens ms ++ us)) × Fits n us
Fits Broken ts = ⊥

value_fits : (n : Nesting) (j : Json) (us : List Token) → Fits (after_value n) us → Fits n (json_tokens j ++ us)
value_fits Start j us f = (j, ap (λ x. json_tokens j ++ x) f ∙ append-nil (json_tokens j))
value_fits End j us f = absurd f
value_fits (Items n) j us (js, vs, e, f) = (item j js, vs, ap (λ x. json_tokens j ++ x) e ∙ sym (append_assoc (json_tokens j) (items_tokens js) vs), f)
value_fits (Members n) j us f = absurd f
value_fits (Value n) j us (ms, vs, e, f) = (j, ms, vs, ap (λ x. json_tokens j ++ x) e, f)
value_fits Broken j us f = absurd f

end_array_fits : (n : Nesting) (ts : List Token) → Fits (after_token n token.end_array) ts → Fits n (token.end_array ∷ ts)
end_array_fits Start ts f = absurd f
end_array_fits End ts f = absurd f
end_array_fits (Items n) ts f = (no_items, ts, refl, f)
end_array_fits (Members n) ts f = absurd f
end_array_fits (Value n) ts f = absurd f
end_array_fits Broken ts f = absurd f

end_object_fits : (n : Nesting) (ts : List Token) → Fits (after_token n token.end_object) ts → Fits n (token.end_object ∷ ts)
end_object_fits Start ts f = absurd f
end_object_fits End ts f = absurd f
end_object_fits (Items n) ts f = absurd f
end_object_fits (Members n) ts f = (no_members, ts, refl, f)
end_object_fits (Value n) ts f = absurd f
end_object_fits Broken ts f = absurd f

key_fits : (n : Nesting) (s : List ℕ) (ts : List Token) → Fits (after_token n (token.key s)) ts → Fits n (token.key s ∷ ts)
key_fits Start s ts f = absurd f
key_fits End s ts f = absurd f
key_fits (Items n) s ts f = absurd f
key_fits (Members n) s ts (j, ms, us, e, f) = (member s j ms, us, ap (λ x. token.key s ∷ x) (e ∙ sym (append_assoc (json_tokens j) (members_tokens ms) us)), f)
key_fits (Value n) s ts f = absurd f
key_fits Broken s ts f = absurd f

token_fits : (n : Nesting) (t : Token) (ts : List Token) → Fits (after_token n t) ts → Fits n (t ∷ ts)
token_fits n token.begin_object ts (ms, us, e, f) = subst (Fits n) (sym (ap (λ x. token.begin_object ∷ x) e)) (value_fits n (object ms) us f)
token_fits n token.end_object ts f = end_object_fits n ts f
token_fits n token.begin_array ts (js, us, e, f) = subst (Fits n) (sym (ap (λ x. token.begin_array ∷ x) e)) (value_fits n (array js) us f)
token_fits n token.end_array ts f = end_array_fits n ts f
token_fits n (token.key s) ts f = key_fits n s ts f
token_fits n (token.string s) ts f = value_fits n (string s) ts f
token_fits n (token.number s) ts f = value_fits n (number s) ts f
token_fits n (token.boolean b) ts f = value_fits n (boolean b) ts f
token_fits n token.null ts f = value_fits n null ts f
token_fits n token.bad ts f = absurd f

fits : (ts : List Token) (n : Nesting) → fold after_token n ts ≡ End → Fits n ts
fits [] Start e = absurd (cc (e))
fits [] End e = refl
fits [] (Items n) e = absurd (cc (e))
fits [] (Members n) e = absurd (cc (e))
fits [] (Value n) e = absurd (cc (e))
fits [] Broken e = absurd (cc (e))
fits (t ∷ ts) n e = token_fits n t ts (fits ts (after_token n t) e)

from_start : (b : List ℕ) (ts : List Token) → fold after_token (first b) ts ≡ End → (j : Json) × (b ≡ []) × (ts ≡ json_tokens j)
from_start [] ts e = let (j, is) = fits ts Start e in (j, refl, is)
from_start (x ∷ b) ts e = absurd (fits ts Broken e)

-- a writer that is at the end has written a value, which is the text then
pub some_json : (b : List ℕ) (ts : List Token) (text : String Global) → ((j : Json) → (b ≡ []) × (ts ≡ json_tokens j) → IsJson j (string_bytes text)) → fold after_token (first b) ts ≡ End → IsSomeJson text
some_json b ts text so e = let w = from_start b ts e in (w.0, so w.0 (w.1, w.2))

-- a writer that is at the end has written the result of `initialize`, if it began with that
pub greeted : (e : Encoding) (b : List ℕ) (ss more : List Token) → b ≡ [] → ss ≡ greeting_head e ++ more → fold after_token (first b) ss ≡ End
    → (ms : json.Members) × (rest : json.Members) × (ss ≡ json_tokens (greeting_json e ms rest))
greeted e b ss more before is end =
    let (ms, us, p, (rest, vs, q, r)) = fits more (Members (Members End)) (sym (begun b ss (greeting_head e ++ more) before is) ∙ end) in
    (ms, rest, is ∙ ap (λ x. greeting_head e ++ x) (p ∙ ap (λ x. members_tokens ms ++ x) (q ∙ ap (λ x. members_tokens rest ++ x) r ∙ append-nil (members_tokens rest))))

-- ---- values that are written have numbers

numbers : (j : Json) → ArePrintableOrBad (json_tokens j) → HasNumbers j
numbers j h = value-HasNumbers (depth j) (json_tokens j ++ []) [] j (subst ArePrintableOrBad (sym (append-nil (json_tokens j))) h) (value-json_tokens j (depth j) [] (omega arith))

pub written_numbers : (j : Json) (ts : List Token) → tokens (print ts) ≡ ts → ts ≡ json_tokens j → HasNumbers j
written_numbers j ts back is = numbers j (subst ArePrintableOrBad (back ∙ is) (ArePrintableOrBad-tokens (print ts)))
