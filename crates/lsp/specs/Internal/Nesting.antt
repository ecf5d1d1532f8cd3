-- Where a writer of JSON is: which brackets are open, and what may come next.
use Rattle.std.specs.Prelude.{◌≡◌, ◌++◌, ◌∷◌, [], ℕ, zero, suc, Bool, true, false, List, Option, Some, codes, fold}
use Rattle.json.specs.Token.{Token, bad, begin_array, begin_object, boolean, end_array, end_object, key, null, number, string}
use Rattle.json.specs.Written.{Written}
use Rattle.lsp.specs.Messages.{encoding_name}
use Rattle.lsp_text.specs.declared.position.Encoding.{Encoding}

-- before a value, after it, in an array or an object, or after a key; the argument is where the array or the object is in
pub data Nesting : Type 0 where
  Start : Nesting
  End : Nesting
  Items : Nesting → Nesting
  Members : Nesting → Nesting
  Value : Nesting → Nesting
  Broken : Nesting

-- after one more value
abbrev pub after_value : Nesting → Nesting
after_value Start = End
after_value (Items n) = Items n
after_value (Value n) = Members n
after_value _ = Broken

-- after the bracket that ends an array, or an object, or after a key
abbrev pub after_items : Nesting → Nesting
after_items (Items n) = n
after_items _ = Broken

abbrev pub after_members : Nesting → Nesting
after_members (Members n) = n
after_members _ = Broken

abbrev pub after_key : Nesting → Nesting
after_key (Members n) = Value n
after_key _ = Broken

-- after one more token
abbrev pub after_token : Nesting → Token → Nesting
after_token n begin_object = Members (after_value n)
after_token n end_object = after_members n
after_token n begin_array = Items (after_value n)
after_token n end_array = after_items n
after_token n (key s) = after_key n
after_token n (string s) = after_value n
after_token n (number s) = after_value n
after_token n (boolean b) = after_value n
after_token n null = after_value n
after_token n bad = Broken

-- where a writer is that has written tokens after some bytes
abbrev pub first : List ℕ → Nesting
first [] = Start
first (b ∷ bs) = Broken

abbrev pub nesting : Written → Nesting
nesting w = fold after_token (first w.before) w.tokens

-- in objects of an array, each the value of a key of the one before it; or only in the array
abbrev pub in_objects : ℕ → Nesting → Nesting
in_objects zero n = Items n
in_objects (suc k) n = Members (in_objects k n)

-- a writer has written a value, or zero or more values of an array, or members of an object
abbrev pub WritesValue : Written → Written → Type 0
WritesValue old new = nesting new ≡ after_value (nesting old)

abbrev pub WritesItems : Written → Written → Type 0
WritesItems old new = (n : Nesting) → nesting old ≡ Items n → nesting new ≡ Items n

abbrev pub WritesMembers : Written → Written → Type 0
WritesMembers old new = (n : Nesting) → nesting old ≡ Members n → nesting new ≡ Members n

-- a writer has written more
abbrev pub Grows : Written → Written → Type 0
Grows old new = (new.before ≡ old.before) × ((more : List Token) × (new.tokens ≡ old.tokens ++ more))

-- a token begins an object
abbrev pub begins_object : Option Token → Bool
begins_object (Some begin_object) = true
begins_object _ = false

-- the tokens with which the result of `initialize` begins: what positions count
abbrev pub greeting_head : Encoding → List Token
greeting_head e = begin_object ∷ key (codes "capabilities") ∷ begin_object ∷ key (codes "positionEncoding") ∷ string (encoding_name e) ∷ []
