-- How many tokens there are: each node and each entry has some of its own, before those that follow it.
use Rattle.std.proofs.Common.{arith, ap, ◌≡◌, ◌<◌, ◌≤◌, ℕ, Bool, true, false, List, [], ◌∷◌, Option, Some, None, length}
use Rattle.std.specs.Prelude.{codes}
use Rattle.std.specs.Str.{encode_utf8_all}
use Rattle.json.specs.Token as json'
use Rattle.json.specs.Token.{Token}
use Rattle.kdl_text.specs.Chars.{Text}
use Rattle.kdl_value.specs.Data.{Value, text, integer, float, truth, null}
use Rattle.kdl_entry.specs.Data.{Entry}
use Rattle.kdl_grammar.specs.Data.{Node, node}
use Rattle.kdl_json.specs.Form.{entries_tokens, entry_tokens, float_tokens, head_tokens, is_json_number, member_tokens, value_tokens}
use Rattle.kdl_json.specs.Heads.{IsHead, head_of}

member_longer : (k : List ℕ) (o : Option Text) (ts : List Token) → length ts ≤ length (member_tokens k o ts)
member_longer k None ts = omega arith
member_longer k (Some s) ts = omega arith

float_longer : (s : List ℕ) (b : Bool) (ts : List Token) → length ts ≤ length (float_tokens s b ts)
float_longer s true ts = omega arith
float_longer s false ts = omega arith

value_longer : (v : Value) (ts : List Token) → length ts ≤ length (value_tokens v ts)
value_longer (text s) ts = omega arith
value_longer (integer z) ts = omega arith
value_longer (float s) ts = float_longer (encode_utf8_all s) (is_json_number (encode_utf8_all s)) ts
value_longer (truth b) ts = omega arith
value_longer null ts = omega arith

pub entry_longer : (e : Entry) (ts : List Token) → length ts < length (entry_tokens e ts)
entry_longer e ts =
    let valued = json'.key (codes "value") ∷ value_tokens e.value (json'.end_object ∷ ts) in
    omega (arith, value_longer e.value (json'.end_object ∷ ts), member_longer (codes "type") e.ty valued, member_longer (codes "name") e.key (member_tokens (codes "type") e.ty valued))

entries_longer : (es : List Entry) (ts : List Token) → length ts ≤ length (entries_tokens es ts)
entries_longer [] ts = omega arith
entries_longer (e ∷ es) ts = omega (arith, entry_longer e (entries_tokens es ts), entries_longer es ts)

head_longer : (ty : Option Text) (name : Text) (es : List Entry) (ts : List Token) → length ts < length (head_tokens ty name es ts)
head_longer ty name es ts =
    let keyed = json'.key (codes "entries") ∷ json'.begin_array ∷ entries_tokens es (json'.end_array ∷ ts) in
    omega (arith, entries_longer es (json'.end_array ∷ ts), member_longer (codes "type") ty keyed, member_longer (codes "name") (Some name) (member_tokens (codes "type") ty keyed))

-- a node up to its entries, in the tokens that are written and in those that are read
pub head_of_longer : (n : Node) (ts : List Token) → length ts < length (head_of n ts)
head_of_longer (node ty name es k) ts = head_longer ty name es ts

pub head_taken : (n : Node) (old new : List Token) → IsHead n old new → length new < length old
head_taken n old new h = omega (arith, ap length h.tokens, head_longer h.ty h.name h.entries new)

pub first_taken : (t : Token) (old new : List Token) → old ≡ t ∷ new → length new < length old
first_taken t old new e = omega (arith, ap length e)
