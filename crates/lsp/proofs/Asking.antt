-- Requests that are read token by token.
use Rattle.std.proofs.Common.{arith, ◌≡◌, ◌∙◌, ◌-◌, ◌<◌, ◌≤◌, [], ◌∷◌, ℕ, true, false, List, Option, None, Some, IsSome, IsSomeAnd, MatchOption, ap, codes, cond, length, option_and_then, option_map, refl, subst, sym}
use Rattle.std.proofs.lemmas.Slice.Eq.{bytes_eq-Decides}
use Rattle.std.specs.Bool.{Decides}
use Rattle.std.specs.Prelude as bool
use Rattle.std.specs.Str.{bytes_eq}
use Rattle.json.specs.Find.{as_str, get, get_member, later_or}
use Rattle.json.specs.Json.{Items, Json, Members, document, if_last, member, members, no_members, object, array, items, parse_map, read_key, skip_value, value}
use Rattle.json.specs.Lex.{tokens}
use Rattle.json.specs.Json as json
use Rattle.json.specs.Token.{Token, bad, begin_array, begin_object, boolean, end_array, end_object, key, null, number, string}
use Rattle.json.specs.Reads.{token_of}
use Rattle.json.specs.declared.token.Token as token
use Rattle.json.proofs.Grammar.{left_none, left_some, members_end, members_fail, members_more, members_no_key, read_key-shorter, value-begin_array, value-begin_object, value_is}
use Rattle.lsp.specs.Internal.Nesting.{begins_object}
use Rattle.lsp.specs.Messages.{Asks, AsksIn}

-- a text whose tokens are no value is no request
pub not_asked : (text : List ℕ) (id : Json) → document text ≡ None → Asks text id → ⊥
not_asked text id none asks = subst (λ o. IsSomeAnd o (λ j. AsksIn j id)) none asks

abbrev inner : List Token → Option (Members × List Token)
inner ts = members (value 127) (length ts) ts

-- the members up to a place are read: these were the last ones of their names
pub record Reading (all now : List Token) (id method : Option Json) : Type 0 where
  pub count : ℕ
  pub enough : length now ≤ count
  pub front : Members → Members
  pub read : inner all ≡ parse_map front (members (value 127) count now)
  pub has_id : (ms : Members) → get_member (codes "id") (front ms) ≡ later_or (get_member (codes "id") ms) id
  pub has_method : (ms : Members) → get_member (codes "method") (front ms) ≡ later_or (get_member (codes "method") ms) method

later_none : (a : Option Json) → a ≡ later_or a None
later_none None = refl
later_none (Some x) = refl

map_self : (r : Option (Members × List Token)) → r ≡ parse_map (λ ms. ms) r
map_self None = refl
map_self (Some p) = refl

pub begun : (all : List Token) → Reading all all None None
begun all = record {
  count = length all;
  enough = omega arith;
  front = λ ms. ms;
  read = map_self (inner all);
  has_id = λ ms. later_none (get_member (codes "id") ms);
  has_method = λ ms. later_none (get_member (codes "method") ms);
}

map_twice : (f g : Members → Members) (r : Option (Members × List Token)) → parse_map f (parse_map g r) ≡ parse_map (λ ms. f (g ms)) r
map_twice f g None = refl
map_twice f g (Some p) = refl

later_later : (a b c : Option Json) → later_or (later_or a b) c ≡ later_or a (later_or b c)
later_later None b c = refl
later_later (Some x) b c = refl

-- what a name has after one more member
abbrev pub named : List ℕ → List ℕ → Json → Option Json → Option Json
named name k j old = later_or (cond (bytes_eq k name) (Some j) None) old

pub read_on : (all now s r : List Token) (k : List ℕ) (j : Json) (id method : Option Json) → Reading all now id method → read_key now ≡ Some (Some k, s) → value 127 s ≡ Some (j, r) → length s < length now → length r < length s
    → Reading all r (named (codes "id") k j id) (named (codes "method") k j method)
read_on all now s r k j id method g at is shorter less = record {
  count = g.count - 1;
  enough = omega (arith, g.enough);
  front = λ ms. g.front (member k j ms);
  read = g.read ∙ ap (parse_map g.front) (members_more (value 127) g.count k now s r j (omega (arith, g.enough)) at is) ∙ map_twice g.front (member k j) _;
  has_id = λ ms. g.has_id (member k j ms) ∙ later_later (get_member (codes "id") ms) _ id;
  has_method = λ ms. g.has_method (member k j ms) ∙ later_later (get_member (codes "method") ms) _ method;
}

pub shorter : (now s r : List Token) (k : List ℕ) → read_key now ≡ Some (Some k, s) → length r < length s → length r < length now
shorter now s r k at less = omega (arith, read_key-shorter now (Some k) s at)

differ : (xs ys : List ℕ) → (xs ≡ ys → ⊥) → bytes_eq xs ys ≡ false
differ xs ys other = go (bytes_eq xs ys) (bytes_eq-Decides xs ys)
  where
    go : (b : bool.Bool) → Decides b (xs ≡ ys) → b ≡ false
    go true d = absurd (other (d.0 refl))
    go false d = refl

-- an identifier, a method, and another member
pub read_id : (all now s r : List Token) (k : List ℕ) (j : Json) (id method : Option Json) → Reading all now id method → read_key now ≡ Some (Some k, s) → value 127 s ≡ Some (j, r) → length r < length s → k ≡ codes "id" → Reading all r (Some j) method
read_id all now s r k j id method g at is less same =
    subst (λ n. Reading all r (named (codes "id") n j id) (named (codes "method") n j method)) same (read_on all now s r k j id method g at is (read_key-shorter now (Some k) s at) less)

pub read_method : (all now s r : List Token) (k : List ℕ) (j : Json) (id method : Option Json) → Reading all now id method → read_key now ≡ Some (Some k, s) → value 127 s ≡ Some (j, r) → length r < length s → k ≡ codes "method" → Reading all r id (Some j)
read_method all now s r k j id method g at is less same =
    subst (λ n. Reading all r (named (codes "id") n j id) (named (codes "method") n j method)) same (read_on all now s r k j id method g at is (read_key-shorter now (Some k) s at) less)

pub read_other : (all now s r : List Token) (k : List ℕ) (id method : Option Json) → Reading all now id method → read_key now ≡ Some (Some k, s) → skip_value 127 s ≡ Some r → length r < length s
    → (k ≡ codes "id" → ⊥) → (k ≡ codes "method" → ⊥) → Reading all r id method
read_other all now s r k id method g at skipped less other also =
    let (j, is) = left_some (value 127 s) r skipped in
    let more = read_on all now s r k j id method g at is (read_key-shorter now (Some k) s at) less in
    let a = ap (λ b. later_or (cond b (Some j) None) id) (differ k (codes "id") other) in
    let b = ap (λ b. later_or (cond b (Some j) None) method) (differ k (codes "method") also) in
    subst (λ x. Reading all r x method) a (subst (λ x. Reading all r (named (codes "id") k j id) x) b more)

module _ (text : List ℕ) (all : List Token) (begins : tokens text ≡ begin_object ∷ all) where
  by_inner : document text ≡ option_and_then (λ p. if_last p.0 p.1) (parse_map object (inner all))
  by_inner = ap (λ ts. option_and_then (λ p. if_last p.0 p.1) (value 128 ts)) begins ∙ ap (option_and_then (λ p. if_last p.0 p.1)) (value-begin_object 128 all (omega arith))

  no_inner : inner all ≡ None → document text ≡ None
  no_inner none = by_inner ∙ ap (λ o. option_and_then (λ p. if_last p.0 p.1) (parse_map object o)) none

  -- where a key or a value is missing there is no value
  pub no_key : (now : List Token) (id method : Option Json) → Reading all now id method → read_key now ≡ None → document text ≡ None
  no_key now id method g none = no_inner (g.read ∙ ap (parse_map g.front) (members_no_key (value 127) g.count now none))

  pub no_value : (now s : List Token) (k : List ℕ) (id method : Option Json) → Reading all now id method → read_key now ≡ Some (Some k, s) → value 127 s ≡ None → document text ≡ None
  no_value now s k id method g at none = no_inner (g.read ∙ ap (parse_map g.front) (members_fail (value 127) g.count k now s at none))

  pub no_skip : (now s : List Token) (k : List ℕ) (id method : Option Json) → Reading all now id method → read_key now ≡ Some (Some k, s) → skip_value 127 s ≡ None → document text ≡ None
  no_skip now s k id method g at none = no_value now s k id method g at (left_none (value 127 s) none)

  all_read : (now r : List Token) (id method : Option Json) → (g : Reading all now id method) → read_key now ≡ Some (None, r) → document text ≡ if_last (object (g.front no_members)) r
  all_read now r id method g end =
      by_inner ∙ ap (λ o. option_and_then (λ p. if_last p.0 p.1) (parse_map object o)) (g.read ∙ ap (parse_map g.front) (members_end (value 127) g.count now r g.enough end))

  -- after the last member the text is a request if nothing follows, and the method is a string
  pub asked : (now : List Token) (id method : Option Json) → Reading all now id method → read_key now ≡ Some (None, []) → IsSome (option_and_then as_str method)
      → (other : Json) → id ≡ Some other → Asks text other
  asked now id method g end named other is =
      subst (λ o. IsSomeAnd o (λ j. AsksIn j other)) (sym (all_read now [] id method g end))
      (g.has_id no_members ∙ is, subst (λ o. IsSome (option_and_then as_str o)) (sym (g.has_method no_members)) named)

  pub unasked : (now r : List Token) (id method : Option Json) → Reading all now id method → read_key now ≡ Some (None, r) → (other : Json) → Asks text other
      → (r ≡ []) × (id ≡ Some other) × IsSome (option_and_then as_str method)
  unasked now [] id method g end other asks =
      let a = subst (λ o. IsSomeAnd o (λ j. AsksIn j other)) (all_read now [] id method g end) asks in
      (refl, sym (g.has_id no_members) ∙ a.0, subst (λ o. IsSome (option_and_then as_str o)) (g.has_method no_members) a.1)
  unasked now (t ∷ ts) id method g end other asks = absurd (not_asked text other (all_read now (t ∷ ts) id method g end) asks)

  -- what is found after the last member
  pub found : {A : Type 0} (f : A → Json) (now : List Token) (o : Option A) (method : Option Json) → Reading all now (option_map f o) method → read_key now ≡ Some (None, []) → IsSome (option_and_then as_str method)
      → MatchOption o ((id : Json) → Asks text id → ⊥) (λ v. Asks text (f v))
  found f now None method g end named = λ id asks. (let u = unasked now [] None method g end id asks in absurd (cc (u.1)))
  found f now (Some v) method g end named = asked now (Some (f v)) method g end named (f v) refl

-- ---- texts that begin with no object

abbrev Inside : Option Json → Type 0
Inside o = (id : Json) → IsSomeAnd o (λ j. AsksIn j id) → ⊥

last_array : (o : Option (Items × List Token)) → Inside (option_and_then (λ p. if_last p.0 p.1) (parse_map array o))
last_array None id asks = asks
last_array (Some (js, [])) id asks = absurd (cc (asks.0))
last_array (Some (js, t ∷ ts)) id asks = asks

abbrev Asking : Json → Option (Json × List Token) → Type 0
Asking id o = IsSomeAnd (option_and_then (λ p. if_last p.0 p.1) o) (λ j. AsksIn j id)

of_alone : (j : Json) (ts : List Token) → get (codes "id") j ≡ None → (id : Json) → Asking id (Some (j, ts)) → ⊥
of_alone j [] none id asks = absurd (cc (none, asks.0))
of_alone j (t ∷ ts) none id asks = asks

no_object : (t : Token) (ts : List Token) → begins_object (Some t) ≡ false → Inside (option_and_then (λ p. if_last p.0 p.1) (value 128 (t ∷ ts)))
no_object begin_object ts other = absurd (cc (other))
no_object end_object ts other = λ id asks. subst (Asking id) (value_is 128 (end_object ∷ ts)) asks
no_object end_array ts other = λ id asks. subst (Asking id) (value_is 128 (end_array ∷ ts)) asks
no_object (key s) ts other = λ id asks. subst (Asking id) (value_is 128 (key s ∷ ts)) asks
no_object bad ts other = λ id asks. subst (Asking id) (value_is 128 (bad ∷ ts)) asks
no_object begin_array ts other = λ id asks. last_array (items (value 127) (length ts) ts) id (subst (Asking id) (value-begin_array 128 ts (omega arith)) asks)
no_object (string s) ts other = λ id asks. of_alone (json.string s) ts refl id (subst (Asking id) (value_is 128 (string s ∷ ts)) asks)
no_object (number s) ts other = λ id asks. of_alone (json.number s) ts refl id (subst (Asking id) (value_is 128 (number s ∷ ts)) asks)
no_object (boolean b) ts other = λ id asks. of_alone (json.boolean b) ts refl id (subst (Asking id) (value_is 128 (boolean b ∷ ts)) asks)
no_object null ts other = λ id asks. of_alone json.null ts refl id (subst (Asking id) (value_is 128 (null ∷ ts)) asks)

is_object : (t : Token) → begins_object (Some t) ≡ true → t ≡ begin_object
is_object begin_object is = refl
is_object end_object is = absurd (cc (is))
is_object begin_array is = absurd (cc (is))
is_object end_array is = absurd (cc (is))
is_object (key s) is = absurd (cc (is))
is_object (string s) is = absurd (cc (is))
is_object (number s) is = absurd (cc (is))
is_object (boolean b) is = absurd (cc (is))
is_object null is = absurd (cc (is))
is_object bad is = absurd (cc (is))

-- of the first token, and the rest
module _ (text reader rest : List Token) (first : Option token.Token) (is : reader ≡ text) (read : MatchOption first ((reader ≡ []) × (rest ≡ [])) (λ t. reader ≡ token_of t ∷ rest)) where
  pub object_begins : begins_object (option_map token_of first) ≡ true → text ≡ begin_object ∷ rest
  object_begins = go first read
    where
      go : (f : Option token.Token) → MatchOption f ((reader ≡ []) × (rest ≡ [])) (λ t. reader ≡ token_of t ∷ rest) → begins_object (option_map token_of f) ≡ true → text ≡ begin_object ∷ rest
      go None r b = absurd (cc (b))
      go (Some t) r b = sym is ∙ r ∙ ap (λ u. u ∷ rest) (is_object (token_of t) b)

  no_request : begins_object (option_map token_of first) ≡ false → Inside (option_and_then (λ p. if_last p.0 p.1) (value 128 text))
  no_request = go first read
    where
      go : (f : Option token.Token) → MatchOption f ((reader ≡ []) × (rest ≡ [])) (λ t. reader ≡ token_of t ∷ rest) → begins_object (option_map token_of f) ≡ false → Inside (option_and_then (λ p. if_last p.0 p.1) (value 128 text))
      go None r b = λ id asks. subst (Asking id) (ap (value 128) (sym is ∙ r.0) ∙ value_is 128 []) asks
      go (Some t) r b = λ id asks. no_object (token_of t) rest b id (subst (Asking id) (ap (value 128) (sym is ∙ r)) asks)

-- a text that begins with no object is no request
pub not_object : (text : List ℕ) (reader rest : List Token) (first : Option token.Token) → reader ≡ tokens text → MatchOption first ((reader ≡ []) × (rest ≡ [])) (λ t. reader ≡ token_of t ∷ rest)
    → begins_object (option_map token_of first) ≡ false → (id : Json) → Asks text id → ⊥
not_object text reader rest first is read other id asks = no_request (tokens text) reader rest first is read other id asks
