-- The JSON of data: its tokens in order. A definition `x_tokens x ts` is the tokens of x, and then ts.
use Rattle.std.specs.Prelude.{◌≡◌, ℕ, Bool, true, false, List, [], ◌∷◌, Option, Some, None, codes}
use Rattle.std.specs.Fmt.{signed_decimal}
use Rattle.std.specs.Str.{encode_utf8_all}
use Rattle.json.specs.Token as json'
use Rattle.json.specs.Token.{Token}
use Rattle.json.specs.Word.{after_number}
use Rattle.json.specs.Lex.{tokens}
use Rattle.json.specs.Print.{print}
use Rattle.kdl_text.specs.Chars.{Text}
use Rattle.kdl_value.specs.Data.{Value, text, integer, float, truth, null}
use Rattle.kdl_entry.specs.Data.{Entry}
use Rattle.kdl_grammar.specs.Data.{Node, node, Children, no_children, children, Nodes, none, first}

-- a number was read, and nothing follows it
abbrev pub is_read_whole : Option (List ℕ) → Bool
is_read_whole None = false
is_read_whole (Some []) = true
is_read_whole (Some (c ∷ s)) = false

-- the bytes are a number of JSON
abbrev pub is_json_number : List ℕ → Bool
is_json_number s = is_read_whole (after_number s)

-- the text of a float: a number if JSON has it as one, and else a string in an object
abbrev pub float_tokens : List ℕ → Bool → List Token → List Token
float_tokens s true ts = json'.number s ∷ ts
float_tokens s false ts = json'.begin_object ∷ json'.key (codes "float") ∷ json'.string s ∷ json'.end_object ∷ ts

-- a value: a string, a number with all its digits, a float, a boolean or null
abbrev pub value_tokens : Value → List Token → List Token
value_tokens (text s) ts = json'.string (encode_utf8_all s) ∷ ts
value_tokens (integer z) ts = json'.number (signed_decimal z) ∷ ts
value_tokens (float s) ts = float_tokens (encode_utf8_all s) (is_json_number (encode_utf8_all s)) ts
value_tokens (truth b) ts = json'.boolean b ∷ ts
value_tokens null ts = json'.null ∷ ts

-- a key and a string, if there is one
abbrev pub member_tokens : List ℕ → Option Text → List Token → List Token
member_tokens k None ts = ts
member_tokens k (Some s) ts = json'.key k ∷ json'.string (encode_utf8_all s) ∷ ts

-- an entry: its name and its type, if it has them, and its value
abbrev pub entry_tokens : Entry → List Token → List Token
entry_tokens e ts = json'.begin_object ∷ member_tokens (codes "name") e.key (member_tokens (codes "type") e.ty
    (json'.key (codes "value") ∷ value_tokens e.value (json'.end_object ∷ ts)))

-- entries, one after another
abbrev pub entries_tokens : List Entry → List Token → List Token
entries_tokens [] ts = ts
entries_tokens (e ∷ es) ts = entry_tokens e (entries_tokens es ts)

-- the name of a node, and its type if it has one
abbrev pub name_tokens : Option Text → Text → List Token → List Token
name_tokens ty name ts = member_tokens (codes "name") (Some name) (member_tokens (codes "type") ty ts)

-- a node up to its entries
abbrev pub head_tokens : Option Text → Text → List Entry → List Token → List Token
head_tokens ty name es ts = json'.begin_object ∷ name_tokens ty name (json'.key (codes "entries") ∷ json'.begin_array ∷ entries_tokens es (json'.end_array ∷ ts))

-- a node, and nodes one after another; the children are there only if the node has a block
abbrev mutual
  pub node_tokens : Node → List Token → List Token
  node_tokens (node ty name es k) ts = head_tokens ty name es (children_tokens k (json'.end_object ∷ ts))

  pub children_tokens : Children → List Token → List Token
  children_tokens no_children ts = ts
  children_tokens (children x) ts = json'.key (codes "children") ∷ json'.begin_array ∷ nodes_tokens x (json'.end_array ∷ ts)

  pub nodes_tokens : Nodes → List Token → List Token
  nodes_tokens none ts = ts
  nodes_tokens (first n x) ts = node_tokens n (nodes_tokens x ts)

-- the data of a document: an array of its nodes
abbrev pub document_tokens : Nodes → List Token
document_tokens x = json'.begin_array ∷ nodes_tokens x (json'.end_array ∷ [])

-- the JSON of the data as a text without spaces, in bytes
abbrev pub json_text : Nodes → List ℕ
json_text x = print (document_tokens x)

-- the JSON of a node, the same way
abbrev pub node_json_text : Node → List ℕ
node_json_text n = print (node_tokens n [])

-- the text is the JSON of the data, with any spaces between its tokens
abbrev pub IsJsonOf : List ℕ → Nodes → Type 0
IsJsonOf t x = tokens t ≡ document_tokens x
