-- Nodes without their children, and the tokens of them.
use Rattle.std.specs.Prelude.{◌≡◌, List, [], ◌++◌, Option}
use Rattle.json.specs.Token.{Token}
use Rattle.kdl_text.specs.Chars.{Text}
use Rattle.kdl_entry.specs.Data.{Entry}
use Rattle.kdl_grammar.specs.Data.{Node, node, no_children, children, Nodes}
use Rattle.kdl_json.specs.Form.{entries_tokens, head_tokens, name_tokens}

-- a node up to its entries
abbrev pub head_of : Node → List Token → List Token
head_of (node ty name es k) = head_tokens ty name es

-- a node with more entries, and one with children
abbrev pub with_more : Node → List Entry → Node
with_more (node ty name es k) fs = node ty name (es ++ fs) k

abbrev pub with_block : Node → Nodes → Node
with_block (node ty name es k) x = node ty name es (children x)

-- n is a node without entries and children, whose name and type were taken from the tokens
pub record IsNamed (n : Node) (old new : List Token) : Type 0 where
  pub ty : Option Text
  pub name : Text
  pub is : n ≡ node ty name [] no_children
  pub tokens : old ≡ name_tokens ty name new

-- m is n with entries that were taken from the tokens
pub record HasTaken (n m : Node) (old new : List Token) : Type 0 where
  pub entries : List Entry
  pub is : m ≡ with_more n entries
  pub tokens : old ≡ entries_tokens entries new

-- n is a node without children, which was taken from the tokens
pub record IsHead (n : Node) (old new : List Token) : Type 0 where
  pub ty : Option Text
  pub name : Text
  pub entries : List Entry
  pub is : n ≡ node ty name entries no_children
  pub tokens : old ≡ head_tokens ty name entries new
