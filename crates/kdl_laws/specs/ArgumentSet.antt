-- The data of a document with another value for an argument, and texts with another piece.
use Rattle.std.specs.Prelude.{if◌then◌else◌, List, [], ◌∷◌}
use Rattle.kdl_text.specs.Chars.{Text}
use Rattle.kdl_value.specs.Data.{Value}
use Rattle.kdl_entry.specs.Data.{Entry}
use Rattle.kdl_grammar.specs.Data.{Node, node, Nodes, none, first}
use Rattle.kdl.specs.Bytes.{IsExchanged}
use Rattle.kdl.specs.Said.{has_no_key, is_called}

-- entries with the value v for the first argument
abbrev pub with_first_argument : Value → List Entry → List Entry
with_first_argument v [] = []
with_first_argument v (e ∷ es) = if has_no_key e then record e { value = v } ∷ es else e ∷ with_first_argument v es

-- a node with the value v for its first argument
abbrev pub node_with_argument : Value → Node → Node
node_with_argument v (node ty name es k) = node ty name (with_first_argument v es) k

-- the data of a document, with the value v for the first argument of the first node of that name
abbrev pub with_said_arg : Text → Value → Nodes → Nodes
with_said_arg s v none = none
with_said_arg s v (first n x) = if is_called s n then first (node_with_argument v n) x else first n (with_said_arg s v x)

-- new is old with the text q in place of one piece; the texts before and after it are unchanged
pub record HasInstead (q old new : Text) : Type 0 where
  pub was : Text
  pub exchanged : IsExchanged was q old new
