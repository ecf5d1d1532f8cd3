-- The control of a node text, and how far it reads.
use Rattle.std.specs.Prelude.{◌≡◌, ◌++◌, None}
use Rattle.kdl_text.specs.Chars.{Text}
use Rattle.kdl_syntax.specs.Tokens.{Token, BeginsToken}
pub use Rattle.kdl_syntax.specs.NodeControl.{NodeControl, in_text, with_begun, between_nodes, node_step, node_finish, node_start}
use Rattle.kdl_grammar.specs.Going.{GoesBy}

-- it goes over the text t of a node up to the rest r
abbrev pub NodeReaches : Text → NodeControl → Text → Type 0
NodeReaches t c r = GoesBy node_step node_start t c r

-- it refuses each token at the start of a text with this front
abbrev pub NodeRefusesFront : NodeControl → Text → Type 0
NodeRefusesFront c f = (u r : Text) (k : Token) → BeginsToken (f ++ u) k r → node_step c k ≡ None
