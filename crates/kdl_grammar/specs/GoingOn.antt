-- Which texts begin a document or a node text, and what is proved of that. `derived` says which texts the grammar derives: documents, or node texts.
use Rattle.std.specs.Prelude.{◌≡◌, ◌≢◌, ◌↔◌, IsTrue, [], ◌++◌, Some, None, take}
use Rattle.kdl_text.specs.Chars.{Text}
use Rattle.kdl_syntax.specs.Tokens.{Token, BeginsToken, NoToken}
use Rattle.kdl_grammar.specs.Data.{Node, Nodes}
use Rattle.kdl_grammar.specs.Grammar.{IsDocument, IsNodeText}
use Rattle.kdl_syntax.specs.Control.{Control, step, finish}
use Rattle.kdl_grammar.specs.Going.{Reaches, RefusesFront}
use Rattle.kdl_grammar.specs.NodeControl.{NodeControl, node_step, NodeReaches}

-- some derived text begins with the text
abbrev pub BeginsSome : (Text → Type 0) → Text → Type 0
BeginsSome derived t = (u : Text) × derived (t ++ u)

-- no derived text begins with the text
abbrev pub BeginsNoOther : (Text → Type 0) → Text → Type 0
BeginsNoOther derived t = (u : Text) → derived (t ++ u) → ⊥

-- the text is a document
abbrev pub Derived : Text → Type 0
Derived t = (xs : Nodes) × IsDocument t xs

-- some document begins with the text
abbrev pub Viable : Text → Type 0
Viable = BeginsSome Derived

-- no document begins with the text
abbrev pub Dead : Text → Type 0
Dead = BeginsNoOther Derived

-- the text is a node
abbrev pub DerivedNode : Text → Type 0
DerivedNode t = (x : Node) × IsNodeText t x

-- what the machine reads begins a document
abbrev pub Alive : Type 0
Alive = (p r : Text) (c : Control) → Reaches (p ++ r) c r → Viable p

-- so does what it reads together with the rest of the text, if the rest continues with a token that may come
abbrev pub AliveInToken : Type 0
AliveInToken = (p r u : Text) (c d : Control) (k : Token) → r ≢ [] → Reaches (p ++ r) c r → BeginsToken (r ++ u) k [] → step c k ≡ Some d → Viable (p ++ r)

-- if it refuses a token, no document begins with what it read and the next two characters
abbrev pub DeadAtToken : Type 0
DeadAtToken = (p r s : Text) (c : Control) (k : Token) → Reaches (p ++ r) c r → BeginsToken r k s → step c k ≡ None → Dead (p ++ take 2 r)

-- if it refuses each token that begins with some characters, no document begins with what it read and these characters
abbrev pub DeadAtFront : Type 0
DeadAtFront = (p f r : Text) (c : Control) → f ≢ [] → Reaches (p ++ (f ++ r)) c (f ++ r) → RefusesFront c f → Dead (p ++ f)

-- if the machine reaches a place before the end of the text at which no token begins, the text is not a document
abbrev pub RefusedAtPiece : Type 0
RefusedAtPiece = (p r : Text) (c : Control) → Reaches (p ++ r) c r → NoToken r → Derived (p ++ r) → ⊥

-- a text that it reads to the end is a document exactly if the text may end there
abbrev pub DerivedAtEnd : Type 0
DerivedAtEnd = (t : Text) (c : Control) → Reaches t c [] → Derived t ↔ IsTrue (finish c)

-- of node texts: what the control goes over begins one
abbrev pub NodeAlive : Type 0
NodeAlive = (p r : Text) (c : NodeControl) → NodeReaches (p ++ r) c r → BeginsSome DerivedNode p

-- if it refuses a token, no node text begins with what it went over and the next two characters
abbrev pub NodeDeadAtToken : Type 0
NodeDeadAtToken = (p r s : Text) (c : NodeControl) (k : Token) → NodeReaches (p ++ r) c r → BeginsToken r k s → node_step c k ≡ None → BeginsNoOther DerivedNode (p ++ take 2 r)
