-- The written grammar of documents and nodes (KDL 2.0.0, Document, Node, Slashdash Comments). `X wide s r x`: an X begins the text s, leaves r, and represents x.
-- If `wide` holds, it is the present language. Else it is the former one: node-spaces or a `}` come before each slashdash in a node, and `/-` does not end a value.
use Rattle.std.specs.Prelude.{Bool, true, false, ◌||◌, List, [], ◌∷◌, Option}
use Rattle.kdl_text.specs.Chars.{Text, Star, Plus, Newline}
use Rattle.kdl_text.specs.Trivia.{LineComment, NodeSpace, LineSpace, Slashdash}
use Rattle.kdl_entry.specs.Data.{Entry}
use Rattle.kdl_entry.specs.Entries.{IsString, MaybeType, IsEntry}
use Rattle.kdl_grammar.specs.Data.{Node, node, Children, no_children, children, Nodes, none, first}

-- any number of node-spaces if they may be absent, else at least one
abbrev pub Spaces : Bool → Text → Text → Type 0
Spaces true = Star NodeSpace
Spaces false = Plus NodeSpace

-- what ends a node: `;`, a newline, a line comment, or nothing if the text ends or a `}` follows
pub data Terminator : Text → Text → Type 0 where
  semicolon : {r : Text} → Terminator (59 ∷ r) r
  newline : {s r : Text} → Newline s r → Terminator s r
  comment : {s r : Text} → LineComment s r → Terminator s r
  at_end : Terminator [] []
  at_close : {r : Text} → Terminator (125 ∷ r) (125 ∷ r)

mutual
  -- an optional type, a name, and what follows it
  pub data IsNode (wide : Bool) : Text → Text → Node → Type 0 where
    named : {s t u r n : Text} {y : Option Text} {es : List Entry} {k : Children} → MaybeType wide s t y → IsString wide t u n → AfterName wide u r es k
        → IsNode wide s r (node y n es k)

  -- after a name or an entry: entries and slashdashed entries, and then blocks
  pub data AfterName (wide : Bool) : Text → Text → List Entry → Children → Type 0 where
    kept_entry : {s t u r : Text} {e : Entry} {es : List Entry} {k : Children} → Plus NodeSpace s t → IsEntry wide t u e → AfterName wide u r es k
        → AfterName wide s r (e ∷ es) k
    dropped_entry : {s t u v r : Text} {e : Entry} {es : List Entry} {k : Children} → Spaces wide s t → Slashdash t u → IsEntry wide u v e → AfterName wide v r es k
        → AfterName wide s r es k
    blocks : {s r : Text} {k : Children} → Blocks wide false s r k → AfterName wide s r [] k

  -- slashdashed blocks, an optional block, and what follows it; braced: a `}` comes directly before
  pub data Blocks (wide : Bool) : Bool → Text → Text → Children → Type 0 where
    dropped_block : {braced : Bool} {s t u v r : Text} {xs : Nodes} {k : Children} → Spaces (wide || braced) s t → Slashdash t u → IsBlock wide u v xs
        → Blocks wide true v r k → Blocks wide braced s r k
    block : {braced : Bool} {s t u r : Text} {xs : Nodes} → Star NodeSpace s t → IsBlock wide t u xs → AfterBlock wide u r → Blocks wide braced s r (children xs)
    no_block : {braced : Bool} {s r : Text} → Star NodeSpace s r → Blocks wide braced s r no_children

  -- after the node's block: slashdashed blocks, and node-spaces
  pub data AfterBlock (wide : Bool) : Text → Text → Type 0 where
    dropped_later : {s t u v r : Text} {xs : Nodes} → Star NodeSpace s t → Slashdash t u → IsBlock wide u v xs → AfterBlock wide v r → AfterBlock wide s r
    no_more : {s r : Text} → Star NodeSpace s r → AfterBlock wide s r

  -- line-spaces, and slashdashed nodes
  pub data Gap (wide : Bool) : Text → Text → Type 0 where
    no_gap : {r : Text} → Gap wide r r
    line_space : {s t r : Text} → LineSpace s t → Gap wide t r → Gap wide s r
    dropped_node : {s t u v r : Text} {x : Node} → Slashdash s t → IsNode wide t u x → Terminator u v → Gap wide v r → Gap wide s r

  -- nodes, each after a gap and with its terminator, and then a gap
  pub data AreNodes (wide : Bool) : Text → Text → Nodes → Type 0 where
    last_gap : {s r : Text} → Gap wide s r → AreNodes wide s r none
    node_then : {s t u v r : Text} {x : Node} {xs : Nodes} → Gap wide s t → IsNode wide t u x → Terminator u v → AreNodes wide v r xs → AreNodes wide s r (first x xs)

  -- nodes between braces
  pub data IsBlock (wide : Bool) : Text → Text → Nodes → Type 0 where
    braces : {s r : Text} {xs : Nodes} → AreNodes wide s (125 ∷ r) xs → IsBlock wide (123 ∷ s) r xs

-- the whole text: an optional U+FEFF, and then nodes
pub data IsDocumentIn (wide : Bool) : Text → Nodes → Type 0 where
  no_bom : {t : Text} {xs : Nodes} → AreNodes wide t [] xs → IsDocumentIn wide t xs
  after_bom : {t : Text} {xs : Nodes} → AreNodes wide t [] xs → IsDocumentIn wide (0xFEFF ∷ t) xs

-- a document of the present language
abbrev pub IsDocument : Text → Nodes → Type 0
IsDocument t xs = IsDocumentIn true t xs

-- the whole text: a gap, a node with its terminator, and line-spaces
pub data IsNodeTextIn (wide : Bool) : Text → Node → Type 0 where
  node_text : {t u v r : Text} {x : Node} → Gap wide t u → IsNode wide u v x → Terminator v r → Star LineSpace r [] → IsNodeTextIn wide t x

-- a node text of the present language
abbrev pub IsNodeText : Text → Node → Type 0
IsNodeText t x = IsNodeTextIn true t x
