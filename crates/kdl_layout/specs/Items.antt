-- The comments and slashdashed pieces in a text around nodes or entries, in order. Nothing inside a slashdashed piece is an item.
-- `X s r is`: an X begins the text s, leaves r, and holds the items is.
use Rattle.std.specs.Prelude.{◌≡◌, Bool, true, false, List, [], ◌∷◌, ◌++◌, if◌then◌else◌}
use Rattle.kdl_text.specs.Chars.{Text, is_newline_char, Newline, Space, Star, Plus}
use Rattle.kdl_text.specs.Trivia.{BlockComment, LineComment, NodeSpace, Break, Slashdash}
use Rattle.kdl_entry.specs.Data.{Entry}
use Rattle.kdl_entry.specs.Entries.{IsEntry}
use Rattle.kdl_entry.specs.Places.{between}
use Rattle.kdl_grammar.specs.Data.{Node, Nodes}
use Rattle.kdl_grammar.specs.Grammar.{IsNode, IsBlock}

-- a line comment without its newline; or a block comment or a slashdashed piece
pub data Item : Type 0 where
  comment : Text → Item
  piece : Text → Item

-- the text from its first newline on
abbrev pub line_end : Text → Text
line_end [] = []
line_end (c ∷ s) = if is_newline_char c then c ∷ s else line_end s

-- after the `\` of an escline: spaces and block comments, and then a line comment, a newline, or the end of the text
pub data EsclineItems : Text → Text → List Item → Type 0 where
  space : {s t r : Text} {is : List Item} → Space s t → EsclineItems t r is → EsclineItems s r is
  block : {s t r : Text} {is : List Item} → BlockComment s t → EsclineItems t r is → EsclineItems s r (piece (between s t) ∷ is)
  line : {s r : Text} → LineComment s r → EsclineItems s r (comment (between s (line_end s)) ∷ [])
  newline : {s r : Text} → Newline s r → EsclineItems s r []
  ends : EsclineItems [] [] []

-- a node-space
pub data SpaceItems : Text → Text → List Item → Type 0 where
  space : {s r : Text} → Space s r → SpaceItems s r []
  block : {s r : Text} → BlockComment s r → SpaceItems s r (piece (between s r) ∷ [])
  escline : {s r : Text} {is : List Item} → EsclineItems s r is → SpaceItems (92 ∷ s) r is

-- a line-space
pub data LineSpaceItems : Text → Text → List Item → Type 0 where
  space : {s r : Text} {is : List Item} → SpaceItems s r is → LineSpaceItems s r is
  newline : {s r : Text} → Newline s r → LineSpaceItems s r []
  line : {s r : Text} → LineComment s r → LineSpaceItems s r (comment (between s (line_end s)) ∷ [])

-- where a slashdashed node ends, if the terminator is in u before v: after a `;`, or before the newline of a line
pub data ItemEnd : Text → Text → Text → Type 0 where
  semicolon : {r : Text} → ItemEnd (59 ∷ r) r r
  line : {u v : Text} → Break u v → ItemEnd u v (line_end u)

-- the node that is in t before u does not end with node-spaces
abbrev pub EndsTight : Text → Text → Type 0
EndsTight t u = (w : Text) (x : Node) → IsNode true t w x → Plus NodeSpace w u → ⊥

-- a whole text that is a gap: line-spaces, and slashdashed nodes; the last one may have no terminator, and the node-spaces after it are not part of it
pub data GapItems : Text → List Item → Type 0 where
  none : GapItems [] []
  space : {s t : Text} {is js : List Item} → LineSpaceItems s t is → GapItems t js → GapItems s (is ++ js)
  dropped_node : {s t u v e : Text} {x : Node} {is : List Item} → Slashdash s t → IsNode true t u x → ItemEnd u v e → GapItems v is → GapItems s (piece (between s e) ∷ is)
  last_node : {s t u : Text} {x : Node} {is : List Item} → Slashdash s t → IsNode true t u x → EndsTight t u → Star NodeSpace u [] → GapItems u is → GapItems s (piece (between s u) ∷ is)

-- a place in a node: before an entry, with or without a node-space directly before what comes; before the block, or before the terminator of a node without a block; after a block
pub data Place : Type 0 where
  before_entry : Bool → Place
  before_block : Place
  after_block : Place

-- the place may end here
abbrev pub may_end : Place → Bool
may_end (before_entry spaced) = spaced
may_end before_block = true
may_end after_block = true

-- entries may be slashdashed here
abbrev pub takes_entries : Place → Bool
takes_entries (before_entry spaced) = true
takes_entries before_block = true
takes_entries after_block = false

-- blocks may be slashdashed here
abbrev pub takes_blocks : Place → Bool
takes_blocks (before_entry spaced) = false
takes_blocks before_block = true
takes_blocks after_block = true

-- the place after a node-space, or directly after a slashdashed entry
abbrev pub spaced : Bool → Place → Place
spaced b (before_entry c) = before_entry b
spaced b before_block = before_block
spaced b after_block = after_block

-- a whole text that is in such a place: node-spaces, slashdashed entries, and then slashdashed blocks
pub data PlaceItems : Place → Text → List Item → Type 0 where
  ends : {p : Place} → may_end p ≡ true → PlaceItems p [] []
  space : {p : Place} {s t : Text} {is js : List Item} → SpaceItems s t is → PlaceItems (spaced true p) t js → PlaceItems p s (is ++ js)
  dropped_entry : {p : Place} {s t u : Text} {is : List Item} {e : Entry} → takes_entries p ≡ true → Slashdash s t → IsEntry true t u e → PlaceItems (spaced false p) u is → PlaceItems p s (piece (between s u) ∷ is)
  dropped_block : {p : Place} {s t u : Text} {is : List Item} {xs : Nodes} → takes_blocks p ≡ true → Slashdash s t → IsBlock true t u xs → PlaceItems after_block u is → PlaceItems p s (piece (between s u) ∷ is)
