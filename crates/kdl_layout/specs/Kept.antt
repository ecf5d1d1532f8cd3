-- What layout keeps of the comments and slashdashed pieces in a place.
use Rattle.std.specs.Prelude.{◌≡◌, Bool, true, false, ◌||◌, List, [], ◌∷◌, ◌==◌, if◌then◌else◌, Option, Some, None}
use Rattle.kdl_text.specs.Chars.{Text}
use Rattle.kdl_text.specs.Trivia.{LineComment}
use Rattle.kdl_entry.specs.Places.{between}
use Rattle.kdl_entry.specs.Tree.{EntryFormat}
use Rattle.kdl_layout.specs.Items.{Item, comment, line_end, Place, before_entry, before_block, after_block, PlaceItems}
use Rattle.kdl_layout.specs.Written.{item_text, tail}
use Rattle.kdl_layout.specs.Config.{Settings}

-- the items of a text in its place; none if the text can't be there
pub data ItemsIn (Has : List Item → Type 0) : List Item → Type 0 where
  items : {is : List Item} → Has is → ItemsIn Has is
  no_items : ((is : List Item) → Has is → ⊥) → ItemsIn Has []

-- these items, written in some way
abbrev pub Written : (List Item → Type 0) → (List Item → Text) → Text → Type 0
Written Has write t = (is : List Item) × ItemsIn Has is × (t ≡ write is)

-- the same, or nothing if comments are removed
abbrev pub WrittenUnless : Bool → (List Item → Type 0) → (List Item → Text) → Text → Type 0
WrittenUnless true Has write t = t ≡ []
WrittenUnless false Has write t = Written Has write t

-- what is kept of a text in a node: each item after a space
abbrev pub KeptTail : Settings → Place → Text → Text → Type 0
KeptTail s p place t = WrittenUnless s.no_comments (PlaceItems p place) tail t

-- what is kept of the text before the block: nothing if there is no block
abbrev pub KeptBeforeBlock : Settings → Bool → Text → Text → Type 0
KeptBeforeBlock s false place t = t ≡ []
KeptBeforeBlock s true place t = KeptTail s before_block place t

-- the place before the terminator: after a block or without one
abbrev pub last_place : Bool → Place
last_place false = before_block
last_place true = after_block

-- the item of a terminator, if it is a line comment
pub data EndItems (terminator : Text) : List Item → Type 0 where
  line_comment : LineComment terminator [] → EndItems terminator (comment (between terminator (line_end terminator)) ∷ [])
  other : (LineComment terminator [] → ⊥) → EndItems terminator []

-- it is written after a space
abbrev pub end_space : List Item → Text
end_space [] = []
end_space (i ∷ is) = 32 ∷ []

abbrev pub end_comment : List Item → Text
end_comment [] = []
end_comment (i ∷ is) = item_text i

-- what is kept of a terminator: a space and a line comment, or neither
abbrev pub KeptEnd : Bool → Text → Text → Text → Type 0
KeptEnd true terminator before end = (before ≡ []) × (end ≡ [])
KeptEnd false terminator before end = (is : List Item) × EndItems terminator is × (before ≡ end_space is) × (end ≡ end_comment is)

-- a text without the U+FEFF at its start, if there is one
abbrev pub without_bom : Text → Text
without_bom [] = []
without_bom (c ∷ s) = if c == 0xFEFF then s else c ∷ s

-- the text before an entry
abbrev pub entry_leading : Option EntryFormat → Text
entry_leading None = []
entry_leading (Some f) = f.leading

-- whether an entry is flagged to keep its form
abbrev pub is_kept_format : Option EntryFormat → Bool
is_kept_format None = false
is_kept_format (Some f) = f.autoformat_keep

-- what is kept of the text before an entry: nothing if the entry keeps its form
abbrev pub KeptBefore : Settings → Option EntryFormat → Text → Type 0
KeptBefore s f t = WrittenUnless (is_kept_format f || s.no_comments) (PlaceItems (before_entry false) (entry_leading f)) tail t
