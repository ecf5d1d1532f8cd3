-- How the results of the readers of items relate to the text.
use Rattle.std.specs.Prelude.{◌≡◌, ◌↔◌, ℕ, Bool, true, false, List, [], ◌∷◌, ◌++◌, Option, Some, None, map, option_map, Vec}
use Rattle.std.specs.Str.{chars}
use Rattle.std.specs.declared.alloc.Global.{Global}
use Rattle.kdl_text.specs.Chars.{Text, Newline as IsNewline, Space as IsSpace, Plus}
use Rattle.kdl_text.specs.Spans.{bytes}
use Rattle.kdl_text.specs.Trivia.{BlockComment, LineComment}
use Rattle.kdl_syntax.specs.Tokens.{Token, BeginsToken, space, newline, slashdash}
use Rattle.kdl_entry.specs.Places.{between}
use Rattle.kdl_layout.specs.Items as items
use Rattle.kdl_layout.specs.Items.{line_end, GapItems, PlaceItems, before_entry, before_block, after_block}
use Rattle.kdl_layout.specs.declared.spaces.Item.{Item}
use Rattle.kdl_layout.specs.declared.spaces.Item.TheVariants.{Comment, Piece}
use Rattle.kdl_layout.specs.declared.spaces.Place.{Place}
use Rattle.kdl_layout.specs.declared.spaces.Place.TheVariants.{BeforeEntry, BeforeBlock, AfterBlock}
use Rattle.kdl_layout.specs.declared.spaces.Start.{Start}
use Rattle.kdl_layout.specs.declared.spaces.Start.TheVariants.{Space, Break, Backslash, Slashdash, End, Other}

-- the item in memory, with its text as characters
abbrev pub item_view : Item → items.Item
item_view (Comment t) = items.comment (chars t.now)
item_view (Piece t) = items.piece (chars t.now)

abbrev pub items_view : List Item → List items.Item
items_view xs = map item_view xs

abbrev pub place_view : Place → items.Place
place_view (BeforeEntry b) = before_entry b
place_view BeforeBlock = before_block
place_view AfterBlock = after_block

-- a piece of n bytes begins the text
abbrev pub Cut : Text → ℕ → Type 0
Cut s n = (p : Text) × (r : Text) × (s ≡ p ++ r) × (bytes p ≡ n)

-- a token that may be in a gap or a place
abbrev pub is_piece : Token → Bool
is_piece space = true
is_piece newline = true
is_piece slashdash = true
is_piece _ = false

-- what begins the text
abbrev pub Starts : Text → Start → Type 0
Starts s (Space None r) = Plus IsSpace s (chars r.now)
Starts s (Space (Some i) r) = BlockComment s (chars r.now) × (item_view i ≡ items.piece (between s (chars r.now)))
Starts s (Break None r) = IsNewline s (chars r.now)
Starts s (Break (Some i) r) = LineComment s (chars r.now) × (item_view i ≡ items.comment (between s (line_end s)))
Starts s (Backslash r) = s ≡ 92 ∷ chars r.now
Starts s Slashdash = (t : Text) × (s ≡ 47 ∷ 45 ∷ t)
Starts s End = s ≡ []
Starts s Other = (s ≡ [] → ⊥) × ((r : Text) (k : Token) → BeginsToken s k r → is_piece k ≡ false)

-- the item that was found, if one was
abbrev pub found : Option Item → List items.Item
found None = []
found (Some i) = item_view i ∷ []

-- one or more pieces of a kind in a row, with their items
pub data Run (X : Text → Text → List items.Item → Type 0) : Text → Text → List items.Item → Type 0 where
  one : {s r : Text} {is : List items.Item} → X s r is → Run X s r is
  more : {s t r : Text} {is js : List items.Item} → X s t is → Run X t r js → Run X s r (is ++ js)

-- the items in memory, if they are asked for
abbrev pub held : Option (Vec Item Global) → Option (List items.Item)
held o = option_map (λ v. items_view v.items) o

-- the items with more after them, if they are asked for
abbrev pub added : Option (List items.Item) → List items.Item → Option (List items.Item)
added None is = None
added (Some old) is = Some (old ++ is)

-- P holds of the items that were added
pub data Adding (P : List items.Item → Type 0) (old new : Option (List items.Item)) : Type 0 where
  adding : (is : List items.Item) → new ≡ added old is → P is → Adding P old new

-- what has items of the kind X has these first, and then those of the kind Y
abbrev pub Leaves : (X Y : List items.Item → Type 0) → List items.Item → Type 0
Leaves X Y is = (all : List items.Item) → X all ↔ ((js : List items.Item) × (all ≡ is ++ js) × Y js)

-- the text is a gap with the items that were returned, or it is not a gap
abbrev pub IsGapWith : Text → Option (List items.Item) → Type 0
IsGapWith s (Some is) = GapItems s is
IsGapWith s None = (is : List items.Item) → GapItems s is → ⊥

-- the same of a place in a node
abbrev pub IsPlaceWith : items.Place → Text → Option (List items.Item) → Type 0
IsPlaceWith p s (Some is) = PlaceItems p s is
IsPlaceWith p s None = (is : List items.Item) → PlaceItems p s is → ⊥
