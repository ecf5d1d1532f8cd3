-- How the results of the readers of gaps and places relate to the text: the items, and what the text lacks at its end.
use Rattle.std.specs.Prelude.{◌≡◌, ℕ, suc, ◌<◌, ◌≤◌, Bool, true, false, List, [], ◌∷◌, ◌++◌, Option, Some, None, length}
use Rattle.std.specs.Borrow.{Bor}
use Rattle.std.specs.Str.{chars}
use Rattle.kdl_text.specs.Chars.{Text, begins, Newline, Star, Plus}
use Rattle.kdl_text.specs.Trivia.{NodeSpace, Break, ValueEnd}
use Rattle.kdl_syntax.specs.Tokens.{Token, BeginsToken}
use Rattle.kdl_grammar.specs.Data.{Nodes, none}
use Rattle.kdl_grammar.specs.Grammar.{AreNodes}
use Rattle.kdl_grammar.specs.ReadsBack.{NodesEnd, AddsNothing}
use Rattle.kdl_layout.specs.Items.{Item, GapItems, Place, PlaceItems, takes_blocks, line_end}
use Rattle.kdl_layout.specs.Lacks.{newlines, InPlace, AreNodeSpaces, PlaceLacks}
use Rattle.kdl_layout.specs.Internal.Reading.{Adding, Leaves, Run, place_view}
use Rattle.kdl_layout.specs.declared.spaces.Place as held
use Rattle.std.specs.declared.ops.ControlFlow.{ControlFlow}
use Rattle.std.specs.declared.ops.ControlFlow.TheVariants.{Continue, Break as Breaks}
use Rattle.kdl_layout.specs.declared.spaces.Ending.{Ending}
use Rattle.kdl_layout.specs.declared.spaces.Ending.TheVariants.{Before, InReturn, Open}

-- how a line ends: before a rest, in a CR, or at the end of the text
abbrev pub LineEnds : Text → Ending → Type 0
LineEnds e (Before r) = (w : Text) → Newline (e ++ w) (chars r.now ++ w)
LineEnds e InReturn = e ≡ 13 ∷ []
LineEnds e Open = e ≡ []

-- the piece ends in a CR: an LF after it is part of its newline
pub record EndsInReturn (X : Text → Text → Type 0) (s : Text) : Type 0 where
  pub alone : (w : Text) → begins 10 w ≡ false → X (s ++ w) w
  pub before_lf : (w : Text) → X (s ++ (10 ∷ w)) w

-- a node that is one letter, after a space
abbrev pub letter : Text
letter = 32 ∷ 97 ∷ []

-- the piece has no newline: an LF ends it, and a letter after it is part of it, if a token begins there at all
pub record IsOpen (X : Text → Text → Type 0) (s : Text) : Type 0 where
  pub alone : X s []
  pub ended : (w : Text) → X (s ++ (10 ∷ w)) w
  pub swallows : (r : Text) (k : Token) → BeginsToken (s ++ letter) k r → X (s ++ letter) []

-- the text begins with Xs that end before a rest, whatever follows the rest; or the whole text is one X
abbrev pub EndsAs : (Text → Text → Type 0) → Text → Ending → Type 0
EndsAs X s (Before r) = ((w : Text) → Plus X (s ++ w) (chars r.now ++ w)) × (length (chars r.now) < length s)
EndsAs X s InReturn = EndsInReturn X s
EndsAs X s Open = IsOpen X s

-- the text after such Xs
abbrev pub left : Ending → Text
left (Before r) = chars r.now
left InReturn = []
left Open = []

-- such Xs begin the text, and their items were added; or no X begins it
abbrev pub Spaces : (X : Text → Text → Type 0) (Y : Text → Text → List Item → Type 0) → Text → Option Ending → Option (List Item) → Option (List Item) → Type 0
Spaces X Y s (Some y) old new = Adding (Run Y s (left y)) old new × EndsAs X s y
Spaces X Y s None old new = (r : Text) → X s r → ⊥

-- how the terminator ends that is in a text before v
pub data EndsNode (v : Text) : Text → Ending → Type 0 where
  semicolon : {r : Bor (List ℕ)} → chars r.now ≡ v → EndsNode v (59 ∷ v) (Before r)
  line : {u : Text} {y : Ending} → Break u v → LineEnds (line_end u) y → EndsNode v u y

-- the text is node-spaces, whatever follows it, and their items were added; or it is not, and if it is node-spaces at all, an LF ends them
abbrev pub OnlySpaces : Text → Bool → Option (List Item) → Option (List Item) → Type 0
OnlySpaces t true old new = AreNodeSpaces t × Adding (GapItems t) old new
OnlySpaces t false old new = (AreNodeSpaces t → ⊥) × (Star NodeSpace t [] → Adding (GapItems t) old new × ((w : Text) → Star NodeSpace (t ++ (10 ∷ w)) w))

-- what comes before r in s holds these items, and adds nothing to the nodes after it
pub record Through (s r : Text) (is : List Item) : Type 0 where
  pub items : Leaves (GapItems s) (GapItems r) is
  pub adds : (js : List Item) → GapItems r js → (w z : Text) (xs : Nodes) → NodesEnd z → AreNodes true (r ++ w) z xs → AreNodes true (s ++ w) z xs
  pub off : (js : List Item) → GapItems r js → (w : Text) (xs : Nodes) → AreNodes true (s ++ w) [] xs → AreNodes true (r ++ w) [] xs

-- with one newline fewer, a letter appended adds no node
abbrev pub Fewest : Text → ℕ → Type 0
Fewest s k = (j : ℕ) → suc j ≡ k → (xs : Nodes) → AreNodes true ((s ++ newlines j) ++ letter) [] xs → xs ≡ none

-- the text lacks k newlines, at most two
abbrev pub GapEnds : Text → ℕ → Type 0
GapEnds s k = (k ≤ 2) × AddsNothing (s ++ newlines k) × Fewest s k

-- the text is a gap that lacks k newlines, and its items were added; or it is not a gap
abbrev pub GapRead : Text → Option ℕ → Option (List Item) → Option (List Item) → Type 0
GapRead s (Some k) old new = Adding (GapItems s) old new × GapEnds s k
GapRead s None old new = (all : List Item) → GapItems s all → ⊥

-- a piece of a gap that ends so: what follows an escline or a comment in it may lack a newline
abbrev pub piece_of : Ending → ControlFlow ℕ (Bor (List ℕ))
piece_of (Before r) = Continue r
piece_of InReturn = Breaks 0
piece_of Open = Breaks 1

-- the first piece of a gap ends before a rest; or it is the whole text; or the text is not a gap
abbrev pub GapPieceEnds : Text → Option (ControlFlow ℕ (Bor (List ℕ))) → Option (List Item) → Option (List Item) → Type 0
GapPieceEnds s (Some (Continue r)) old new = Adding (Through s (chars r.now)) old new × (length (chars r.now) < length s)
GapPieceEnds s (Some (Breaks k)) old new = GapRead s (Some k) old new
GapPieceEnds s None old new = GapRead s None old new

-- s in the place p has these items and continues as r in the place q, and s may come before what r may come before
pub record PlaceThrough (p : Place) (s : Text) (q : Place) (r : Text) (is : List Item) : Type 0 where
  pub items : Leaves (PlaceItems p s) (PlaceItems q r) is
  pub adds : (js : List Item) → PlaceItems q r js → (w z : Text) → ValueEnd true z → InPlace q (r ++ w) z → InPlace p (s ++ w) z
  pub blocks : takes_blocks p ≡ true → takes_blocks q ≡ true

-- the first piece ends before a rest; or it is the whole text, and ends in an escline that lacks a newline; or the text may not be in the place
abbrev pub PlacePieceEnds : held.Place → Text → Option (ControlFlow (Unit {0}) (held.Place × Bor (List ℕ))) → Option (List Item) → Option (List Item) → Type 0
PlacePieceEnds p s (Some (Continue (q, r))) old new = Adding (PlaceThrough (place_view p) s (place_view q) (chars r.now)) old new × (length (chars r.now) < length s)
PlacePieceEnds p s (Some (Breaks u)) old new = Adding (PlaceItems (place_view p) s) old new × ((z : Text) → InPlace (place_view p) (s ++ (10 ∷ z)) z)
PlacePieceEnds p s None old new = (all : List Item) → PlaceItems (place_view p) s all → ⊥

-- the items of the text in the place were added; or it may not be there
abbrev pub PlaceRead : Place → Text → Option Bool → Option (List Item) → Option (List Item) → Type 0
PlaceRead p s (Some b) old new = Adding (PlaceItems p s) old new × PlaceLacks p s (Some b)
PlaceRead p s None old new = (all : List Item) → PlaceItems p s all → ⊥
