-- What is kept of comments may occur in the place in which it is written, and holds the items of its text.
use Rattle.kdl_layout.proofs.Common.{◌≡◌, ℕ, zero, suc, Bool, true, false, List, [], ◌∷◌, ◌++◌, refl, sym, subst, ◌∙◌, map, ap, append-nil, map-append, both_true, list_all, repeat, Text, Star, plus, Ws, ValueEnd, LineComment, between, Terminator, Gap, Item, Place, PlaceItems, piece, line_end, EsclineItems, SpaceItems, takes_blocks, InPlace, tail, line_text, on_line, Settings, indentation, WrittenUnless, EndItems, ItemsIn, end_comment, end_space, last_place, KeptEnd, no_line_comment, is_between, end_slashdash, is_space}
use Rattle.std.proofs.lemmas.List.Folds.{list_all-append}
use Rattle.kdl_text.specs.Chars.{space as a_space}
use Rattle.kdl_layout.specs.Items.{comment as a_comment}
use Rattle.kdl_layout.proofs.Rewriting.PlacesAgain.{one_space, space_ends, tail_alone, tail_end, tail_rest, tail_space, tail_spaced as items_spaced}
use Rattle.kdl_layout.proofs.Rewriting.LinesAgain.{comment_part, comment_again, comment_item, comment_kept, comment_text, spaces_gap}
use Rattle.kdl_layout.proofs.Rewriting.BeforeNewlines.{piece_kept, a_newline, newline_end}
use Rattle.kdl_layout.proofs.Listing.ItemsUnique.{end_items_det, place_in_det}
use Rattle.kdl_layout.proofs.Listing.PlaceTexts.{no_text, spaces_text}
use Rattle.kdl_layout.proofs.Listing.SpaceItems.{ends_here, ends_spaced}
use Rattle.kdl_layout.proofs.Rewriting.LastCharacters.{Last, last_after, last_end, entry_last, block_last, ws_last}

-- an indentation of spaces in a gap
pub level_spaces : (indent : Text) → list_all is_space indent ≡ true → (level : ℕ) → list_all is_space (repeat level indent) ≡ true
level_spaces indent ok zero = refl
level_spaces indent ok (suc level) = list_all-append is_space indent (repeat level indent) ∙ both_true ok (level_spaces indent ok level)

pub indentation_gap : (s : Settings) → list_all is_space s.indent ≡ true → (level : ℕ) → {t r : Text} → Gap true t r → Gap true (indentation s level ++ t) r
indentation_gap s ok level g = spaces_gap (indentation s level) (level_spaces s.indent ok level) g

-- nothing, or items of a place, each after a space
pub data Tail (p : Place) : Text → Type 0 where
  nothing : Tail p []
  items : {place : Text} {is : List Item} → PlaceItems p place is → Tail p (tail is)

pub tail_of : (b : Bool) (p : Place) (place t : Text) → WrittenUnless b (PlaceItems p place) tail t → Tail p t
tail_of true p place t e = subst (Tail p) (sym e) Tail.nothing
tail_of false p place t (is, ItemsIn.items d, e) = rw e (Tail.items d)
tail_of false p place t (_, ItemsIn.no_items f, e) = rw e Tail.nothing

pub tail_ends : {p : Place} {t : Text} → Tail p t → (r : Text) → ValueEnd true r → ValueEnd true (t ++ r)
tail_ends Tail.nothing r e = e
tail_ends (Tail.items {is = is} d) r e = tail_end is r e

-- before a space, and before the end of a line
pub tail_spaced : (p : Place) {t : Text} → Tail p t → (r : Text) → InPlace p (t ++ (32 ∷ r)) r
tail_spaced p Tail.nothing r = spaces_text p (plus (one_space r) Star.none)
tail_spaced p (Tail.items d) r = tail_space d r

pub takes_last : (b : Bool) → takes_blocks (last_place b) ≡ true
takes_last false = refl
takes_last true = refl

tail_line : (has : Bool) {t : Text} → Tail (last_place has) t → (r : Text) → InPlace (last_place has) (t ++ (10 ∷ r)) (10 ∷ r)
tail_line has Tail.nothing r = no_text (last_place has) (takes_last has) (10 ∷ r)
tail_line has (Tail.items d) r = tail_rest (takes_last has) d (newline_end r)

-- nothing before a newline, or a space and a line comment
pub data LineEnd : Text → Text → Type 0 where
  newline : LineEnd [] []
  comment : (s : Text) → LineEnd (32 ∷ []) (comment_part s)

pub line_end_of : (b : Bool) (terminator space t : Text) → KeptEnd b terminator space t → LineEnd space t
line_end_of true terminator space t k = subst (λ (x : Text). LineEnd x t) (sym k.0) (subst (λ (x : Text). LineEnd [] x) (sym k.1) LineEnd.newline)
line_end_of false terminator space t (_, EndItems.line_comment l, e, f) = let c = comment_item l in rw (e, f, c.1) (LineEnd.comment c.0)
line_end_of false terminator space t (_, EndItems.other h, e, f) = rw (e, f) LineEnd.newline

pub line_terminator : {space comment : Text} → LineEnd space comment → (r : Text) → Terminator (comment ++ (10 ∷ r)) r
line_terminator LineEnd.newline r = Terminator.newline (a_newline r)
line_terminator (LineEnd.comment s) r = Terminator.comment (comment_again s r)

-- the last place of a node, before its terminator
pub last_text : (has : Bool) {t space comment : Text} → Tail (last_place has) t → LineEnd space comment → (r : Text) → InPlace (last_place has) (t ++ (space ++ (comment ++ (10 ∷ r)))) (comment ++ (10 ∷ r))
last_text has k LineEnd.newline r = tail_line has k r
last_text has k (LineEnd.comment s) r = tail_spaced (last_place has) k (comment_part s ++ (10 ∷ r))

pub last_ends : {p : Place} {t space comment : Text} → Tail p t → LineEnd space comment → (r : Text) → ValueEnd true (t ++ (space ++ (comment ++ (10 ∷ r))))
last_ends k LineEnd.newline r = tail_ends k (10 ∷ r) (newline_end r)
last_ends k (LineEnd.comment s) r = tail_ends k (32 ∷ (comment_part s ++ (10 ∷ r))) (space_ends _)

-- What is kept in a place holds the items of its text.
-- a line comment is the same on a line
comment_on_line : {s r : Text} → LineComment s r → on_line (a_comment (between s (line_end s))) ≡ a_comment (between s (line_end s))
comment_on_line l = let c = comment_item l in rw c.1 (ap a_comment (comment_kept c.0))

-- and so is a piece that does not end with CR
piece_on_line : {s r : Text} → Last s r → on_line (piece (between s r)) ≡ piece (between s r)
piece_on_line {s} {r} l =
    let e = last_end l in
    subst (λ (t : Text). piece (line_text t) ≡ piece t) (is_between s r e.piece e.text) (ap piece (piece_kept e.piece e.text l []))

-- each item of a place is the same on a line
pair_stays : (i : Item) (is : List Item) → on_line i ≡ i → map on_line is ≡ is → map on_line (i ∷ is) ≡ i ∷ is
pair_stays i is e f = rw (e, f) refl

join_stays : (is js : List Item) → map on_line is ≡ is → map on_line js ≡ js → map on_line (is ++ js) ≡ is ++ js
join_stays is js e f = map-append on_line is js ∙ rw (e, f) refl

escline_stays : {s r : Text} {is : List Item} → EsclineItems s r is → map on_line is ≡ is
escline_stays (EsclineItems.space p d) = escline_stays d
escline_stays (EsclineItems.block b d) = pair_stays _ _ (piece_on_line (ws_last (Ws.comment b))) (escline_stays d)
escline_stays (EsclineItems.line l) = pair_stays _ [] (comment_on_line l) refl
escline_stays (EsclineItems.newline n) = refl
escline_stays EsclineItems.ends = refl

space_stays : {s r : Text} {is : List Item} → SpaceItems s r is → map on_line is ≡ is
space_stays (SpaceItems.space p) = refl
space_stays (SpaceItems.block b) = pair_stays _ [] (piece_on_line (ws_last (Ws.comment b))) refl
space_stays (SpaceItems.escline d) = escline_stays d

pub place_stays : {p : Place} {s : Text} {is : List Item} → PlaceItems p s is → map on_line is ≡ is
place_stays (PlaceItems.ends h) = refl
place_stays (PlaceItems.space {is = is} {js = js} n d) = join_stays is js (space_stays n) (place_stays d)
place_stays (PlaceItems.dropped_entry h m i d) = pair_stays _ _ (piece_on_line (last_after (end_slashdash m) (entry_last i))) (place_stays d)
place_stays (PlaceItems.dropped_block h m b d) = pair_stays _ _ (piece_on_line (last_after (end_slashdash m) (block_last b))) (place_stays d)

-- what is kept in a place, and the items there: with a space after it, and with nothing
pub record KeptIn (p : Place) (t : Text) (is : List Item) : Type 0 where
  pub stands : Tail p t
  pub spaced : PlaceItems p (t ++ (32 ∷ [])) is
  pub alone : takes_blocks p ≡ true → PlaceItems p t is

pub space_item : (s : Text) → SpaceItems (32 ∷ s) s []
unfolding is_space
space_item s = SpaceItems.space (a_space refl)

nothing_in : (p : Place) → KeptIn p [] []
nothing_in p = record { stands = Tail.nothing; spaced = PlaceItems.space (space_item []) (PlaceItems.ends (ends_spaced p)); alone = λ h. PlaceItems.ends (ends_here p h) }

written_in : (p : Place) {place : Text} {is : List Item} → ItemsIn (PlaceItems p place) is → KeptIn p (tail is) (map on_line is)
written_in p (ItemsIn.items {is = is} d) = subst (KeptIn p (tail is)) (sym (place_stays d)) (record { stands = Tail.items d; spaced = items_spaced d; alone = λ h. tail_alone h d })
written_in p (ItemsIn.no_items f) = nothing_in p

pub kept_in : (b : Bool) → b ≡ false → {p : Place} (place t : Text) {is : List Item} → WrittenUnless b (PlaceItems p place) tail t → ItemsIn (PlaceItems p place) is → KeptIn p t (map on_line is)
kept_in b with {p} place t {is} k i =
    let (js, j, e) = subst (λ (c : Bool). WrittenUnless c (PlaceItems p place) tail t) with k in
    rw e (subst (λ (l : List Item). KeptIn p (tail js) (map on_line l)) (place_in_det j i) (written_in p j))

-- a terminator that is kept
line_feed_end : EndItems (10 ∷ []) []
line_feed_end = EndItems.other (λ l. no_line_comment refl l)

comment_end : (s : Text) → EndItems (comment_part s ++ (10 ∷ [])) (a_comment (comment_part s) ∷ [])
comment_end s = subst (λ (t : Text). EndItems (comment_part s ++ (10 ∷ [])) (a_comment t ∷ [])) (comment_text s []) (EndItems.line_comment (comment_again s []))

-- its item is the same on a line, and is the item of the terminator that is written
end_stays : {end : Text} {is : List Item} → EndItems end is → map on_line is ≡ is
end_stays (EndItems.line_comment l) = ap (λ (i : Item). i ∷ []) (comment_on_line l)
end_stays (EndItems.other f) = refl

pub end_again : {end : Text} {is : List Item} → EndItems end is → EndItems (end_comment is ++ (10 ∷ [])) is
end_again (EndItems.line_comment l) = let c = comment_item l in rw c.1 (comment_end c.0)
end_again (EndItems.other f) = line_feed_end

pub kept_end : (b : Bool) → b ≡ false → (end space rest : Text) {is : List Item} → KeptEnd b end space rest → EndItems end is → EndItems (rest ++ (10 ∷ [])) (map on_line is)
kept_end b with end space rest k i =
    let (js, j, e, f) = subst (λ (c : Bool). KeptEnd c end space rest) with k in
    rw f (subst (EndItems (end_comment js ++ (10 ∷ []))) (end_items_det j i ∙ sym (end_stays i)) (end_again j))

-- what is kept before the terminator
last_written : (has : Bool) {end : Text} (t : Text) {is js : List Item} → EndItems end js → KeptIn (last_place has) t is → PlaceItems (last_place has) (t ++ end_space js) is
last_written has t (EndItems.line_comment l) k = k.spaced
last_written has t {is} (EndItems.other f) k = subst (λ (s : Text). PlaceItems (last_place has) s is) (sym (append-nil t)) (k.alone (takes_last has))

pub kept_last : (b : Bool) → b ≡ false → (has : Bool) (end space rest t : Text) {is : List Item} → KeptEnd b end space rest → KeptIn (last_place has) t is → PlaceItems (last_place has) (t ++ space) is
kept_last b with has end space rest t e k =
    let (js, j, f, g) = subst (λ (c : Bool). KeptEnd c end space rest) with e in
    rw f (last_written has t j k)
