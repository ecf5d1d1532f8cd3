-- Items that are written in a place of a node are items of such a place again, and what is written may be there.
use Rattle.kdl_layout.proofs.Common.{◌≡◌, Bool, true, false, List, [], ◌∷◌, ◌++◌, refl, sym, subst, ◌∙◌, append_assoc, append-nil, Text, Space, more, plus, BlockComment, LineComment, Ws, EscEnd, escline, NodeSpace, Slashdash, ValueEnd, IsEntry, between, between_is, is_between, move_slashdash, move_entry, Put, joined, IsBlock, Item, comment, piece, line_end, EsclineItems, SpaceItems, Place, before_entry, before_block, after_block, takes_entries, takes_blocks, spaced, PlaceItems, ends, InPlace, tail, is_space}
use Rattle.kdl_text.specs.Chars.{none, space as a_space}
use Rattle.kdl_entry.specs.Data.{Entry}
use Rattle.kdl_grammar.specs.Data.{Nodes}
use Rattle.kdl_layout.specs.Items.{dropped_entry, dropped_block}
use Rattle.kdl_layout.proofs.Listing.SpaceItems.{ends_here, ends_spaced, spaced_again, entries_spaced, blocks_spaced}
use Rattle.kdl_layout.proofs.Listing.PlaceTexts.{DashedEntry, DashedBlock, no_text, place_spaced, spaces_text, text_block, text_entry, text_space}
use Rattle.kdl_layout.proofs.Rewriting.BeforeNewlines.{closed_block, closed_braces}
use Rattle.kdl_layout.proofs.Rewriting.LinesAgain.{comment_part, comment_again, comment_text, comment_item}

-- the item in a place, and the place after it
data ItemIn : Place → Item → Place → Type 0 where
  line_comment : {p : Place} (s : Text) → ItemIn p (comment (comment_part s)) p
  block_comment : {p : Place} {t : Text} → ((r : Text) → BlockComment (t ++ r) r) → ItemIn p (piece t) p
  an_entry : {p : Place} {t : Text} → takes_entries p ≡ true → ((r : Text) → ValueEnd true r → DashedEntry (t ++ r) r) → ItemIn p (piece t) p
  a_block : {p : Place} {t : Text} → takes_blocks p ≡ true → ((r : Text) → DashedBlock (t ++ r) r) → ItemIn p (piece t) after_block

data AreItemsIn : Place → List Item → Place → Type 0 where
  no_item : {p : Place} → AreItemsIn p [] p
  one_more : {p q r : Place} {i : Item} {is : List Item} → ItemIn p i q → AreItemsIn q is r → AreItemsIn p (i ∷ is) r

in_join : {p q r : Place} {is js : List Item} → AreItemsIn p is q → AreItemsIn q js r → AreItemsIn p (is ++ js) r
in_join no_item b = b
in_join (one_more i a) b = one_more i (in_join a b)

as_spaced : (p : Place) → (b : Bool) × (spaced b p ≡ p)
as_spaced (before_entry c) = (c, refl)
as_spaced before_block = (true, refl)
as_spaced after_block = (true, refl)

-- what a place holds, as items
comment_in : {p : Place} {s r : Text} → LineComment s r → ItemIn p (comment (between s (line_end s))) p
comment_in {p} l = let c = comment_item l in subst (λ (t : Text). ItemIn p (comment t) p) (sym c.1) (ItemIn.line_comment c.0)

block_in : {p : Place} {s r : Text} → BlockComment s r → ItemIn p (piece (between s r)) p
block_in {p} {s} {r} b =
    let c = closed_block b in
    subst (λ (t : Text). ItemIn p (piece t) p) (is_between s r c.at.piece (c.at.here ∙ c.at.text r))
    (ItemIn.block_comment (λ z. subst (λ (y : Text). BlockComment y z) (c.at.text z) (c.there z)))

-- what is slashdashed comes before each rest: an entry before each value end
pub moved_entry : {s t u : Text} {e : Entry} → Slashdash s t → IsEntry true t u e → (p : Put s u) × ((z : Text) → ValueEnd true z → DashedEntry (p.put z) z)
moved_entry m i = let o = move_slashdash m in let c = move_entry i in (joined o.at c.at, λ z k. DashedEntry.dashed (o.there (c.at.put z) (c.full z)) (c.there z k))

pub moved_block : {s t u : Text} {xs : Nodes} → Slashdash s t → IsBlock true t u xs → (p : Put s u) × ((z : Text) → DashedBlock (p.put z) z)
moved_block m b = let o = move_slashdash m in let c = closed_braces b in (joined o.at c.at, λ z. DashedBlock.dashed (o.there (c.at.put z) (c.full z)) (c.there z))

entry_in : {p : Place} {s t u : Text} {e : Entry} → takes_entries p ≡ true → Slashdash s t → IsEntry true t u e → ItemIn p (piece (between s u)) p
entry_in {p} {s} {t} {u} h m i =
    let (at, f) = moved_entry m i in
    subst (λ (t : Text). ItemIn p (piece t) p) (is_between s u at.piece (at.here ∙ at.text u)) (ItemIn.an_entry h (λ z k. subst (λ (y : Text). DashedEntry y z) (at.text z) (f z k)))

braces_in : {p : Place} {s t u : Text} {xs : Nodes} → takes_blocks p ≡ true → Slashdash s t → IsBlock true t u xs → ItemIn p (piece (between s u)) after_block
braces_in {p} {s} {t} {u} h m b =
    let (at, f) = moved_block m b in
    subst (λ (t : Text). ItemIn p (piece t) after_block) (is_between s u at.piece (at.here ∙ at.text u)) (ItemIn.a_block h (λ z. subst (λ (y : Text). DashedBlock y z) (at.text z) (f z)))

esc_in : {p : Place} {s r : Text} {is : List Item} → EsclineItems s r is → AreItemsIn p is p
esc_in (EsclineItems.space n d) = esc_in d
esc_in (EsclineItems.block b d) = one_more (block_in b) (esc_in d)
esc_in (EsclineItems.line l) = one_more (comment_in l) no_item
esc_in (EsclineItems.newline n) = no_item
esc_in EsclineItems.ends = no_item

space_in : {p : Place} {s r : Text} {is : List Item} → SpaceItems s r is → AreItemsIn p is p
space_in (SpaceItems.space n) = no_item
space_in (SpaceItems.block b) = one_more (block_in b) no_item
space_in (SpaceItems.escline d) = esc_in d

-- the place directly after the last item
abbrev pub last_place : {p : Place} {s : Text} {is : List Item} → PlaceItems p s is → Place
last_place (ends {p = p} h) = spaced false p
last_place (PlaceItems.space n d) = last_place d
last_place (dropped_entry h m i d) = last_place d
last_place (dropped_block h m b d) = last_place d

last_unspaced : {p : Place} {s : Text} {is : List Item} (d : PlaceItems p s is) → spaced false (last_place d) ≡ last_place d
last_unspaced (ends {p = p} h) = spaced_again false false p
last_unspaced (PlaceItems.space n d) = last_unspaced d
last_unspaced (dropped_entry h m i d) = last_unspaced d
last_unspaced (dropped_block h m b d) = last_unspaced d

all_in : {p : Place} {s : Text} {is : List Item} (d : PlaceItems p s is) → AreItemsIn (spaced false p) is (last_place d)
all_in (ends h) = no_item
all_in (PlaceItems.space {p = p} {js = js} n d) = in_join (space_in n) (subst (λ (q : Place). AreItemsIn q js (last_place d)) (spaced_again false true p) (all_in d))
all_in (dropped_entry {p = p} {is = is} h m i d) =
    one_more (entry_in (entries_spaced false p ∙ h) m i) (subst (λ (q : Place). AreItemsIn q is (last_place d)) (spaced_again false false p) (all_in d))
all_in (dropped_block {p = p} h m b d) = one_more (braces_in (blocks_spaced false p ∙ h) m b) (all_in d)

blocks_end : {p : Place} {s : Text} {is : List Item} (d : PlaceItems p s is) → takes_blocks p ≡ true → takes_blocks (last_place d) ≡ true
blocks_end (ends {p = p} h) k = blocks_spaced false p ∙ k
blocks_end (PlaceItems.space {p = p} n d) k = blocks_end d (blocks_spaced true p ∙ k)
blocks_end (dropped_entry {p = p} h m i d) k = blocks_end d (blocks_spaced false p ∙ k)
blocks_end (dropped_block h m b d) k = blocks_end d refl

-- a place without a node-space before what follows takes what it takes with one
loosen : (p : Place) {s : Text} {is : List Item} → PlaceItems (spaced false p) s is → (b : Bool) → PlaceItems (spaced b p) s is
loosen (before_entry c) d b = go b d
  where
    go : (b : Bool) {s : Text} {is : List Item} → PlaceItems (before_entry false) s is → PlaceItems (before_entry b) s is
    go b (ends h) = absurd cc
    go b (PlaceItems.space n d) = PlaceItems.space n d
    go b (dropped_entry h m i d) = dropped_entry refl m i d
    go b (dropped_block h m k d) = absurd cc
loosen before_block d b = d
loosen after_block d b = d

space_here : (s : Text) → Space (32 ∷ s) s
unfolding is_space
space_here s = a_space refl

pub one_space : (s : Text) → NodeSpace (32 ∷ s) s
one_space s = NodeSpace.ws (Ws.space (space_here s))

pub space_ends : (s : Text) → ValueEnd true (32 ∷ s)
space_ends s = ValueEnd.space (space_here s)

pub tail_end : (is : List Item) (z : Text) → ValueEnd true z → ValueEnd true (tail is ++ z)
tail_end [] z e = e
tail_end (comment t ∷ is) z e = space_ends _
tail_end (piece t ∷ is) z e = space_ends _

comment_joined : (t m z : Text) → ((t ++ (10 ∷ [])) ++ m) ++ z ≡ t ++ (10 ∷ (m ++ z))
comment_joined t m z = simp append_assoc

-- a space in front
after_space : (p : Place) (b : Bool) {t : Text} {is : List Item} → PlaceItems (spaced true p) t is → PlaceItems (spaced b p) (32 ∷ t) is
after_space p b {t} {is} d = PlaceItems.space (SpaceItems.space (space_here t)) (subst (λ (q : Place). PlaceItems q t is) (sym (spaced_again true b p)) d)

more_items : (p : Place) {s t : Text} {is js : List Item} → SpaceItems s t is → PlaceItems (spaced true p) t js → PlaceItems (spaced true p) s (is ++ js)
more_items p {t = t} {js = js} n d = PlaceItems.space n (subst (λ (q : Place). PlaceItems q t js) (sym (spaced_again true true p)) d)

esc_comment : (s r : Text) → SpaceItems (92 ∷ 32 ∷ (comment_part s ++ (10 ∷ r))) r (comment (comment_part s) ∷ [])
esc_comment s r =
    SpaceItems.escline (EsclineItems.space (space_here (comment_part s ++ (10 ∷ r)))
    (subst (λ (t : Text). EsclineItems (comment_part s ++ (10 ∷ r)) r (comment t ∷ [])) (comment_text s r) (EsclineItems.line (comment_again s r))))

block_item : (t r : Text) → BlockComment (t ++ r) r → SpaceItems (t ++ r) r (piece t ∷ [])
block_item t r b = subst (λ (z : Text). SpaceItems (t ++ r) r (piece z ∷ [])) (between_is t r) (SpaceItems.block b)

entry_item : (p : Place) (t r : Text) {js : List Item} → takes_entries p ≡ true → DashedEntry (t ++ r) r → PlaceItems (spaced false p) r js → PlaceItems (spaced true p) (t ++ r) (piece t ∷ js)
entry_item p t r {js} h (DashedEntry.dashed m i) d =
    subst (λ (z : Text). PlaceItems (spaced true p) (t ++ r) (piece z ∷ js)) (between_is t r)
    (dropped_entry (entries_spaced true p ∙ h) m i (subst (λ (q : Place). PlaceItems q r js) (sym (spaced_again false true p)) d))

braces_item : (p : Place) (t r : Text) {js : List Item} → takes_blocks p ≡ true → DashedBlock (t ++ r) r → PlaceItems after_block r js → PlaceItems (spaced true p) (t ++ r) (piece t ∷ js)
braces_item p t r {js} h (DashedBlock.dashed m b) d =
    subst (λ (z : Text). PlaceItems (spaced true p) (t ++ r) (piece z ∷ js)) (between_is t r) (dropped_block (blocks_spaced true p ∙ h) m b d)

written : {p q : Place} {is : List Item} → AreItemsIn p is q → {z : Text} {js : List Item} → PlaceItems (spaced false q) z js → ValueEnd true z → (b : Bool) → PlaceItems (spaced b p) (tail is ++ z) (is ++ js)
written (no_item {p = p}) d e b = loosen p d b
written (one_more {p = p} {is = is} (ItemIn.line_comment s) k) {z} d e b =
    rw (comment_joined (comment_part s) (tail is) z) (after_space p b (more_items p (esc_comment s (tail is ++ z)) (written k d e true)))
written (one_more {p = p} {is = is} (ItemIn.block_comment {t = t} f) k) {z} d e b =
    rw (append_assoc t (tail is) z) (after_space p b (more_items p (block_item t (tail is ++ z) (f (tail is ++ z))) (written k d e true)))
written (one_more {p = p} {is = is} (ItemIn.an_entry {t = t} h f) k) {z} d e b =
    rw (append_assoc t (tail is) z) (after_space p b (entry_item p t (tail is ++ z) h (f (tail is ++ z) (tail_end is z e)) (written k d e false)))
written (one_more {p = p} {is = is} (ItemIn.a_block {t = t} h f) k) {z} d e b =
    rw (append_assoc t (tail is) z) (after_space p b (braces_item p t (tail is ++ z) h (f (tail is ++ z)) (written k d e true)))

-- the items of a place, written out, are the items of such a place
pub tail_again : {p : Place} {s : Text} {is : List Item} (d : PlaceItems p s is) {q : Text} {js : List Item} → PlaceItems (last_place d) q js → ValueEnd true q → PlaceItems p (tail is ++ q) (is ++ js)
tail_again {p} {s} {is} d {q} {js} k e =
    let o = as_spaced p in
    subst (λ (x : Place). PlaceItems x (tail is ++ q) (is ++ js)) (spaced_again o.0 false p ∙ o.1)
    (written (all_in d) (subst (λ (x : Place). PlaceItems x q js) (sym (last_unspaced d)) k) e o.0)

-- with nothing after them, where blocks may be dropped
pub tail_alone : {p : Place} {s : Text} {is : List Item} → takes_blocks p ≡ true → PlaceItems p s is → PlaceItems p (tail is) is
tail_alone {p} {s} {is} h d =
    subst (λ (t : Text). PlaceItems p t is) (append-nil (tail is))
    (subst (λ (js : List Item). PlaceItems p (tail is ++ []) js) (append-nil is) (tail_again d (ends (ends_here (last_place d) (blocks_end d h))) ValueEnd.nothing))

-- with a space after them
pub tail_spaced : {p : Place} {s : Text} {is : List Item} → PlaceItems p s is → PlaceItems p (tail is ++ (32 ∷ [])) is
tail_spaced {p} {s} {is} d =
    subst (λ (js : List Item). PlaceItems p (tail is ++ (32 ∷ [])) js) (append-nil is)
    (tail_again d (PlaceItems.space (SpaceItems.space (space_here [])) (ends (ends_spaced (last_place d)))) (space_ends []))

-- the text of a place comes before a rest
written_text : {p q : Place} {is : List Item} → AreItemsIn p is q → (z r : Text) → InPlace q z r → ValueEnd true z → InPlace p (tail is ++ z) r
written_text no_item z r d e = d
written_text (one_more {p = p} {is = is} (ItemIn.line_comment s) k) z r d e =
    rw (comment_joined (comment_part s) (tail is) z)
    (text_space p r (one_space _)
    (text_space p r (NodeSpace.escline (escline (more (Ws.space (space_here _)) none) (EscEnd.comment (comment_again s (tail is ++ z))))) (written_text k z r d e)))
written_text (one_more {p = p} {is = is} (ItemIn.block_comment {t = t} f) k) z r d e =
    rw (append_assoc t (tail is) z) (text_space p r (one_space _) (text_space p r (NodeSpace.ws (Ws.comment (f (tail is ++ z)))) (written_text k z r d e)))
written_text (one_more {p = p} {is = is} (ItemIn.an_entry {t = t} h f) k) z r d e =
    rw (append_assoc t (tail is) z) (text_space p r (one_space _) (text_entry p r h (f (tail is ++ z) (tail_end is z e)) (written_text k z r d e)))
written_text (one_more {p = p} {is = is} (ItemIn.a_block {t = t} h f) k) z r d e =
    rw (append_assoc t (tail is) z) (text_space p r (one_space _) (text_block p r h (f (tail is ++ z)) (written_text k z r d e)))

-- what is written is in the place, before what it comes before; with a space after it before each rest
tail_text : {p : Place} {s : Text} {is : List Item} (d : PlaceItems p s is) (z r : Text) → InPlace (last_place d) z r → ValueEnd true z → InPlace p (tail is ++ z) r
tail_text {p} {is = is} d z r k e = place_spaced false p (tail is ++ z) r (written_text (all_in d) z r k e)

pub tail_space : {p : Place} {s : Text} {is : List Item} → PlaceItems p s is → (r : Text) → InPlace p (tail is ++ (32 ∷ r)) r
tail_space d r = tail_text d (32 ∷ r) r (spaces_text (last_place d) (plus (one_space r) none)) (space_ends r)

-- with a value end after it where blocks may be dropped
pub tail_rest : {p : Place} {s : Text} {is : List Item} → takes_blocks p ≡ true → PlaceItems p s is → {r : Text} → ValueEnd true r → InPlace p (tail is ++ r) r
tail_rest h d {r} e = tail_text d r r (no_text (last_place d) (blocks_end d h) r) e
