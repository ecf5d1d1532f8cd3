-- A text has a list of items exactly where it may be in its place.
use Rattle.kdl_layout.proofs.Common.{Bool, ◌≡◌, ◌↔◌, ◌⊎◌, inl, inr, true, false, List, [], ◌∷◌, ◌++◌, refl, sym, subst, ◌∙◌, Text, Star, Plus, plus, NodeSpace, Break, LineSpace, Slashdash, slashdash, join, space_ends, IsEntry, between, DroppedEntry, EntryLeading, leading, spaces_end, Terminator, IsNode, Gap, no_gap, IsBlock, DroppedBlock, AfterChildren, after, BeforeChildren, before, InPlace, Item, piece, ItemEnd, GapItems, Place, before_entry, before_block, after_block, may_end, takes_entries, takes_blocks, spaced, PlaceItems}
use Rattle.kdl_text.specs.Chars.Star.{none as no_star, more}
use Rattle.kdl_entry.specs.Data.{Entry}
use Rattle.kdl_entry.specs.Places.{dropped as a_dropped_entry}
use Rattle.kdl_grammar.specs.Data.{Node, Nodes}
use Rattle.kdl_grammar.specs.Places.{dropped as a_dropped_block}
use Rattle.kdl_layout.proofs.Dropping.DroppedNodes.{passes_last, node_ended}
use Rattle.kdl_layout.proofs.Dropping.Paths.{at_brace, halts}
use Rattle.kdl_layout.proofs.Listing.SpaceItems.{spaced_again, entries_spaced, blocks_spaced, space_of, line_space_of, space_items, line_space_items}
use Rattle.kdl_layout.proofs.Rewriting.BeforeNewlines.{cut_node}

-- the text has a list of items as a gap
abbrev pub HasGap : Text → Type 0
HasGap s = (is : List Item) × GapItems s is

-- the text has a list of items in the place
abbrev pub Has : Place → Text → Type 0
Has p s = (is : List Item) × PlaceItems p s is

-- line-spaces in a gap
line_first : {s t : Text} → LineSpace s t → HasGap t → HasGap s
line_first l g = let d = line_space_items l in (d.0 ++ g.0, GapItems.space d.1 g.1)

pub spaces_only : {s : Text} → Star NodeSpace s [] → HasGap s
spaces_only no_star = ([], GapItems.none)
spaces_only (more n ss) = line_first (LineSpace.space n) (spaces_only ss)

-- a dropped node with its terminator
node_first : {s t u v e : Text} {x : Node} → Slashdash s t → IsNode true t u x → ItemEnd u v e → HasGap v → HasGap s
node_first {s} {e = e} m x i g = (piece (between s e) ∷ g.0, GapItems.dropped_node m x i g.1)

-- the last one without a terminator: it ends before the node-spaces at its end
node_last : {s t : Text} {x : Node} → Slashdash s t → IsNode true t [] x → HasGap s
node_last (slashdash {s = t} ls) x =
    let q = passes_last ls x no_star in
    let g = spaces_only q.2 in
    let all : List Item = piece (between (47 ∷ 45 ∷ t) q.0) ∷ g.0 in
    (all, (node_ended q.3 all).1 (g.0, refl, g.1))

pub gap_has : {s : Text} → Gap true s [] → HasGap s
gap_has no_gap = ([], GapItems.none)
gap_has (Gap.line_space l g) = line_first l (gap_has g)
gap_has (Gap.dropped_node m x Terminator.semicolon g) = node_first m x ItemEnd.semicolon (gap_has g)
gap_has (Gap.dropped_node m x (Terminator.newline n) g) = node_first m x (ItemEnd.line (Break.newline n)) (gap_has g)
gap_has (Gap.dropped_node m x (Terminator.comment l) g) = node_first m x (ItemEnd.line (Break.comment l)) (gap_has g)
gap_has (Gap.dropped_node m x Terminator.at_end g) = node_last m x
gap_has (Gap.dropped_node m x Terminator.at_close g) = let e = halts at_brace g in cc

-- a node with more node-spaces at its end
node_spaces : {s t r : Text} {x : Node} → IsNode true s t x → Star NodeSpace t r → IsNode true s r x
node_spaces x no_star = x
node_spaces {r = r} {x = y} x (more n ss) =
    let c = cut_node x in
    let e = spaces_end c.spaces (space_ends n) in
    subst (λ (z : Text). IsNode true z r y) (sym c.at.here) (c.there c.rest r e (join c.spaces (more n ss)))

pub terminator_of : {u v e : Text} → ItemEnd u v e → Terminator u v
terminator_of ItemEnd.semicolon = Terminator.semicolon
terminator_of (ItemEnd.line (Break.newline n)) = Terminator.newline n
terminator_of (ItemEnd.line (Break.comment l)) = Terminator.comment l

pub gap_of : {s : Text} {is : List Item} → GapItems s is → Gap true s []
gap_of GapItems.none = no_gap
gap_of (GapItems.space d g) = Gap.line_space (line_space_of d) (gap_of g)
gap_of (GapItems.dropped_node m x i g) = Gap.dropped_node m x (terminator_of i) (gap_of g)
gap_of (GapItems.last_node m x tight ss g) = Gap.dropped_node m (node_spaces x ss) Terminator.at_end no_gap

pub gap_items : (s : Text) → Gap true s [] ↔ ((is : List Item) × GapItems s is)
gap_items s = (λ g. gap_has g, λ h. gap_of h.1)

-- node-spaces, a dropped entry and a dropped block in a place
space_first : {p : Place} {s t : Text} → NodeSpace s t → Has (spaced true p) t → Has p s
space_first n g = let d = space_items n in (d.0 ++ g.0, PlaceItems.space d.1 g.1)

spaces_first : (p : Place) → spaced true p ≡ p → {s t : Text} → Star NodeSpace s t → Has p t → Has p s
spaces_first p e no_star g = g
spaces_first p e {s} (more {t = t} n ss) g = space_first n (subst (λ (q : Place). Has q t) (sym e) (spaces_first p e ss g))

entry_first : (p : Place) → takes_entries p ≡ true → {s t u r : Text} {e : Entry} → Star NodeSpace s t → Slashdash t u → IsEntry true u r e → Has (spaced false p) r → Has p s
entry_first p h {s} {r = r} no_star m i g = (piece (between s r) ∷ g.0, PlaceItems.dropped_entry h m i g.1)
entry_first p h {r = r} (more n ss) m i g = space_first n (entry_first (spaced true p) (entries_spaced true p ∙ h) ss m i (subst (λ (q : Place). Has q r) (sym (spaced_again false true p)) g))

block_first : (p : Place) → takes_blocks p ≡ true → {s t u r : Text} {xs : Nodes} → Star NodeSpace s t → Slashdash t u → IsBlock true u r xs → Has after_block r → Has p s
block_first p h {s} {r = r} no_star m b g = (piece (between s r) ∷ g.0, PlaceItems.dropped_block h m b g.1)
block_first p h (more n ss) m b g = space_first n (block_first (spaced true p) (blocks_spaced true p ∙ h) ss m b g)

-- each text of a place has items
after_has : (p : Place) → takes_blocks p ≡ true → spaced true p ≡ p → may_end p ≡ true → {s t : Text} → Star DroppedBlock s t → Star NodeSpace t [] → Has p s
after_has p h e f no_star us = spaces_first p e us ([], PlaceItems.ends f)
after_has p h e f (more (a_dropped_block ss m b) ds) us = block_first p h ss m b (after_has after_block refl refl refl ds us)

before_has : {s t : Text} → Star DroppedEntry s t → AfterChildren t [] → Has before_block s
before_has no_star (after ds us) = after_has before_block refl refl refl ds us
before_has (more (a_dropped_entry ss m i) ds) a = entry_first before_block refl ss m i (before_has ds a)

leading_has : {s t : Text} → Star DroppedEntry s t → Plus NodeSpace t [] → Has (before_entry false) s
leading_has no_star (plus n us) = space_first n (spaces_first (before_entry true) refl us ([], PlaceItems.ends refl))
leading_has (more (a_dropped_entry ss m i) ds) us = entry_first (before_entry false) refl ss m i (leading_has ds us)

-- what begins with a node-space, a dropped entry or a dropped block may be in a place where what comes after that may
pub lead_space : {s t r : Text} → NodeSpace s t → EntryLeading t r → EntryLeading s r
lead_space n (leading no_star (plus m ms)) = leading no_star (plus n (more m ms))
lead_space n (leading (more (a_dropped_entry ss m i) ds) ms) = leading (more (a_dropped_entry (more n ss) m i) ds) ms

pub lead_entry : {s t u r : Text} {e : Entry} → Slashdash s t → IsEntry true t u e → EntryLeading u r → EntryLeading s r
lead_entry m i (leading ds n) = leading (more (a_dropped_entry no_star m i) ds) n

pub space_after : {s t r : Text} → NodeSpace s t → AfterChildren t r → AfterChildren s r
space_after n (after no_star ss) = after no_star (more n ss)
space_after n (after (more (a_dropped_block us m b) ds) ss) = after (more (a_dropped_block (more n us) m b) ds) ss

pub braces_after : {s t u r : Text} {xs : Nodes} → Slashdash s t → IsBlock true t u xs → AfterChildren u r → AfterChildren s r
braces_after m b (after ds ss) = after (more (a_dropped_block no_star m b) ds) ss

pub space_before : {s t r : Text} → NodeSpace s t → BeforeChildren t r → BeforeChildren s r
space_before n (before no_star a) = before no_star (space_after n a)
space_before n (before (more (a_dropped_entry ss m i) ds) a) = before (more (a_dropped_entry (more n ss) m i) ds) a

pub entry_before : {s t u r : Text} {e : Entry} → Slashdash s t → IsEntry true t u e → BeforeChildren u r → BeforeChildren s r
entry_before m i (before ds a) = before (more (a_dropped_entry no_star m i) ds) a

pub data DashedEntry : Text → Text → Type 0 where
  dashed : {s t r : Text} {e : Entry} → Slashdash s t → IsEntry true t r e → DashedEntry s r

pub data DashedBlock : Text → Text → Type 0 where
  dashed : {s t r : Text} {xs : Nodes} → Slashdash s t → IsBlock true t r xs → DashedBlock s r

pub text_space : (p : Place) (r : Text) {s t : Text} → NodeSpace s t → InPlace p t r → InPlace p s r
text_space (before_entry b) r n d = lead_space n d
text_space before_block r n d = space_before n d
text_space after_block r n d = space_after n d

pub text_entry : (p : Place) (r : Text) → takes_entries p ≡ true → {s t : Text} → DashedEntry s t → InPlace p t r → InPlace p s r
text_entry (before_entry b) r h (DashedEntry.dashed m i) d = lead_entry m i d
text_entry before_block r h (DashedEntry.dashed m i) d = entry_before m i d
text_entry after_block r h (DashedEntry.dashed m i) d = absurd cc

pub text_block : (p : Place) (r : Text) → takes_blocks p ≡ true → {s t : Text} → DashedBlock s t → AfterChildren t r → InPlace p s r
text_block (before_entry b) r h (DashedBlock.dashed m i) d = absurd cc
text_block before_block r h (DashedBlock.dashed m i) d = before no_star (braces_after m i d)
text_block after_block r h (DashedBlock.dashed m i) d = braces_after m i d

pub no_text : (p : Place) → takes_blocks p ≡ true → (r : Text) → InPlace p r r
no_text (before_entry b) h r = absurd cc
no_text before_block h r = before no_star (after no_star no_star)
no_text after_block h r = after no_star no_star

pub spaces_text : (p : Place) {s r : Text} → Plus NodeSpace s r → InPlace p s r
spaces_text (before_entry b) n = leading no_star n
spaces_text before_block (plus n ns) = before no_star (after no_star (more n ns))
spaces_text after_block (plus n ns) = after no_star (more n ns)

pub place_spaced : (b : Bool) (p : Place) (s r : Text) → InPlace (spaced b p) s r → InPlace p s r
place_spaced b (before_entry c) s r d = d
place_spaced b before_block s r d = d
place_spaced b after_block s r d = d

-- what has items in a place is node-spaces alone, where it may end, or may be in the place
abbrev TextIn : Place → Text → Type 0
TextIn p s = ((may_end p ≡ true) × Star NodeSpace s []) ⊎ InPlace p s []

after_space : (p : Place) {s t : Text} → NodeSpace s t → TextIn (spaced true p) t → InPlace p s []
after_space p n (inl (h, ns)) = spaces_text p (plus n ns)
after_space p n (inr d) = text_space p [] n (place_spaced true p _ [] d)

alone : (p : Place) → may_end (spaced false p) ≡ true → {s : Text} → Star NodeSpace s [] → InPlace p s []
alone (before_entry b) h ns = absurd cc
alone p h (more n ns) = spaces_text p (plus n ns)
alone before_block h no_star = no_text before_block refl []
alone after_block h no_star = no_text after_block refl []

after_entry : (p : Place) {s : Text} → TextIn (spaced false p) s → InPlace p s []
after_entry p (inl (h, ns)) = alone p h ns
after_entry p (inr d) = place_spaced false p _ [] d

text_of : {p : Place} {s : Text} {is : List Item} → PlaceItems p s is → TextIn p s
text_of (PlaceItems.ends h) = inl (h, no_star)
text_of {p = p} (PlaceItems.space d g) = inr (after_space p (space_of d) (text_of g))
text_of {p = p} (PlaceItems.dropped_entry h m i g) = inr (text_entry p [] h (DashedEntry.dashed m i) (after_entry p (text_of g)))
text_of {p = p} (PlaceItems.dropped_block h m b g) = inr (text_block p [] h (DashedBlock.dashed m b) (after_entry after_block (text_of g)))

pub before_block_items : (s : Text) → BeforeChildren s [] ↔ ((is : List Item) × PlaceItems before_block s is)
before_block_items s = (λ d. has d, λ h. after_entry before_block (text_of h.1))
  where
    has : BeforeChildren s [] → Has before_block s
    has (before ds a) = before_has ds a

pub after_block_items : (s : Text) → AfterChildren s [] ↔ ((is : List Item) × PlaceItems after_block s is)
after_block_items s = (λ d. has d, λ h. after_entry after_block (text_of h.1))
  where
    has : AfterChildren s [] → Has after_block s
    has (after ds us) = after_has after_block refl refl refl ds us

pub before_entry_items : (s : Text) → EntryLeading s [] ↔ ((is : List Item) × PlaceItems (before_entry false) s is)
before_entry_items s = (λ d. has d, λ h. after_entry (before_entry false) (text_of h.1))
  where
    has : EntryLeading s [] → Has (before_entry false) s
    has (leading ds us) = leading_has ds us
