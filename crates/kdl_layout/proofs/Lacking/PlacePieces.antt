-- The pieces of a place: their items, and what the text may come before.
use Rattle.kdl_layout.proofs.Common.{◌≡◌, ℕ, ◌<◌, Bool, true, false, List, [], ◌∷◌, ◌++◌, length, Option, Some, None, Continue, Bor, refl, sym, subst, ◌∙◌, arith, append_assoc, append-nil, chars, Text, Star, more, Plus, plus, bytes, NodeSpace, slashdash, ValueEnd, value_end_no_identifier, StringPiece, untyped, between, punctuation_end, Terminator, IsNode, named, AfterName, Blocks, no_gap, dropped_node, last_gap, braces, after, before, before_end, terminator_end, Item, piece, SpaceItems, Place, before_entry, before_block, after_block, may_end, takes_blocks, spaced, PlaceItems, ends, InPlace, Ended, gap_nodes, letter, Spaces, PlaceThrough, AnswersDroppedPart, takes, next_place, PartPasses, slashdash_in, place_view, Run, added, Adding, adding, Ending, InReturn, Open, ended_view}
use Rattle.std.proofs.Common.{Break}
use Rattle.kdl_text.specs.Bare.BareString.{bare as a_bare}
use Rattle.kdl_text.specs.Chars.{none}
use Rattle.kdl_entry.specs.Entries.{string as a_string'}
use Rattle.kdl_entry.proofs.Moving.EntryMoves.{leading_end}
use Rattle.kdl_grammar.specs.Data as nodes'
use Rattle.kdl_grammar.specs.Data.{Node, node, no_children, children}
use Rattle.kdl_grammar.proofs.Laying.LaidIsDerived.{later_of, plain_of}
use Rattle.kdl_layout.specs.Lacks.{newlines, Lacks, BeforeEach, PlaceLacks}
use Rattle.kdl_layout.specs.Internal.Lacking.{PlacePieceEnds, PlaceRead}
use Rattle.kdl_layout.specs.Internal.Passed.{AfterPart}
use Rattle.kdl_layout.specs.Internal.Reading.{IsPlaceWith}
use Rattle.kdl_layout.specs.declared.spaces.Ending.TheVariants.{Before as EndsBefore}
use Rattle.kdl_layout.specs.declared.spaces.Place as held
use Rattle.kdl_layout.proofs.Dropping.DroppedParts.{DropsPart, drops_entry, drops_block, part_leaves, the_part, part_nowhere, part_refused}
use Rattle.kdl_layout.proofs.Dropping.TokenLoop.{before_shorter}
use Rattle.kdl_layout.proofs.Lacking.Fewest.{a_piece, letter_node, letter_end, some_nodes, letter_dropped}
use Rattle.kdl_layout.proofs.Lacking.SpaceEnds.{put_more}
use Rattle.kdl_layout.proofs.Rewriting.BeforeNewlines.{a_newline}
use Rattle.kdl_layout.proofs.Listing.SpaceItems.{added_none, then_added, leaves_start, leaves_then, leaves_all, leaves_none, leaves_add, ends_here, ends_spaced, blocks_spaced, run_places, place_end}
use Rattle.kdl_layout.proofs.Listing.PlaceTexts.{DashedEntry, DashedBlock, Has, before_block_items, after_block_items, no_text, place_spaced, spaces_text, text_block, text_entry, text_space}
use Rattle.kdl_layout.proofs.Rewriting.PlacesAgain.{moved_entry, moved_block}

-- what is in a place before a value end is one
text_end : (p : Place) {s z : Text} → InPlace p s z → ValueEnd true z → ValueEnd true s
text_end (before_entry b) d e = leading_end d
text_end before_block d e = before_end d e
text_end after_block d e = before_end (before none d) e

-- one piece after another
pub place_start : (p : Place) (s : Text) (old : Option (List Item)) → Adding (PlaceThrough p s p s) old old
place_start p s old = adding [] (added_none old) (record { items = leaves_start (PlaceItems p s); adds = λ js d w z e x. x; blocks = λ h. h })

-- node-spaces
text_spaces : (p : Place) (z : Text) {s t : Text} → Star NodeSpace s t → InPlace p t z → InPlace p s z
text_spaces p z none d = d
text_spaces p z (more n ns) d = text_space p z n (text_spaces p z ns d)

text_plus : (p : Place) (z : Text) {s t : Text} → Plus NodeSpace s t → InPlace p t z → InPlace p s z
text_plus p z (plus n ns) d = text_space p z n (text_spaces p z ns d)

pub spaces_onward : (p q : held.Place) (s : Text) (r : Bor (List ℕ)) (old new : Option (List Item)) → place_view q ≡ spaced true (place_view p) → Spaces NodeSpace SpaceItems s (Some (EndsBefore r)) old new → PlacePieceEnds p s (Some (Continue (q, r))) old new
spaces_onward p q s r old new e (adding is f run, (k, l)) = (
  adding is f (subst (λ (o : Place). PlaceThrough (place_view p) s o (chars r.now) is) (sym e) (record {
    items = run_places (place_view p) run;
    adds = λ js d w z g x. text_plus (place_view p) z (k w) (place_spaced true (place_view p) (chars r.now ++ w) z x);
    blocks = λ h. blocks_spaced true (place_view p) ∙ h;
  })),
  l,
)

all_spaces : (p : held.Place) {s : Text} {old new : Option (List Item)} → Adding (Run SpaceItems s []) old new → Adding (PlaceItems (place_view p) s) old new
all_spaces p {s} (adding is f run) = let q = place_view p in adding is f (leaves_all (PlaceItems q s) (PlaceItems (spaced true q) []) is (run_places q run) (ends (ends_spaced q)))

pub spaces_in_escline : (p : held.Place) (s : Text) (y : Ending) (old new : Option (List Item)) → ((r : Bor (List ℕ)) → y ≡ EndsBefore r → ⊥) → Spaces NodeSpace SpaceItems s (Some y) old new → PlacePieceEnds p s (Some (Break tt)) old new
spaces_in_escline p s (EndsBefore r) old new g k = absurd (g r refl)
spaces_in_escline p s InReturn old new g (x, k) = (all_spaces p x, λ z. spaces_text (place_view p) (plus (k.before_lf z) none))
spaces_in_escline p s Open old new g (x, k) = (all_spaces p x, λ z. spaces_text (place_view p) (plus (k.ended z) none))

-- a dropped entry or a dropped block, before more of the rest
part_more : (p : Place) {b u : Text} {c : Bool} → DropsPart p b u c → (w z : Text) → ValueEnd true z → InPlace (next_place p c) (u ++ w) z → InPlace p ((47 ∷ 45 ∷ b) ++ w) z
part_more p {u = u} (drops_entry h m i) w z e f =
    let (at, g) = moved_entry m i in
    text_entry p z h (subst (λ (y : Text). DashedEntry y (u ++ w)) (put_more at w) (g (u ++ w) (text_end (spaced false p) f e))) (place_spaced false p (u ++ w) z f)
part_more p {u = u} (drops_block h m k) w z e f = let (at, g) = moved_block m k in text_block p z h (subst (λ (y : Text). DashedBlock y (u ++ w)) (put_more at w) (g (u ++ w))) f

next_blocks : (p : Place) (c : Bool) → takes_blocks p ≡ true → takes_blocks (next_place p c) ≡ true
next_blocks p true h = refl
next_blocks p false h = blocks_spaced false p ∙ h

part_through : (p : Place) {b u : Text} {c : Bool} → PartPasses (slashdash_in p) b b c u → takes p c ≡ true → PlaceThrough p (47 ∷ 45 ∷ b) (next_place p c) u (piece (between (47 ∷ 45 ∷ b) u) ∷ [])
part_through p {c = c} x h = record {
  items = part_leaves x h;
  adds = λ js d w z e f. part_more p (the_part x ((part_leaves x h _).1 (js, refl, d))) w z e f;
  blocks = next_blocks p c;
}

pub part_goes : (p q : Place) (s b part rest : Text) (e : ℕ × Ended) (o : Option Place) {old new : Option (List Item)} → s ≡ 47 ∷ 45 ∷ b → AnswersDroppedPart p b (Some e) → ((a r : Text) → b ≡ a ++ r → bytes a ≡ e.0 → (part ≡ between (47 ∷ 45 ∷ b) r) × (rest ≡ r))
    → AfterPart p (ended_view e.1) o → o ≡ Some q → new ≡ added old (piece part ∷ []) → Adding (PlaceThrough p s q rest) old new × (length rest < length s)
part_goes p q s b part rest e o f (u, x, c) k g h n =
    let (m, i) = k c.0 u c.1 c.2 in
    let (t, j) = subst (λ (o : Option Place). AfterPart p (ended_view e.1) o) h g in
    rw (f, i, j) (adding (piece part ∷ []) n (rw m (part_through p x t)), before_shorter (47 ∷ 45 ∷ b) b u e.0 refl c)

pub part_none : (p : Place) (s b : Text) → s ≡ 47 ∷ 45 ∷ b → AnswersDroppedPart p b None → (is : List Item) → PlaceItems p s is → ⊥
part_none p s b f k is d = part_refused k is (subst (λ (y : Text). PlaceItems p y is) f d)

pub part_not_there : (p : Place) (s b : Text) (e : ℕ × Ended) (o : Option Place) → s ≡ 47 ∷ 45 ∷ b → AnswersDroppedPart p b (Some e) → AfterPart p (ended_view e.1) o → o ≡ None → (is : List Item) → PlaceItems p s is → ⊥
part_not_there p s b e o f (u, x, c) h i is d = part_nowhere x (subst (λ (o : Option Place). AfterPart p (ended_view e.1) o) i h) is (subst (λ (y : Text). PlaceItems p y is) f d)

-- where blocks are taken, what has items may be there
has_text : (p : Place) → takes_blocks p ≡ true → {s : Text} → Has p s → InPlace p s []
has_text (before_entry b) h x = cc
has_text before_block h {s} x = (before_block_items s).1 x
has_text after_block h {s} x = (after_block_items s).1 x

text_has : (p : Place) → takes_blocks p ≡ true → {s : Text} → InPlace p s [] → Has p s
text_has (before_entry b) h x = cc
text_has before_block h {s} x = (before_block_items s).0 x
text_has after_block h {s} x = (after_block_items s).0 x

-- a node of one letter, without a block or with an empty one, and the text in its place
abbrev front : Place → Text → Text
front (before_entry b) s = s
front before_block s = 97 ∷ s
front after_block s = 97 ∷ 123 ∷ 125 ∷ s

pub letter_piece : {s : Text} → ValueEnd true s → StringPiece (97 ∷ s) s (97 ∷ [])
letter_piece e = StringPiece.bare (a_bare refl a_piece (value_end_no_identifier e))

place_node : (p : Place) → takes_blocks p ≡ true → {s r : Text} → InPlace p s r → ValueEnd true s → (x : Node) × IsNode true (front p s) r x
place_node (before_entry b) h d e = cc
place_node before_block h (before ds x) e = (node None (97 ∷ []) [] no_children, named untyped (a_string' (letter_piece e) e) (plain_of (before ds x)))
place_node after_block h (after ds ss) e =
    let k = punctuation_end 123 refl in (
      node None (97 ∷ []) [] (children nodes'.none),
      named untyped (a_string' (letter_piece k) k) (AfterName.blocks (Blocks.block none (braces (last_gap no_gap)) (later_of (after ds ss)))),
    )

-- a text that needs an LF to end may not be in the place before each terminator
not_each : (p : Place) → takes_blocks p ≡ true → (t : Text) → ((s z : Text) → InPlace p s z → ValueEnd true z → ValueEnd true s) → InPlace p (t ++ (10 ∷ letter)) letter → BeforeEach p t → ⊥
not_each p h t begins d f =
    let r = 10 ∷ letter in
    let m = Terminator.newline (a_newline letter) in
    let x = place_node p h (f r letter m) (begins (t ++ r) letter d letter_end) in
    let y = place_node p h d (begins (t ++ r) letter d letter_end) in
    some_nodes (letter_dropped (slashdash none) y.1 (gap_nodes (dropped_node (slashdash none) x.1 m no_gap) letter_node))

-- the place so far
pub place_turn : (p q w : Place) (s t v : Text) (r : Text) {old now new : Option (List Item)} → Adding (PlaceThrough p s q t) old now → Adding (PlaceThrough q t w r) now new → v ≡ r → Adding (PlaceThrough p s w v) old new
place_turn p q w s t v r {old = old} (adding is e k) (adding js f m) x =
    adding (is ++ js) (then_added old is js e f) (rw x (record {
      items = leaves_then (PlaceItems p s) (PlaceItems q t) (PlaceItems w r) is js k.items m.items;
      adds = λ ks d u z h i. k.adds _ ((m.items _).1 (ks, refl, d)) u z h (m.adds ks d u z h i);
      blocks = λ h. m.blocks (k.blocks h);
    }))

done : (p q : Place) (s t : Text) (is : List Item) → PlaceThrough p s q t is → t ≡ [] → takes_blocks p ≡ true → InPlace p s [] × BeforeEach p s
done p q s t is k e h =
    let d : PlaceItems q t [] = rw e (ends (ends_here q (k.blocks h))) in (
      has_text p h (is, leaves_all (PlaceItems p s) (PlaceItems q t) is k.items d),
      λ r v m. k.adds [] d r r (terminator_end m) (subst (λ (y : Text). InPlace q (y ++ r) r) (sym e) (no_text q (k.blocks h) r)),
    )

lacking : (p q : Place) (s t : Text) (is js : List Item) → PlaceThrough p s q t is → PlaceItems q t js → ((z : Text) → InPlace q (t ++ (10 ∷ z)) z) → takes_blocks p ≡ true → InPlace p s [] × Lacks (BeforeEach p) s 1
lacking p q s t is js k d f h = (
  has_text p h (is ++ js, (k.items (is ++ js)).1 (js, refl, d)),
  (
    λ r v m. subst (λ (y : Text). InPlace p y r) (sym (append_assoc s (10 ∷ []) r)) (k.adds js d (10 ∷ r) r (terminator_end m) (f r)),
    λ j l b.
        let e : j ≡ 0 = omega (arith, l) in
        not_each p h s (λ u z d g. text_end p d g) (k.adds js d (10 ∷ letter) letter letter_end (f letter))
        (subst (λ (y : Text). BeforeEach p y) (append-nil s) (subst (λ (n : ℕ). BeforeEach p (s ++ newlines n)) e b)),
  ),
)

pub place_done : (p q : Place) (s t : Text) {old now : Option (List Item)} → Adding (PlaceThrough p s q t) old now → t ≡ [] → may_end q ≡ true → PlaceRead p s (Some false) old now
place_done p q s t (adding is f k) e h = (adding is f (leaves_all (PlaceItems p s) (PlaceItems q t) is k.items (rw e (ends h))), go p k)
  where
    go : (p : Place) → PlaceThrough p s q t is → PlaceLacks p s (Some false)
    go (before_entry b) k = tt
    go before_block k = done before_block q s t is k e refl
    go after_block k = done after_block q s t is k e refl

pub place_lacking : (p q : Place) (s t : Text) {old now new : Option (List Item)} → Adding (PlaceThrough p s q t) old now → Adding (PlaceItems q t) now new × ((z : Text) → InPlace q (t ++ (10 ∷ z)) z) → PlaceRead p s (Some true) old new
place_lacking p q s t (adding is e k) (adding js f d, i) = (leaves_add (PlaceItems p s) (PlaceItems q t) (adding is e k.items) (adding js f d), go p k)
  where
    go : (p : Place) → PlaceThrough p s q t is → PlaceLacks p s (Some true)
    go (before_entry b) k = tt
    go before_block k = lacking before_block q s t is js k d i refl
    go after_block k = lacking after_block q s t is js k d i refl

pub place_refused : (p q : Place) (s t : Text) {old now : Option (List Item)} → Adding (PlaceThrough p s q t) old now → ((all : List Item) → PlaceItems q t all → ⊥) → (all : List Item) → PlaceItems p s all → ⊥
place_refused p q s t (adding is e k) f = leaves_none (PlaceItems p s) (PlaceItems q t) is k.items f

pub place_undone : (q : Place) (t : Text) → t ≡ [] → may_end q ≡ false → (all : List Item) → PlaceItems q t all → ⊥
place_undone q t e h all d = let x = ((place_end q all).0 (rw e at d)).0 in cc

-- the items that were asked for, or what the place lacks
pub place_listed : (p : Place) (s : Text) (b : Bool) {old new : Option (List Item)} → old ≡ Some [] → PlaceRead p s (Some b) old new → IsPlaceWith p s new
place_listed p s b e (adding is f d, l) = rw (f, e) d

pub place_lacked : (p : Place) (s : Text) (o : Option Bool) (old new : Option (List Item)) → PlaceRead p s o old new → PlaceLacks p s o
place_lacked p s (Some b) old new x = x.1
place_lacked (before_entry b) s None old new f = tt
place_lacked before_block s None old new f = λ d. let h = text_has before_block refl d in f h.0 h.1
place_lacked after_block s None old new f = λ d. let h = text_has after_block refl d in f h.0 h.1
