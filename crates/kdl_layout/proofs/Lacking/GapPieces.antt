-- What the first piece of a gap adds to the nodes after it.
use Rattle.kdl_layout.proofs.Common.{◌≡◌, ℕ, Bool, true, false, if◌then◌else◌, List, [], ◌∷◌, ◌++◌, length, Option, Some, None, Continue, Bor, refl, sym, ap, subst, ◌∙◌, arith, append_assoc, append-nil, eqb-true, chars, Text, begins, Star, more, bytes, NodeSpace, Break, LineSpace, Slashdash, slashdash, ValueEnd, snoc, break_shorter, Token, BeginsToken, move_spaces, move_slashdash, spaces_end, Terminator, IsNode, Gap, no_gap, line_space, dropped_node, AreNodes, AddsNothing, terminator_end, gap_nodes, between, Item, piece, line_end, LineSpaceItems, GapItems, ItemEnd, EndsTight, letter, LineEnds, left, EndsNode, Spaces, OnlySpaces, Through, GapRead, EndsAt, of_spaces, moved, returned, NodePasses, stops, goes, Leaves, added, Adding, adding, Ending, InReturn, Open, Control, at, NodeSlashdash}
use Rattle.kdl_text.specs.Chars.{none}
use Rattle.kdl_text.specs.Internal.Here.{first}
use Rattle.kdl_grammar.specs.Data as nodes'
use Rattle.kdl_grammar.specs.Data.{Node, Nodes}
use Rattle.kdl_grammar.specs.ReadsBack.{NodesEnd}
use Rattle.kdl_grammar.proofs.ReadingBack.Closing.{after_lf}
use Rattle.kdl_layout.specs.Lacks.{newlines}
use Rattle.kdl_layout.specs.Internal.Lacking.{EndsInReturn, semicolon, line, piece_of, GapPieceEnds}
use Rattle.kdl_layout.specs.Internal.Passing.{ends}
use Rattle.kdl_layout.specs.Internal.Passing as passing
use Rattle.kdl_layout.specs.Internal.Reading.{IsGapWith}
use Rattle.kdl_layout.specs.declared.spaces.Ending.TheVariants.{Before as EndsBefore}
use Rattle.kdl_layout.proofs.Dropping.DroppedNodes.{passes_det, passes_last, passes_node, tight_same, DroppedItems, with_end, at_last, dash_items, node_returned, node_ended}
use Rattle.kdl_layout.proofs.Dropping.DroppedParts.{a_space}
use Rattle.kdl_layout.proofs.Dropping.TokenLoop.{before_shorter}
use Rattle.kdl_layout.proofs.Lacking.SpaceEnds.{put_more, moved_more, break_at, break_left, break_open, break_ends_as, letter_line}
use Rattle.kdl_layout.proofs.Lacking.Fewest.{letter_end, no_nodes, swallowed, nodes_off, nodes_off_node, letter_dropped, fewest_at, fewest_none}
use Rattle.kdl_layout.proofs.Listing.SpaceItems.{added_none, then_added, leaves_start, leaves_then, leaves_all, leaves_none, leaves_add, run_leaves, run_gap}
use Rattle.kdl_layout.proofs.Listing.PlaceTexts.{HasGap, spaces_only, terminator_of}
use Rattle.kdl_layout.proofs.Rewriting.BeforeNewlines.{a_newline, cut_node, some}

pub lines_gap : {s r : Text} → Star LineSpace s r → Gap true s r
lines_gap none = no_gap
lines_gap (more n ns) = line_space n (lines_gap ns)

-- one piece after another
pub through_start : (s : Text) (old : Option (List Item)) → Adding (Through s s) old old
through_start s old = adding [] (added_none old) (record { items = leaves_start (GapItems s); adds = λ js g w z xs e ds. ds; off = λ js g w xs ds. ds })

-- line-spaces
one_line : {s r : Text} → LineSpace s r → Gap true s r
one_line n = line_space n no_gap

begins_lf : (r : Text) → begins 10 r ≡ true → (t : Text) × (r ≡ 10 ∷ t)
begins_lf [] h = cc
begins_lf (c ∷ t) h = (t, ap (λ (d : ℕ). d ∷ t) (eqb-true c 10 h))

-- what ends in a CR ends before nodes, or before the LF before them
pub return_ends : {X : Text → Text → Type 0} {s : Text} → EndsInReturn X s → (w z : Text) (xs : Nodes) → NodesEnd z → AreNodes true w z xs → (v : Text) × X (s ++ w) v × AreNodes true v z xs
return_ends {X} {s} k w z xs e ds = go (begins 10 w) refl
  where
    go : (b : Bool) → begins 10 w ≡ b → (v : Text) × X (s ++ w) v × AreNodes true v z xs
    go true h = let (t, f) = begins_lf w h in (t, subst (λ (y : Text). X (s ++ y) t) (sym f) (k.before_lf t), after_lf _ e (subst (λ (y : Text). AreNodes true y z xs) f ds))
    go false h = (w, k.alone w h, ds)

return_adds : {s : Text} → EndsInReturn (Gap true) s → AddsNothing s
return_adds k r z xs e ds = let (v, g, es) = return_ends k r z xs e ds in gap_nodes g es

with_none : (s : Text) → AddsNothing s → AddsNothing (s ++ newlines 0)
with_none s f r z xs e ds = subst (λ (y : Text). AreNodes true (y ++ r) z xs) (sym (append-nil s)) (f r z xs e ds)

-- a gap that ends in a CR, and one that an LF ends and where a letter adds no node
in_return : {s : Text} {old new : Option (List Item)} → Adding (GapItems s) old new → EndsInReturn (Gap true) s → GapRead s (Some 0) old new
in_return {s} items k = (items, (omega arith, with_none s (return_adds k), fewest_none s))

is_open : {s : Text} {old new : Option (List Item)} → Adding (GapItems s) old new → ((w : Text) → Gap true (s ++ (10 ∷ w)) w) → ((xs : Nodes) → AreNodes true (s ++ letter) [] xs → xs ≡ nodes'.none) → GapRead s (Some 1) old new
is_open {s} items f g = (
  items,
  (
    omega arith,
    λ r z xs e ds. subst (λ (y : Text). AreNodes true y z xs) (sym (append_assoc s (10 ∷ []) r)) (gap_nodes (f r) ds),
    fewest_at s 1 0 refl (λ xs ds. g xs (subst (λ (y : Text). AreNodes true (y ++ letter) [] xs) (append-nil s) ds)),
  ),
)

pub spaces_end_gap : (s : Text) (y : Ending) (old new : Option (List Item)) → Spaces LineSpace LineSpaceItems s (Some y) old new → GapPieceEnds s (Some (piece_of y)) old new
spaces_end_gap s (EndsBefore r) old new (adding is e run, (k, l)) =
    (adding is e (record { items = run_leaves run; adds = λ js g w z xs f ds. gap_nodes (lines_gap (some (k w))) ds; off = λ js g w xs ds. nodes_off (some (k w)) ds }), l)
spaces_end_gap s InReturn old new (adding is e run, k) = in_return (adding is e (run_gap run)) (record { alone = λ w h. one_line (k.alone w h); before_lf = λ w. one_line (k.before_lf w) })
spaces_end_gap s Open old new (adding is e run, k) = is_open (adding is e (run_gap run)) (λ w. one_line (k.ended w)) (λ xs ds. swallowed k.swallows ds)

-- a dropped node before more of the rest
node_more : {s t u : Text} {x : Node} → Slashdash s t → (n : IsNode true t u x) → (w q : Text) → Star NodeSpace ((cut_node n).rest ++ w) q → ValueEnd true q → Slashdash (s ++ w) (t ++ w) × IsNode true (t ++ w) q x
node_more {t = t} {x = x} m n w q ss e =
    let c = cut_node n in let o = move_slashdash m in
    let h : c.at.put (c.rest ++ w) ≡ t ++ w = put_more c.at w in (
      subst (λ (y : Text). Slashdash y (t ++ w)) (put_more o.at w) (o.there (t ++ w) (ap first (sym h) ∙ c.full (c.rest ++ w))),
      subst (λ (y : Text). IsNode true y q x) h (c.there (c.rest ++ w) q (spaces_end ss e) ss),
    )

node_before : {s t u : Text} {x : Node} → Slashdash s t → IsNode true t u x → (u ≡ [] → ⊥) → (w : Text) → ValueEnd true (u ++ w) → Slashdash (s ++ w) (t ++ w) × IsNode true (t ++ w) (u ++ w) x
node_before {u = u} m n f w e = node_more m n w (u ++ w) (moved_more (move_spaces (cut_node n).spaces) f w) e

pub break_terminator : {s r : Text} → Break s r → Terminator s r
break_terminator (Break.newline n) = Terminator.newline n
break_terminator (Break.comment l) = Terminator.comment l

some_end : {u v e : Text} → ItemEnd u v e → u ≡ [] → ⊥
some_end ItemEnd.semicolon e = cc
some_end (ItemEnd.line b) e = omega (arith, break_shorter b, ap length e)

module _ {b u v e : Text} {k : Token} (p : NodePasses (at NodeSlashdash []) b b (returned k u v)) (i : ItemEnd u v e) where
  the_node : HasGap v → (t : Text) × (x : Node) × Slashdash (47 ∷ 45 ∷ b) t × IsNode true t u x
  the_node h = go (dash_items ((node_returned p i (piece (between (47 ∷ 45 ∷ b) e) ∷ h.0)).1 (h.0, refl, h.1)))
    where
      go : {is : List Item} → DroppedItems b is → (t : Text) × (x : Node) × Slashdash (47 ∷ 45 ∷ b) t × IsNode true t u x
      go (with_end {t' = t'} {u = u'} {x = x} ls n j g) =
          let d = passes_det (passes_node ls n j).1 p in
          let a : u' ≡ u = cc in
          (t', x, slashdash ls, subst (λ (z : Text). IsNode true t' z x) a n)
      go (at_last ls n tight ss g) = let d = passes_det (passes_last ls n ss).3 p in absurd cc

  -- where its terminator ends before another rest, it is a gap there, and nodes after it are those after the terminator
  node_gap : HasGap v → (w : Text) {r f : Text} → ItemEnd (u ++ w) r f → Gap true ((47 ∷ 45 ∷ b) ++ w) r × ((xs : Nodes) → AreNodes true ((47 ∷ 45 ∷ b) ++ w) [] xs → AreNodes true r [] xs)
  node_gap h w j =
      let (t, x, m, n) = the_node h in
      let o = node_before m n (some_end i) w (terminator_end (terminator_of j)) in
      (dropped_node o.0 o.1 (terminator_of j) no_gap, λ xs ds. nodes_off_node o.0 o.1 j ds)

node_left : {u v : Text} {y : Ending} → EndsNode v u y → left y ≡ v
node_left (semicolon e) = e
node_left {y = y} (line b n) = break_left y b n

by_line : {u v : Text} {y : Ending} → EndsNode v u y → ((r : Bor (List ℕ)) → y ≡ EndsBefore r → ⊥) → Break u v × LineEnds (line_end u) y
by_line (semicolon {r = r} e) f = absurd (f r refl)
by_line (line b n) f = (b, n)

ends_before : {u v : Text} {r : Bor (List ℕ)} → EndsNode v u (EndsBefore r) → (w : Text) → (f : Text) × ItemEnd (u ++ w) (chars r.now ++ w) f
ends_before {v = v} (semicolon e) w = rw e (v ++ w, ItemEnd.semicolon)
ends_before {r = r} (line b n) w = (_, ItemEnd.line (break_at b w (chars r.now ++ w) (n w)))

-- where the node ends with the text, node-spaces are after it
moved_spaces : {last s r : Text} {k : Token} → BeginsToken s k r → Star NodeSpace last s → Star NodeSpace (moved k last r) r
moved_spaces {last = last} {r = r} {k = k} t ss = go (of_spaces k) refl
  where
    go : (b : Bool) → of_spaces k ≡ b → Star NodeSpace (if b then last else r) r
    go true h = snoc ss (a_space t h).1
    go false h = none

ended_spaces : {c : Control} {last s w : Text} → NodePasses c last s (passing.ended w) → Star NodeSpace last s → Star NodeSpace w []
ended_spaces (stops (ends g f)) ss = ss
ended_spaces (goes t f g p) ss = ended_spaces p (moved_spaces t ss)

module _ {b u : Text} (p : NodePasses (at NodeSlashdash []) b b (passing.ended u)) where
  spaces_after : Star NodeSpace u []
  spaces_after = ended_spaces p none

  -- a node that ends with the text, up to the node-spaces at its end
  last_node : (t : Text) × (x : Node) × Slashdash (47 ∷ 45 ∷ b) t × IsNode true t u x × EndsTight t u
  last_node = let h = spaces_only spaces_after in go (dash_items ((node_ended p (piece (between (47 ∷ 45 ∷ b) u) ∷ h.0)).1 (h.0, refl, h.1)))
    where
      go : {is : List Item} → DroppedItems b is → (t : Text) × (x : Node) × Slashdash (47 ∷ 45 ∷ b) t × IsNode true t u x × EndsTight t u
      go (with_end ls n j g) = let d = passes_det (passes_node ls n j).1 p in absurd cc
      go (at_last {t' = t'} {u = u'} {x = x} ls n tight ss g) =
          let q = passes_last ls n ss in
          let d = passes_det q.3 p in
          let a : q.0 ≡ u = cc in
          let f : u' ≡ u = sym (tight_same tight q.1 q.2) ∙ a in
          (t', x, slashdash ls, subst (λ (z : Text). IsNode true t' z x) f n, subst (λ (z : Text). EndsTight t' z) f tight)

  -- before node-spaces and a value end
  last_more : (w q : Text) → Star NodeSpace (u ++ w) q → ValueEnd true q → (t : Text) × (x : Node) × Slashdash ((47 ∷ 45 ∷ b) ++ w) t × IsNode true t q x
  last_more w q ss e =
      let (t, x, m, n, tight) = last_node in let c = cut_node n in
      let k = spaces_end c.spaces (spaces_end spaces_after ValueEnd.nothing) in
      let f : c.rest ≡ u = tight_same tight (subst (λ (z : Text). IsNode true z c.rest x) (sym c.at.here) (c.there c.rest c.rest k none)) c.spaces in
      let o = node_more m n w q (subst (λ (z : Text). Star NodeSpace (z ++ w) q) (sym f) ss) e in
      (t ++ w, x, o.0, o.1)

  last_lf : (w r : Text) → Star NodeSpace (u ++ w) (10 ∷ r) → Gap true ((47 ∷ 45 ∷ b) ++ w) r
  last_lf w r ss = let n = last_more w (10 ∷ r) ss (ValueEnd.newline (a_newline r)) in dropped_node n.2 n.3 (Terminator.newline (a_newline r)) no_gap

  -- with a letter after the node and its spaces no node is left
  last_letter : (w : Text) → Star NodeSpace (u ++ w) letter → (xs : Nodes) → AreNodes true ((47 ∷ 45 ∷ b) ++ w) [] xs → xs ≡ nodes'.none
  last_letter w ss xs ds = let n = last_more w letter ss letter_end in letter_dropped n.2 n.3 ds

-- the dropped node that was passed over
abbrev nothing_after : {v : Text} → [] ≡ v → HasGap v
nothing_after e = ([], subst (λ (h : Text). GapItems h []) e GapItems.none)

module _ {b u v c : Text} {k : Token} (p : NodePasses (at NodeSlashdash []) b b (returned k u v)) (i : ItemEnd u v c) {node : Text} (q : node ≡ between (47 ∷ 45 ∷ b) c) (old now : Option (List Item)) (m : now ≡ added old (piece node ∷ [])) where
  one_item : [] ≡ v → Adding (GapItems (47 ∷ 45 ∷ b)) old now
  one_item e = adding (piece node ∷ []) m (rw q (leaves_all (GapItems (47 ∷ 45 ∷ b)) (GapItems v) (piece (between (47 ∷ 45 ∷ b) c) ∷ []) (node_returned p i) (nothing_after e).1))

  node_ends : (y : Ending) → EndsNode v u y → (w : Text) → b ≡ w ++ v → GapPieceEnds (47 ∷ 45 ∷ b) (Some (piece_of y)) old now
  node_ends (EndsBefore r) z w o =
      let e = node_left z in (
        adding (piece node ∷ []) m (rw q (record {
          items = subst (λ (h : Text). Leaves (GapItems (47 ∷ 45 ∷ b)) (GapItems h) (piece (between (47 ∷ 45 ∷ b) c) ∷ [])) (sym e) (node_returned p i);
          adds = λ js g w' z' xs f ds. gap_nodes (node_gap p i (js, subst (λ (h : Text). GapItems h js) e g) w' (ends_before z w').1).0 ds;
          off = λ js g w' xs ds. (node_gap p i (js, subst (λ (h : Text). GapItems h js) e g) w' (ends_before z w').1).1 xs ds;
        })),
        before_shorter (47 ∷ 45 ∷ b) b (chars r.now) (bytes w) refl (w, o ∙ ap (λ (h : Text). w ++ h) (sym e), refl),
      )
  node_ends InReturn z w o =
      let (t, n) = by_line z (λ r e. cc) in
      let e = break_left InReturn t n in let g = break_ends_as InReturn t n in
      in_return (one_item e) (record { alone = λ w' h. (node_gap p i (nothing_after e) w' (ItemEnd.line (g.alone w' h))).0; before_lf = λ w'. (node_gap p i (nothing_after e) (10 ∷ w') (ItemEnd.line (g.before_lf w'))).0 })
  node_ends Open z w o =
      let (t, n) = by_line z (λ r e. cc) in
      let e = break_left Open t n in let g = break_ends_as Open t n in
      is_open (one_item e) (λ w'. (node_gap p i (nothing_after e) (10 ∷ w') (ItemEnd.line (g.ended w'))).0) (λ xs ds. no_nodes ((node_gap p i (nothing_after e) letter (ItemEnd.line (break_open t n letter letter_line))).1 xs ds))

module _ (s b node after : Text) (e : ℕ × Option Ending) (old now : Option (List Item)) (f : s ≡ 47 ∷ 45 ∷ b) (l : (p r : Text) → b ≡ p ++ r → bytes p ≡ e.0 → (node ≡ between (47 ∷ 45 ∷ b) r) × (after ≡ r)) (m : now ≡ added old (piece node ∷ [])) where
  pub node_terminated : (y : Ending) → EndsAt b e → e.1 ≡ Some y → GapPieceEnds s (Some (piece_of y)) old now
  node_terminated y (EndsAt.returns {u = u} {v = v} {i = c} {y = y'} w p i o x z h) g =
      let a : y' ≡ y = cc in
      subst (λ (h : Text). GapPieceEnds h (Some (piece_of y)) old now) (sym f) (node_ends p i (l x.0 c x.1 x.2).0 old now m y (subst (λ (q : Ending). EndsNode v u q) a z) w o)
  node_terminated y (EndsAt.ends p x h) g = let a : ◌≡◌ {A = Option Ending} None (Some y) = sym h ∙ g in absurd cc

  pub node_unterminated : (two : Bool) (new : Option (List Item)) → EndsAt b e → e.1 ≡ None → OnlySpaces after two now new → GapRead s (Some (if two then 1 else 2)) old new
  node_unterminated two new (EndsAt.returns {y = y} q p i o x z h) g w = let a : ◌≡◌ {A = Option Ending} None (Some y) = sym g ∙ h in absurd cc
  node_unterminated true new (EndsAt.ends {w = c} p x h) g w =
      let (q, r) = l x.0 c x.1 x.2 in
      let w' = subst (λ (h : Text). OnlySpaces h true now new) r w in
      subst (λ (h : Text). GapRead h (Some 1) old new) (sym f) (is_open (leaves_add (GapItems (47 ∷ 45 ∷ b)) (GapItems c) (adding (piece node ∷ []) m (rw q (node_ended p))) w'.1) (λ r. last_lf p (10 ∷ r) r (w'.0 (10 ∷ r))) (λ xs ds. last_letter p letter (w'.0 letter) xs ds))
  node_unterminated false new (EndsAt.ends {w = c} p x h) g w =
      let (q, r) = l x.0 c x.1 x.2 in
      let w' = (subst (λ (h : Text). OnlySpaces h false now new) r w).1 (spaces_after p) in
      subst (λ (h : Text). GapRead h (Some 2) old new) (sym f) (
        leaves_add (GapItems (47 ∷ 45 ∷ b)) (GapItems c) (adding (piece node ∷ []) m (rw q (node_ended p))) w'.0,
        (
          omega arith,
          λ r z xs e ds. subst (λ (y : Text). AreNodes true y z xs) (sym (append_assoc (47 ∷ 45 ∷ b) (10 ∷ 10 ∷ []) r)) (gap_nodes (last_lf p (10 ∷ 10 ∷ r) r (w'.1 (10 ∷ r))) ds),
          fewest_at (47 ∷ 45 ∷ b) 2 1 refl (λ xs ds. last_letter p (10 ∷ letter) (w'.1 letter) xs (subst (λ (y : Text). AreNodes true y [] xs) (append_assoc (47 ∷ 45 ∷ b) (10 ∷ []) letter) ds)),
        ),
      )

-- the gap so far
pub gap_turn : (s t v : Text) (r : Bor (List ℕ)) {old now new : Option (List Item)} → Adding (Through s t) old now → GapPieceEnds t (Some (Continue r)) now new → v ≡ chars r.now → Adding (Through s v) old new
gap_turn s t v r {old = old} (adding is e k) (adding js f m, l) x =
    adding (is ++ js) (then_added old is js e f) (rw x (record {
      items = leaves_then (GapItems s) (GapItems t) (GapItems (chars r.now)) is js k.items m.items;
      adds = λ ks g w z xs h ds. k.adds _ ((m.items _).1 (ks, refl, g)) w z xs h (m.adds ks g w z xs h ds);
      off = λ ks g w xs ds. m.off ks g w xs (k.off _ ((m.items _).1 (ks, refl, g)) w xs ds);
    }))

pub gap_end : (s t : Text) {old now : Option (List Item)} → Adding (Through s t) old now → t ≡ [] → GapRead s (Some 0) old now
gap_end s t (adding is f k) e =
    let g : GapItems t [] = rw e GapItems.none in (
      adding is f (leaves_all (GapItems s) (GapItems t) is k.items g),
      (omega arith, with_none s (λ r z xs h ds. k.adds [] g r z xs h (subst (λ (y : Text). AreNodes true (y ++ r) z xs) (sym e) ds)), fewest_none s),
    )

pub gap_last : (s t : Text) (k : ℕ) {old now new : Option (List Item)} → Adding (Through s t) old now → GapRead t (Some k) now new → GapRead s (Some k) old new
gap_last s t k (adding is e q) (adding js f g, (b, h, few)) = (
  leaves_add (GapItems s) (GapItems t) (adding is e q.items) (adding js f g),
  (
    b,
    λ r z xs i ds.
        subst (λ (y : Text). AreNodes true y z xs) (sym (append_assoc s (newlines k) r)) (q.adds js g (newlines k ++ r) z xs i (subst (λ (y : Text). AreNodes true y z xs) (append_assoc t (newlines k) r) (h r z xs i ds))),
    λ j i xs ds.
        few j i xs (subst (λ (y : Text). AreNodes true y [] xs) (sym (append_assoc t (newlines j) letter)) (q.off js g (newlines j ++ letter) xs (subst (λ (y : Text). AreNodes true y [] xs) (append_assoc s (newlines j) letter) ds))),
  ),
)

pub gap_refused : (s t : Text) {old now : Option (List Item)} → Adding (Through s t) old now → ((all : List Item) → GapItems t all → ⊥) → (all : List Item) → GapItems s all → ⊥
gap_refused s t (adding is e k) f = leaves_none (GapItems s) (GapItems t) is k.items f

-- the items that were asked for
pub gap_listed : (s : Text) (k : ℕ) {old new : Option (List Item)} → old ≡ Some [] → GapRead s (Some k) old new → IsGapWith s new
gap_listed s k e (adding is f d, l) = rw (f, e) d
