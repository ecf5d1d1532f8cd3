-- Items that are written on lines of their own are items of a gap again, and the lines are a gap.
use Rattle.kdl_layout.proofs.Common.{◌≡◌, ℕ, Bool, true, false, ◌==◌, List, [], ◌∷◌, ◌++◌, refl, sym, ap, subst, ◌∙◌, append_assoc, append-nil, arith, and_parts, nat_tests, list_all, if◌then◌else◌, map, Text, starts, is_space, Star, more, plus, BlockComment, Line, LineComment, Ws, NodeSpace, Break, Slashdash, ValueEnd, newline_begins, between, between_is, is_between, move_spaces, move_slashdash, punctuation_end, spaces_end, Put, stands, also, joined, IsNode, Gap, line_space, Item, comment, piece, line_end, EsclineItems, SpaceItems, LineSpaceItems, ItemEnd, EndsTight, GapItems, item_text, line_text, lines, on_line, is_newline_char}
use Rattle.kdl_text.specs.Chars.{none, space as a_space}
use Rattle.kdl_text.specs.Internal.Here.{first}
use Rattle.kdl_text.specs.Trivia.{line as a_line}
use Rattle.kdl_syntax.proofs.Moving.Puts.{before}
use Rattle.kdl_grammar.specs.Data.{Node}
use Rattle.kdl_layout.specs.Items.{last_node}
use Rattle.kdl_layout.proofs.Listing.PlaceTexts.{terminator_of}
use Rattle.kdl_layout.proofs.Listing.SpaceItems.{line_space_of}
use Rattle.kdl_layout.proofs.Listing.Starts.{slashes_end}
use Rattle.kdl_layout.proofs.Rewriting.LastCharacters.{Last, last_here, last_after, last_also, put_end, ws_last}
use Rattle.kdl_layout.proofs.Rewriting.BeforeNewlines.{piece_kept, closed_block, put_line, put_text, a_newline, newline_end, lf, line_char_other, cut_node, node_line}

-- the text up to its first newline
abbrev pub line_part : Text → Text
line_part [] = []
line_part (c ∷ s) = if is_newline_char c then [] else c ∷ line_part s

line_cut : (s : Text) → s ≡ line_part s ++ line_end s
line_cut [] = refl
line_cut (c ∷ s) = go (is_newline_char c) (line_cut s)
  where
    go : (b : Bool) → s ≡ line_part s ++ line_end s → c ∷ s ≡ (if b then [] else c ∷ line_part s) ++ (if b then c ∷ s else line_end s)
    go true e = refl
    go false e = ap (λ (z : Text). c ∷ z) e

part_line : (s r : Text) → Line (line_part s ++ (10 ∷ r)) r
part_line [] r = Line.newline (a_newline r)
part_line (c ∷ s) r = go (is_newline_char c) refl (part_line s r)
  where
    go : (b : Bool) → is_newline_char c ≡ b → Line (line_part s ++ (10 ∷ r)) r → Line ((if b then [] else c ∷ line_part s) ++ (10 ∷ r)) r
    go true e l = Line.newline (a_newline r)
    go false e l = Line.other e l

part_end : (s r : Text) → line_end (line_part s ++ (10 ∷ r)) ≡ 10 ∷ r
part_end [] r = rw lf refl
part_end (c ∷ s) r = go (is_newline_char c) refl (part_end s r)
  where
    go : (b : Bool) → is_newline_char c ≡ b → line_end (line_part s ++ (10 ∷ r)) ≡ 10 ∷ r → line_end ((if b then [] else c ∷ line_part s) ++ (10 ∷ r)) ≡ 10 ∷ r
    go true e h = rw lf refl
    go false e h = rw e h

newline_here : (s : Text) → starts is_newline_char s ≡ true → line_end s ≡ s
newline_here [] h = refl
newline_here (c ∷ s) h = rw h refl

line_other : (c : ℕ) → is_newline_char c ≡ false → (c == 13) ≡ false
unfolding is_newline_char
line_other c h = grind (arith, nat_tests)

part_last : (c : ℕ) → (c == 13) ≡ false → (s : Text) → Last (c ∷ s) (line_end s)
part_last c h [] = last_here c h
part_last c h (d ∷ s) = go (is_newline_char d) refl (λ k. part_last d k s)
  where
    go : (b : Bool) → is_newline_char d ≡ b → ((d == 13) ≡ false → Last (d ∷ s) (line_end s)) → Last (c ∷ d ∷ s) (if b then d ∷ s else line_end s)
    go true e k = last_here c h
    go false e k = last_also c (k (line_other d e))

-- a line comment up to its newline
abbrev pub comment_part : Text → Text
comment_part s = 47 ∷ 47 ∷ line_part s

pub comment_again : (s r : Text) → LineComment (comment_part s ++ (10 ∷ r)) r
comment_again s r = a_line (part_line s r)

pub comment_end : (s r : Text) → line_end (comment_part s ++ (10 ∷ r)) ≡ 10 ∷ r
comment_end s r = slashes_end (line_part s ++ (10 ∷ r)) ∙ part_end s r

pub comment_text : (s r : Text) → between (comment_part s ++ (10 ∷ r)) (line_end (comment_part s ++ (10 ∷ r))) ≡ comment_part s
comment_text s r = ap (between (comment_part s ++ (10 ∷ r))) (comment_end s r) ∙ between_is (comment_part s) (10 ∷ r)

comment_cut : (s : Text) → 47 ∷ 47 ∷ s ≡ comment_part s ++ line_end s
comment_cut s = ap (λ (z : Text). 47 ∷ 47 ∷ z) (line_cut s)

comment_last : (s : Text) → Last (47 ∷ 47 ∷ s) (line_end s)
comment_last s = last_also 47 (part_last 47 refl s)

pub comment_kept : (s : Text) → line_text (comment_part s) ≡ comment_part s
comment_kept s = piece_kept (comment_part s) (comment_cut s) (comment_last s) []

pub comment_item : {s r : Text} → LineComment s r → (z : Text) × (between s (line_end s) ≡ comment_part z)
comment_item (a_line {s = z} l) = (z, ap (between (47 ∷ 47 ∷ z)) (slashes_end z) ∙ sym (is_between (47 ∷ 47 ∷ z) (line_end z) (comment_part z) (comment_cut z)))

-- the same rest, or the rest after LF
pub data Over : Text → Text → Type 0 where
  over : {r : Text} → Over r r
  line : {r : Text} → Over (10 ∷ r) r

-- a dropped node before LF
pub data DroppedLine : Text → Text → Type 0 where
  dropped : {s t u v r : Text} {x : Node} → Slashdash s t → IsNode true t u x → ItemEnd u v (10 ∷ r) → Over v r → DroppedLine s r

-- the item on a line
pub data Standing : Item → Type 0 where
  line_comment : (s : Text) → Standing (comment (comment_part s))
  block_comment : {t : Text} → ((r : Text) → BlockComment (t ++ r) r) → line_text t ≡ t → Standing (piece t)
  dropped_node : {t : Text} → ((r : Text) → DroppedLine (line_text t ++ (10 ∷ r)) r) → Standing (piece t)

abbrev pub AreStanding : List Item → Type 0
AreStanding [] = Unit {0}
AreStanding (i ∷ is) = Standing i × AreStanding is

comment_stands : {s r : Text} → LineComment s r → Standing (comment (between s (line_end s)))
comment_stands l = let c = comment_item l in subst (λ (t : Text). Standing (comment t)) (sym c.1) (Standing.line_comment c.0)

block_stands : {s r : Text} → BlockComment s r → Standing (piece (between s r))
block_stands {s = s} {r = r} b =
    let c = closed_block b in
    let e : s ≡ c.at.piece ++ r = c.at.here ∙ c.at.text r in
    subst (λ (t : Text). Standing (piece t)) (is_between s r c.at.piece e)
    (Standing.block_comment (λ z. subst (λ (y : Text). BlockComment y z) (c.at.text z) (c.there z)) (piece_kept c.at.piece e (ws_last (Ws.comment b)) []))

-- a dropped node that does not end with CR
node_kept : {s e : Text} (p : Put s e) → Last s e → ((r : Text) → DroppedLine (p.put (10 ∷ r)) r) → Standing (piece (between s e))
node_kept {s = s} {e = e} p l f =
    let h : s ≡ p.piece ++ e = p.here ∙ p.text e in
    subst (λ (t : Text). Standing (piece t)) (is_between s e p.piece h)
    (Standing.dropped_node (λ r. subst (λ (t : Text). DroppedLine t r) (p.text (10 ∷ r) ∙ ap (λ (z : Text). z ++ (10 ∷ r)) (sym (piece_kept p.piece h l []))) (f r)))

item_line : (r : Text) → ItemEnd (10 ∷ r) r (10 ∷ r)
item_line r = subst (λ (e : Text). ItemEnd (10 ∷ r) r e) (newline_here (10 ∷ r) lf) (ItemEnd.line (Break.newline (a_newline r)))

node_newline : {s t u : Text} {x : Node} → Slashdash s t → IsNode true t u x → starts is_newline_char u ≡ true → Standing (piece (between s (line_end u)))
node_newline {s = s} {t = t} {u = u} m n h =
    let o = move_slashdash m in let k = node_line n h in
    let f : between s (line_end u) ≡ o.at.piece ++ k.on.piece = ap (between s) (newline_here u h) ∙ sym (is_between s u (o.at.piece ++ k.on.piece) (put_text o.at k.on.piece u k.on.text)) in
    Standing.dropped_node (λ r.
    subst (λ (z : Text). DroppedLine z r) (put_line o.at k.on.line (10 ∷ r) ∙ ap (λ (z : Text). z ++ (10 ∷ r)) (sym (ap line_text f ∙ k.on.lined o.at.piece)))
    (DroppedLine.dropped (o.there (k.on.line ++ (10 ∷ r)) (k.begun r)) (k.on.there r) (item_line r) Over.over))

node_comment : {s t u : Text} {x : Node} → Slashdash s t → IsNode true t (47 ∷ 47 ∷ u) x → Standing (piece (between s (line_end (47 ∷ 47 ∷ u))))
node_comment {s = s} {u = u} m n =
    let o = move_slashdash m in let c = cut_node n in let k = move_spaces c.spaces in
    let p = joined o.at (joined c.at k.at) in
    let last = λ (r : Text). comment_part u ++ (10 ∷ r) in
    let spaced = λ (r : Text). k.there (last r) refl in
    rw (slashes_end u)
    (node_kept (joined p (before (comment_part u) (comment_cut u))) (last_after (put_end p) (comment_last u))
    (λ r. DroppedLine.dropped (o.there (c.at.put (k.at.put (last r))) (c.full (k.at.put (last r))))
    (c.there (k.at.put (last r)) (last r) (spaces_end (spaced r) ValueEnd.line_comment) (spaced r)) (subst (λ (e : Text). ItemEnd (last r) r e) (comment_end u r) (ItemEnd.line (Break.comment (comment_again u r)))) Over.over))

node_semicolon : {s t v : Text} {x : Node} → Slashdash s t → IsNode true t (59 ∷ v) x → Standing (piece (between s v))
node_semicolon m n =
    let o = move_slashdash m in let c = cut_node n in let k = move_spaces c.spaces in
    let p = joined o.at (joined c.at k.at) in
    let spaced = λ (r : Text). k.there (59 ∷ 10 ∷ r) refl in
    node_kept (joined p (also 59 stands)) (last_after (put_end p) (last_here 59 refl))
    (λ r. DroppedLine.dropped (o.there (c.at.put (k.at.put (59 ∷ 10 ∷ r))) (c.full (k.at.put (59 ∷ 10 ∷ r))))
    (c.there (k.at.put (59 ∷ 10 ∷ r)) (59 ∷ 10 ∷ r) (spaces_end (spaced r) (punctuation_end 59 refl)) (spaced r)) ItemEnd.semicolon Over.line)

node_ended : {s t u v e : Text} {x : Node} → Slashdash s t → IsNode true t u x → ItemEnd u v e → Standing (piece (between s e))
node_ended m n ItemEnd.semicolon = node_semicolon m n
node_ended m n (ItemEnd.line (Break.newline k)) = node_newline m n (newline_begins k)
node_ended m n (ItemEnd.line (Break.comment (a_line l))) = node_comment m n

tight_at : {s t u w : Text} {x : Node} → Slashdash s t → (p : Put t w) → Last t w → ((z : Text) → first (p.put z) ≡ first t)
    → ((z q : Text) → ValueEnd true z → Star NodeSpace z q → IsNode true (p.put z) q x) → EndsTight t u → ValueEnd true w → Star NodeSpace w u → Standing (piece (between s u))
tight_at m p l full there tight end none =
    let o = move_slashdash m in
    node_kept (joined o.at p) (last_after (put_end o.at) l)
    (λ r. DroppedLine.dropped (o.there (p.put (10 ∷ r)) (full (10 ∷ r))) (there (10 ∷ r) (10 ∷ r) (newline_end r) none) (item_line r) Over.over)
tight_at {t = t} {u = u} {w = w} {x = x} m p l full there tight end (more k ks) =
    absurd (tight w x (subst (λ (z : Text). IsNode true z w x) (sym p.here) (there w w end none)) (plus k ks))

node_last : {s t u : Text} {x : Node} → Slashdash s t → IsNode true t u x → EndsTight t u → Star NodeSpace u [] → Standing (piece (between s u))
node_last m n tight ss = let c = cut_node n in tight_at m c.at c.last c.full c.there tight (spaces_end c.spaces (spaces_end ss ValueEnd.nothing)) c.spaces

-- each item of a gap is on a line
standing_join : (is js : List Item) → AreStanding is → AreStanding js → AreStanding (is ++ js)
standing_join [] js a b = b
standing_join (i ∷ is) js a b = (a.0, standing_join is js a.1 b)

esc_items : {s r : Text} {is : List Item} → EsclineItems s r is → AreStanding is
esc_items (EsclineItems.space p d) = esc_items d
esc_items (EsclineItems.block b d) = (block_stands b, esc_items d)
esc_items (EsclineItems.line l) = (comment_stands l, tt)
esc_items (EsclineItems.newline n) = tt
esc_items EsclineItems.ends = tt

space_items : {s r : Text} {is : List Item} → SpaceItems s r is → AreStanding is
space_items (SpaceItems.space p) = tt
space_items (SpaceItems.block b) = (block_stands b, tt)
space_items (SpaceItems.escline d) = esc_items d

line_space_items : {s r : Text} {is : List Item} → LineSpaceItems s r is → AreStanding is
line_space_items (LineSpaceItems.space d) = space_items d
line_space_items (LineSpaceItems.newline n) = tt
line_space_items (LineSpaceItems.line l) = (comment_stands l, tt)

pub gap_items : {s : Text} {is : List Item} → GapItems s is → AreStanding is
gap_items GapItems.none = tt
gap_items (GapItems.space {is = is} {js = js} d g) = standing_join is js (line_space_items d) (gap_items g)
gap_items (GapItems.dropped_node m n e g) = (node_ended m n e, gap_items g)
gap_items (last_node m n tight ss g) = (node_last m n tight ss, gap_items g)

line_joined : (b l m r : Text) → ((b ++ l ++ (10 ∷ [])) ++ m) ++ r ≡ b ++ (l ++ (10 ∷ (m ++ r)))
line_joined b l m r = simp append_assoc

-- what begins with line-spaces and dropped nodes: a gap with its items, or a gap before a rest
record Gaps (P : Text → List Item → Type 0) : Type 0 where
  space : {s t : Text} {is js : List Item} → LineSpaceItems s t is → P t js → P s (is ++ js)
  node : {s t u v e : Text} {x : Node} {js : List Item} → Slashdash s t → IsNode true t u x → ItemEnd u v e → P v js → P s (piece (between s e) ∷ js)

gaps : Gaps GapItems
gaps = record { space = λ d g. GapItems.space d g; node = λ m n e g. GapItems.dropped_node m n e g }

gaps_before : (r : Text) → Gaps (λ s is. Gap true s r)
gaps_before r = record { space = λ d g. line_space (line_space_of d) g; node = λ m n e g. Gap.dropped_node m n (terminator_of e) g }

module _ {P : Text → List Item → Type 0} (g : Gaps P) where
  newline_first : {r : Text} {js : List Item} → P r js → P (10 ∷ r) js
  newline_first {r = r} p = g.space (LineSpaceItems.newline (a_newline r)) p

  over_first : {v r : Text} {js : List Item} → Over v r → P r js → P v js
  over_first Over.over p = p
  over_first Over.line p = newline_first p

  node_first : {s r : Text} {js : List Item} → DroppedLine s r → P r js → P s (piece (between s (10 ∷ r)) ∷ js)
  node_first (DroppedLine.dropped m n e o) p = g.node m n e (over_first o p)

  line_first : {i : Item} → Standing i → {r : Text} {js : List Item} → P r js → P (line_text (item_text i) ++ (10 ∷ r)) (on_line i ∷ js)
  line_first (Standing.line_comment s) {r} {js} p =
      subst (λ (z : Text). P (z ++ (10 ∷ r)) (comment z ∷ js)) (sym (comment_kept s))
      (subst (λ (t : Text). P (comment_part s ++ (10 ∷ r)) (comment t ∷ js)) (comment_text s r) (g.space (LineSpaceItems.line (comment_again s r)) p))
  line_first (Standing.block_comment {t = t} f e) {r} {js} p =
      rw e
      (subst (λ (z : Text). P (t ++ (10 ∷ r)) (piece z ∷ js)) (between_is t (10 ∷ r)) (g.space (LineSpaceItems.space (SpaceItems.block (f (10 ∷ r)))) (newline_first p)))
  line_first (Standing.dropped_node {t = t} f) {r} {js} p =
      subst (λ (z : Text). P (line_text t ++ (10 ∷ r)) (piece z ∷ js)) (between_is (line_text t) (10 ∷ r)) (node_first (f r) p)

  spaces_first : (before : Text) → list_all is_space before ≡ true → {r : Text} {js : List Item} → P r js → P (before ++ r) js
  spaces_first [] ok p = p
  spaces_first (c ∷ cs) ok p =
      let (here, others) = and_parts (is_space c) (list_all is_space cs) ok in
      g.space (LineSpaceItems.space (SpaceItems.space (a_space here))) (spaces_first cs others p)

  lines_first : (before : Text) → list_all is_space before ≡ true → (is : List Item) → AreStanding is → {r : Text} {js : List Item} → P r js → P (lines before is ++ r) (map on_line is ++ js)
  lines_first before ok [] a p = p
  lines_first before ok (i ∷ is) a {r} {js} p =
      rw (line_joined before (line_text (item_text i)) (lines before is) r) (spaces_first before ok (line_first a.0 (lines_first before ok is a.1 p)))

-- one line, and spaces before a line
pub newline_items : {r : Text} {js : List Item} → GapItems r js → GapItems (10 ∷ r) js
newline_items d = newline_first gaps d

pub one_line : {i : Item} → Standing i → {r : Text} {js : List Item} → GapItems r js → GapItems (line_text (item_text i) ++ (10 ∷ r)) (on_line i ∷ js)
one_line a d = line_first gaps a d

pub one_gap : {i : Item} → Standing i → {t r : Text} → Gap true t r → Gap true (line_text (item_text i) ++ (10 ∷ t)) r
one_gap a {r = r} d = line_first (gaps_before r) a {js = []} d

pub spaces_before : (before : Text) → list_all is_space before ≡ true → {r : Text} {js : List Item} → GapItems r js → GapItems (before ++ r) js
spaces_before before ok d = spaces_first gaps before ok d

pub spaces_gap : (before : Text) → list_all is_space before ≡ true → {t r : Text} → Gap true t r → Gap true (before ++ t) r
spaces_gap before ok {r = r} d = spaces_first (gaps_before r) before ok {js = []} d

-- the lines of a gap's items are a gap whose items are those on the lines
pub lines_again : (before : Text) → list_all is_space before ≡ true → {s : Text} {is : List Item} → GapItems s is → {r : Text} {js : List Item} → GapItems r js
    → GapItems (lines before is ++ r) (map on_line is ++ js)
lines_again before ok {is = is} d g = lines_first gaps before ok is (gap_items d) g

-- spaces alone have no items
pub spaces_items : (s : Text) → list_all is_space s ≡ true → GapItems s []
spaces_items s ok = subst (λ (z : Text). GapItems z []) (append-nil s) (spaces_before s ok GapItems.none)

-- with spaces alone after the lines
pub lines_spaces : (before after : Text) → list_all is_space before ≡ true → list_all is_space after ≡ true → {s : Text} {is : List Item} → GapItems s is → GapItems (lines before is ++ after) (map on_line is)
lines_spaces before after ok ok' {s} {is} d =
    subst (λ (js : List Item). GapItems (lines before is ++ after) js) (append-nil (map on_line is)) (lines_again before ok d (spaces_items after ok'))

-- what is on a line is the same on a line
line_cons : (c d : ℕ) (s : Text) → line_text (c ∷ line_text (d ∷ s)) ≡ c ∷ line_text (line_text (d ∷ s))
line_cons c d [] = refl
line_cons c d (e ∷ s) = refl

pub line_text_again : (t : Text) → line_text (line_text t) ≡ line_text t
line_text_again [] = refl
line_text_again (c ∷ []) = ap (λ (b : Bool). (if b then 10 else (if c == 13 then 10 else c)) ∷ []) (line_char_other c)
line_text_again (c ∷ d ∷ s) = line_cons c d s ∙ ap (λ (z : Text). c ∷ z) (line_text_again (d ∷ s))

pub text_on_line : (i : Item) → item_text (on_line i) ≡ line_text (item_text i)
text_on_line (comment t) = refl
text_on_line (piece t) = refl
