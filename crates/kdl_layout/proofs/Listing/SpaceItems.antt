-- The items of node-spaces and line-spaces: each has some, and some alone; and what a space does in front of a gap or a place.
use Rattle.kdl_layout.proofs.Common.{◌≡◌, ◌↔◌, true, List, [], ◌∷◌, ◌++◌, refl, sym, ap, subst, ◌∙◌, Bool, Option, Some, None, append_assoc, append-nil, Text, Newline, Star, Space, BlockComment, LineComment, Ws, EscEnd, NodeSpace, LineSpace, Slashdash, slashdash, slash_no_space, backslash_no_space, slash_no_newline, newline_begins, t_space, t_newline, t_slashdash, between, token_det, no_token, Item, comment, piece, line_end, EsclineItems, SpaceItems, LineSpaceItems, GapItems, Place, may_end, spaced, PlaceItems, before_entry, before_block, after_block, takes_entries, takes_blocks, Run, added, Adding, adding, Leaves}
use Rattle.kdl_text.specs.Chars.Star.{none as no_star, more}
use Rattle.kdl_text.specs.Chars.Space.{space as a_space}
use Rattle.kdl_text.specs.Trivia.BlockComment.{block as a_block}
use Rattle.kdl_text.specs.Trivia.LineComment.{line as a_line}
use Rattle.kdl_text.specs.Trivia.Ws.{space as ws_space, comment as ws_comment}
use Rattle.kdl_text.specs.Trivia.EscEnd.{comment as end_comment, newline as end_newline, ends as end_ends}
use Rattle.kdl_text.specs.Trivia.Escline.{escline as an_escline}
use Rattle.kdl_text.specs.Trivia.NodeSpace.{ws, escline as node_escline}
use Rattle.kdl_text.specs.Trivia.Break.{newline as break_newline, comment as break_comment}
use Rattle.kdl_text.specs.Trivia.LineSpace.{space as line_space, «break» as line_break}
use Rattle.kdl_text.specs.Trivia.Slashdash.{slashdash as a_slashdash}
use Rattle.kdl_text.proofs.Spacing.SpaceUnique.{space_det, block_det, line_comment_det, esc_end_ws, space_or_break}
use Rattle.kdl_text.proofs.Spacing.NewlineUnique.{newline_det}
use Rattle.kdl_layout.specs.Internal.Reading.Run.{one as one_run, more as more_run}

-- what has items is an escline, a node-space, a line-space
pub escline_of : {s r : Text} {is : List Item} → EsclineItems s r is → (t : Text) × Star Ws s t × EscEnd t r
escline_of (EsclineItems.space p d) = let e = escline_of d in (e.0, more (ws_space p) e.1, e.2)
escline_of (EsclineItems.block p d) = let e = escline_of d in (e.0, more (ws_comment p) e.1, e.2)
escline_of {s = s} (EsclineItems.line l) = (s, no_star, end_comment l)
escline_of {s = s} (EsclineItems.newline n) = (s, no_star, end_newline n)
escline_of EsclineItems.ends = ([], no_star, end_ends)

pub space_of : {s r : Text} {is : List Item} → SpaceItems s r is → NodeSpace s r
space_of (SpaceItems.space p) = ws (ws_space p)
space_of (SpaceItems.block p) = ws (ws_comment p)
space_of (SpaceItems.escline d) = let e = escline_of d in node_escline (an_escline e.1 e.2)

pub line_space_of : {s r : Text} {is : List Item} → LineSpaceItems s r is → LineSpace s r
line_space_of (LineSpaceItems.space d) = line_space (space_of d)
line_space_of (LineSpaceItems.newline n) = line_break (break_newline n)
line_space_of (LineSpaceItems.line l) = line_break (break_comment l)

-- each of them has items
end_items : {s r : Text} → EscEnd s r → (is : List Item) × EsclineItems s r is
end_items {s = s} (end_comment l) = (comment (between s (line_end s)) ∷ [], EsclineItems.line l)
end_items (end_newline n) = ([], EsclineItems.newline n)
end_items end_ends = ([], EsclineItems.ends)

pub run_items : {s t r : Text} → Star Ws s t → EscEnd t r → (is : List Item) × EsclineItems s r is
run_items no_star e = end_items e
run_items (more (ws_space p) ps) e = let d = run_items ps e in (d.0, EsclineItems.space p d.1)
run_items {s = s} (more {t = t} (ws_comment p) ps) e = let d = run_items ps e in (piece (between s t) ∷ d.0, EsclineItems.block p d.1)

pub space_items : {s r : Text} → NodeSpace s r → (is : List Item) × SpaceItems s r is
space_items (ws (ws_space p)) = ([], SpaceItems.space p)
space_items {s = s} {r = r} (ws (ws_comment p)) = (piece (between s r) ∷ [], SpaceItems.block p)
space_items (node_escline (an_escline ps e)) = let d = run_items ps e in (d.0, SpaceItems.escline d.1)

pub line_space_items : {s r : Text} → LineSpace s r → (is : List Item) × LineSpaceItems s r is
line_space_items (line_space n) = let d = space_items n in (d.0, LineSpaceItems.space d.1)
line_space_items (line_break (break_newline n)) = ([], LineSpaceItems.newline n)
line_space_items {s = s} (line_break (break_comment l)) = (comment (between s (line_end s)) ∷ [], LineSpaceItems.line l)

-- a space, a newline, a block comment and a line comment begin differently
space_block : {s r t : Text} → Space s r → BlockComment s t → ⊥
space_block (a_space x) (a_block p) = let y = slash_no_space in cc

newline_comment : {s r t : Text} → Newline s r → LineComment s t → ⊥
newline_comment n (a_line p) = let x = newline_begins n in let y = slash_no_newline in cc

-- a text has one escline's items at most
pub escline_items_det : {s r r' : Text} {is js : List Item} → EsclineItems s r is → EsclineItems s r' js → (r ≡ r') × (is ≡ js)
escline_items_det {r' = r'} (EsclineItems.space p d) (EsclineItems.space {is = js} q e) = escline_items_det d (subst (λ (u : Text). EsclineItems u r' js) (sym (space_det p q)) e)
escline_items_det {s = s} {r' = r'} (EsclineItems.block {t = t} {is = is} p d) (EsclineItems.block {t = t'} {is = js} q e) =
    let f = block_det p q in
    let g = escline_items_det d (subst (λ (u : Text). EsclineItems u r' js) (sym f) e) in
    (g.0, ap (λ (u : Text). piece (between s u) ∷ is) f ∙ ap (λ (l : List Item). piece (between s t') ∷ l) g.1)
escline_items_det (EsclineItems.line l) (EsclineItems.line m) = (line_comment_det l m, refl)
escline_items_det (EsclineItems.newline n) (EsclineItems.newline m) = (newline_det n m, refl)
escline_items_det EsclineItems.ends EsclineItems.ends = (refl, refl)
escline_items_det (EsclineItems.space p d) (EsclineItems.block q e) = absurd (space_block p q)
escline_items_det (EsclineItems.block p d) (EsclineItems.space q e) = absurd (space_block q p)
escline_items_det (EsclineItems.space p d) (EsclineItems.line l) = absurd (esc_end_ws (end_comment l) (ws_space p))
escline_items_det (EsclineItems.block p d) (EsclineItems.line l) = absurd (esc_end_ws (end_comment l) (ws_comment p))
escline_items_det (EsclineItems.line l) (EsclineItems.space p d) = absurd (esc_end_ws (end_comment l) (ws_space p))
escline_items_det (EsclineItems.line l) (EsclineItems.block p d) = absurd (esc_end_ws (end_comment l) (ws_comment p))
escline_items_det (EsclineItems.space p d) (EsclineItems.newline n) = absurd (esc_end_ws (end_newline n) (ws_space p))
escline_items_det (EsclineItems.block p d) (EsclineItems.newline n) = absurd (esc_end_ws (end_newline n) (ws_comment p))
escline_items_det (EsclineItems.newline n) (EsclineItems.space p d) = absurd (esc_end_ws (end_newline n) (ws_space p))
escline_items_det (EsclineItems.newline n) (EsclineItems.block p d) = absurd (esc_end_ws (end_newline n) (ws_comment p))
escline_items_det (EsclineItems.newline n) (EsclineItems.line l) = absurd (newline_comment n l)
escline_items_det (EsclineItems.line l) (EsclineItems.newline n) = absurd (newline_comment n l)
escline_items_det (EsclineItems.space p d) EsclineItems.ends = absurd (esc_end_ws end_ends (ws_space p))
escline_items_det (EsclineItems.block p d) EsclineItems.ends = absurd (esc_end_ws end_ends (ws_comment p))
escline_items_det EsclineItems.ends (EsclineItems.space p d) = absurd (esc_end_ws end_ends (ws_space p))
escline_items_det EsclineItems.ends (EsclineItems.block p d) = absurd (esc_end_ws end_ends (ws_comment p))
escline_items_det (EsclineItems.line l) EsclineItems.ends = elim l [ ]
escline_items_det EsclineItems.ends (EsclineItems.line l) = elim l [ ]
escline_items_det (EsclineItems.newline n) EsclineItems.ends = elim n [ ]
escline_items_det EsclineItems.ends (EsclineItems.newline n) = elim n [ ]

back_space : {s r : Text} → Space (92 ∷ s) r → ⊥
back_space (a_space x) = let y = backslash_no_space in cc

-- and so of a node-space and a line-space
pub space_items_det : {s r r' : Text} {is js : List Item} → SpaceItems s r is → SpaceItems s r' js → (r ≡ r') × (is ≡ js)
space_items_det (SpaceItems.space p) (SpaceItems.space q) = (space_det p q, refl)
space_items_det {s = s} (SpaceItems.block p) (SpaceItems.block q) = let e = block_det p q in (e, ap (λ (u : Text). piece (between s u) ∷ []) e)
space_items_det (SpaceItems.escline d) (SpaceItems.escline e) = escline_items_det d e
space_items_det (SpaceItems.space p) (SpaceItems.block q) = absurd (space_block p q)
space_items_det (SpaceItems.block p) (SpaceItems.space q) = absurd (space_block q p)
space_items_det (SpaceItems.space p) (SpaceItems.escline e) = absurd (back_space p)
space_items_det (SpaceItems.escline d) (SpaceItems.space q) = absurd (back_space q)
space_items_det (SpaceItems.block p) (SpaceItems.escline e) = elim p [ ]
space_items_det (SpaceItems.escline d) (SpaceItems.block q) = elim q [ ]

pub line_space_items_det : {s r r' : Text} {is js : List Item} → LineSpaceItems s r is → LineSpaceItems s r' js → (r ≡ r') × (is ≡ js)
line_space_items_det (LineSpaceItems.space d) (LineSpaceItems.space e) = space_items_det d e
line_space_items_det (LineSpaceItems.newline n) (LineSpaceItems.newline m) = (newline_det n m, refl)
line_space_items_det (LineSpaceItems.line l) (LineSpaceItems.line m) = (line_comment_det l m, refl)
line_space_items_det (LineSpaceItems.space d) (LineSpaceItems.newline n) = absurd (space_or_break (space_of d) (break_newline n))
line_space_items_det (LineSpaceItems.newline n) (LineSpaceItems.space d) = absurd (space_or_break (space_of d) (break_newline n))
line_space_items_det (LineSpaceItems.space d) (LineSpaceItems.line l) = absurd (space_or_break (space_of d) (break_comment l))
line_space_items_det (LineSpaceItems.line l) (LineSpaceItems.space d) = absurd (space_or_break (space_of d) (break_comment l))
line_space_items_det (LineSpaceItems.newline n) (LineSpaceItems.line l) = absurd (newline_comment n l)
line_space_items_det (LineSpaceItems.line l) (LineSpaceItems.newline n) = absurd (newline_comment n l)

-- no space begins where a slashdash does, and none begins at the end of the text
pub dash_no_space : {s r t : Text} → Slashdash s t → NodeSpace s r → ⊥
dash_no_space (a_slashdash ls) n = let e = (token_det (t_space n) t_slashdash).1 in cc

pub dash_no_line : {s r t : Text} → Slashdash s t → LineSpace s r → ⊥
dash_no_line m (line_space n) = dash_no_space m n
dash_no_line (a_slashdash ls) (line_break n) = let e = (token_det (t_newline n) t_slashdash).1 in cc

end_no_space : {r : Text} → NodeSpace [] r → ⊥
end_no_space n = no_token (t_space n)

end_no_line : {r : Text} → LineSpace [] r → ⊥
end_no_line (line_space n) = end_no_space n
end_no_line (line_break n) = no_token (t_newline n)

-- a gap that begins with a line-space
space_first : {s t : Text} {is all : List Item} → LineSpaceItems s t is → GapItems s all → (js : List Item) × (all ≡ is ++ js) × GapItems t js
space_first d GapItems.none = absurd (end_no_line (line_space_of d))
space_first {is = is} d (GapItems.space {js = js} e g) = let f = line_space_items_det d e in (js, ap (λ (l : List Item). l ++ js) (sym f.1), subst (λ (u : Text). GapItems u js) (sym f.0) g)
space_first d (GapItems.dropped_node m x e g) = absurd (dash_no_line m (line_space_of d))
space_first d (GapItems.last_node m x h ss g) = absurd (dash_no_line m (line_space_of d))

pub gap_space : {s t : Text} {is : List Item} → LineSpaceItems s t is → (all : List Item) → GapItems s all ↔ ((js : List Item) × (all ≡ is ++ js) × GapItems t js)
gap_space {s = s} d all = (λ g. space_first d g, λ h. subst (λ (l : List Item). GapItems s l) (sym h.1) (GapItems.space d h.2))

-- a place that begins with a node-space
place_first : {p : Place} {s t : Text} {is all : List Item} → SpaceItems s t is → PlaceItems p s all → (js : List Item) × (all ≡ is ++ js) × PlaceItems (spaced true p) t js
place_first d (PlaceItems.ends e) = absurd (end_no_space (space_of d))
place_first {p = p} d (PlaceItems.space {js = js} e g) = let f = space_items_det d e in (js, ap (λ (l : List Item). l ++ js) (sym f.1), subst (λ (u : Text). PlaceItems (spaced true p) u js) (sym f.0) g)
place_first d (PlaceItems.dropped_entry e m i g) = absurd (dash_no_space m (space_of d))
place_first d (PlaceItems.dropped_block e m b g) = absurd (dash_no_space m (space_of d))

pub place_space : {p : Place} {s t : Text} {is : List Item} → SpaceItems s t is → (all : List Item) → PlaceItems p s all ↔ ((js : List Item) × (all ≡ is ++ js) × PlaceItems (spaced true p) t js)
place_space {p = p} {s = s} d all = (λ g. place_first d g, λ h. subst (λ (l : List Item). PlaceItems p s l) (sym h.1) (PlaceItems.space d h.2))

-- an empty gap or place
gap_empty : {all : List Item} → GapItems [] all → all ≡ []
gap_empty GapItems.none = refl
gap_empty (GapItems.space d g) = absurd (end_no_line (line_space_of d))
gap_empty (GapItems.dropped_node m x f g) = elim m [ ]
gap_empty (GapItems.last_node m x h ss g) = elim m [ ]

pub gap_end : (all : List Item) → GapItems [] all ↔ (all ≡ [])
gap_end all = (λ g. gap_empty g, λ e. subst (λ (l : List Item). GapItems [] l) (sym e) GapItems.none)

place_empty : {p : Place} {all : List Item} → PlaceItems p [] all → (may_end p ≡ true) × (all ≡ [])
place_empty (PlaceItems.ends f) = (f, refl)
place_empty (PlaceItems.space d g) = absurd (end_no_space (space_of d))
place_empty (PlaceItems.dropped_entry f m i g) = elim m [ ]
place_empty (PlaceItems.dropped_block f m b g) = elim m [ ]

pub place_end : (p : Place) (all : List Item) → PlaceItems p [] all ↔ ((may_end p ≡ true) × (all ≡ []))
place_end p all = (λ g. place_empty g, λ e. subst (λ (l : List Item). PlaceItems p [] l) (sym e.1) (PlaceItems.ends e.0))

-- a slashdash begins with `/-`
dash_text : {s t : Text} → Slashdash s t → (u : Text) × (s ≡ 47 ∷ 45 ∷ u)
dash_text (a_slashdash {s = u} ls) = (u, refl)

-- where neither a space nor a slashdash begins, and the text goes on, there is no gap and no place
pub gap_none : {s : Text} → (s ≡ [] → ⊥) → ((r : Text) → LineSpace s r → ⊥) → ((t : Text) → s ≡ 47 ∷ 45 ∷ t → ⊥) → (all : List Item) → GapItems s all → ⊥
gap_none a b c all GapItems.none = a refl
gap_none a b c all (GapItems.space d g) = b _ (line_space_of d)
gap_none a b c all (GapItems.dropped_node m x f g) = let u = dash_text m in c u.0 u.1
gap_none a b c all (GapItems.last_node m x h ss g) = let u = dash_text m in c u.0 u.1

-- items that were added after others
pub added_none : (o : Option (List Item)) → o ≡ added o []
added_none None = refl
added_none (Some is) = ap Some (sym (append-nil is))

added_twice : (o : Option (List Item)) (is js : List Item) → added (added o is) js ≡ added o (is ++ js)
added_twice None is js = refl
added_twice (Some l) is js = ap Some (append_assoc l is js)

pub then_added : {now new : Option (List Item)} (old : Option (List Item)) (is js : List Item) → now ≡ added old is → new ≡ added now js → new ≡ added old (is ++ js)
then_added old is js e f = f ∙ ap (λ (o : Option (List Item)). added o js) e ∙ added_twice old is js

-- first some items, and then the others
pub leaves_start : (X : List Item → Type 0) → Leaves X X []
leaves_start X all = (λ x. (all, refl, x), λ h. subst X (sym h.1) h.2)

pub leaves_then : (X Y Z : List Item → Type 0) (is js : List Item) → Leaves X Y is → Leaves Y Z js → Leaves X Z (is ++ js)
leaves_then X Y Z is js l m all = (
  λ x. let (ks, e, y) = (l all).0 x in let (ns, f, z) = (m ks).0 y in (ns, e ∙ ap (λ (k : List Item). is ++ k) f ∙ sym (append_assoc is js ns), z),
  λ h. (l all).1 (js ++ h.0, h.1 ∙ append_assoc is js h.0, (m (js ++ h.0)).1 (h.0, refl, h.2)),
)

pub leaves_all : (X Y : List Item → Type 0) (is : List Item) → Leaves X Y is → Y [] → X is
leaves_all X Y is l y = (l is).1 ([], sym (append-nil is), y)

pub leaves_none : (X Y : List Item → Type 0) (is : List Item) → Leaves X Y is → ((js : List Item) → Y js → ⊥) → (all : List Item) → X all → ⊥
leaves_none X Y is l n all x = let (js, e, y) = (l all).0 x in n js y

pub leaves_add : (X Y : List Item → Type 0) {old now new : Option (List Item)} → Adding (Leaves X Y) old now → Adding Y now new → Adding X old new
leaves_add X Y {old = old} (adding is e l) (adding js f y) = adding (is ++ js) (then_added old is js e f) ((l (is ++ js)).1 (js, refl, y))

-- line-spaces in a gap
pub run_leaves : {s r : Text} {is : List Item} → Run LineSpaceItems s r is → Leaves (GapItems s) (GapItems r) is
run_leaves (one_run d) = gap_space d
run_leaves {s = s} {r = r} (more_run {t = t} {is = is} {js = js} d ds) = leaves_then (GapItems s) (GapItems t) (GapItems r) is js (gap_space d) (run_leaves ds)

pub run_lines : {s r : Text} {is : List Item} → Run SpaceItems s r is → Run LineSpaceItems s r is
run_lines (one_run d) = one_run (LineSpaceItems.space d)
run_lines (more_run d ds) = more_run (LineSpaceItems.space d) (run_lines ds)

pub run_gap : {s : Text} {is : List Item} → Run LineSpaceItems s [] is → GapItems s is
run_gap {s} {is} run = leaves_all (GapItems s) (GapItems []) is (run_leaves run) GapItems.none

-- what a place takes does not depend on the node-spaces in it
pub spaced_again : (a b : Bool) (p : Place) → spaced a (spaced b p) ≡ spaced a p
spaced_again a b (before_entry c) = refl
spaced_again a b before_block = refl
spaced_again a b after_block = refl

pub entries_spaced : (b : Bool) (p : Place) → takes_entries (spaced b p) ≡ takes_entries p
entries_spaced b (before_entry c) = refl
entries_spaced b before_block = refl
entries_spaced b after_block = refl

pub blocks_spaced : (b : Bool) (p : Place) → takes_blocks (spaced b p) ≡ takes_blocks p
blocks_spaced b (before_entry c) = refl
blocks_spaced b before_block = refl
blocks_spaced b after_block = refl

pub ends_spaced : (p : Place) → may_end (spaced true p) ≡ true
ends_spaced (before_entry c) = refl
ends_spaced before_block = refl
ends_spaced after_block = refl

pub ends_here : (p : Place) → takes_blocks p ≡ true → may_end p ≡ true
ends_here (before_entry b) h = cc
ends_here before_block h = refl
ends_here after_block h = refl

-- node-spaces in a place
pub run_places : (p : Place) {s r : Text} {is : List Item} → Run SpaceItems s r is → Leaves (PlaceItems p s) (PlaceItems (spaced true p) r) is
run_places p (one_run d) = place_space d
run_places p {s = s} {r = r} (more_run {t = t} {is = is} {js = js} d ds) =
    leaves_then (PlaceItems p s) (PlaceItems (spaced true p) t) (PlaceItems (spaced true p) r) is js (place_space d)
    (subst (λ (q : Place). Leaves (PlaceItems (spaced true p) t) (PlaceItems q r) js) (spaced_again true true p) (run_places (spaced true p) ds))

pub place_none : {p : Place} {s : Text} → (s ≡ [] → ⊥) → ((r : Text) → NodeSpace s r → ⊥) → ((t : Text) → s ≡ 47 ∷ 45 ∷ t → ⊥) → (all : List Item) → PlaceItems p s all → ⊥
place_none a b c all (PlaceItems.ends e) = a refl
place_none a b c all (PlaceItems.space d g) = b _ (space_of d)
place_none a b c all (PlaceItems.dropped_entry e (slashdash ls) i g) = c _ refl
place_none a b c all (PlaceItems.dropped_block e (slashdash ls) x g) = c _ refl
