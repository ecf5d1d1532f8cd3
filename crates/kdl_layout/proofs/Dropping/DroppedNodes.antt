-- After a slashdash between nodes: what the control passes over is the node that is dropped, and no other.
use Rattle.kdl_layout.proofs.Common.{◌≡◌, ◌↔◌, ◌≤◌, true, false, ◌&&◌, not, List, [], ◌∷◌, Some, refl, sym, ap, subst, ◌∙◌, length, arith, and_parts, Text, Star, plus, NodeSpace, Break, LineSpace, slashdash, join, star_end, end_length, node_space_end, node_space_shorter, untyped, typed, between, Token, newline, semicolon, BeginsToken, t_space, t_newline, t_slashdash, t_string, t_semicolon, Lexes, done, next, token_det, no_token, Terminator, IsNode, named, no_gap, line_space, dropped_node, AreNodes, last_gap, node_then, Item, piece, ItemEnd, EndsTight, GapItems, EndsNowhere, moved, follows_word, at_end, Goal, for_node, End, returned, ended, returns, over, word, goes_on, stops, goes, NodePasses, Control, at, step, finish, accepts, is_gap, is_over, is_word, NoKey, NodeSlashdash, InNode, Fresh, Later}
use Rattle.kdl_text.specs.Chars.Star.{none as no_star, more}
use Rattle.kdl_entry.specs.Entries.{string as a_string'}
use Rattle.kdl_grammar.specs.Data.{Node, Nodes}
use Rattle.kdl_syntax.specs.Control.{held}
use Rattle.kdl_syntax.specs.declared.control.Phase.TheVariants.{Gap}
use Rattle.kdl_grammar.proofs.Reading.Sound.{derives}
use Rattle.kdl_layout.specs.Internal.Passing.{before, Stops, ends, Passes}
use Rattle.kdl_layout.proofs.Dropping.Paths.{Tail, before_block, after_block, at_brace, halts_nodes, Back, Here, node_on, over_node, drop_node, tail_spaces}
use Rattle.kdl_layout.proofs.Listing.SpaceItems.{line_space_of, dash_no_line}

-- a string that may be a key is not over
pub over_word : (c : Control) → is_over c ≡ true → is_word c ≡ true → ⊥
over_word (at (InNode (Fresh NoKey)) []) a b = cc
over_word (at (InNode Later) []) a b = cc
over_word _ a b = cc

-- where the control ends it goes on over no token, and ends in one way
pub stays : {g : Goal} {c : Control} {last s r : Text} {k : Token} {e : End} → Stops g c last s e → BeginsToken s k r → goes_on g c k ≡ true → ⊥
stays {c = c} {k = k} (returns t f) u h = let d = token_det t u in let x : held is_gap (step c k) ≡ true = ap (λ (j : Token). held is_gap (step c j)) (sym d.1) ∙ ap (held is_gap) f in cc
stays (ends z f) u h = no_token u
stays (over x) u h = cc
stays (word w at_end) u h = no_token u
stays {c = c} {k = k} (word w (before t f)) u h = let d = token_det t u in let x = (and_parts (not (is_over c)) (not (is_word c && not (follows_word k))) h).1 in cc

stops_det : {g : Goal} {c : Control} {last s : Text} {e e' : End} → Stops g c last s e → Stops g c last s e' → e ≡ e'
stops_det (returns t f) (returns u g) = let d = token_det t u in cc
stops_det (returns t f) (ends z g) = absurd (no_token t)
stops_det (ends z g) (returns t f) = absurd (no_token t)
stops_det (ends z g) (ends y f) = refl
stops_det (over x) (over y) = refl
stops_det {c = c} (over x) (word w i) = absurd (over_word c x w)
stops_det {c = c} (word w i) (over x) = absurd (over_word c x w)
stops_det (word w i) (word v j) = refl

-- over one token
pub turn_back : {g : Goal} {c d : Control} {last s r : Text} {k : Token} {e : End} → BeginsToken s k r → step c k ≡ Some d → goes_on g c k ≡ true → Passes g c last s e → Passes g d (moved k last r) r e
turn_back t f h (stops x) = absurd (stays x t h)
turn_back {g = g} {d = d} {last = last} {r = r} {k = k} {e = e} t f h (goes {d = d'} {r = r'} {k = k'} u f' i p) =
    let x = token_det t u in
    let same : d' ≡ d = cc in
    let p1 = subst (λ (a : Control). Passes g a (moved k' last r') r' e) same p in
    let p2 = subst (λ (j : Token). Passes g d (moved j last r') r' e) (sym x.1) p1 in
    subst (λ (a : Text). Passes g d (moved k last a) a e) (sym x.0) p2

-- the control passes over a text in one way at most
pub passes_det : {g : Goal} {c : Control} {last s : Text} {e e' : End} → Passes g c last s e → Passes g c last s e' → e ≡ e'
passes_det (stops x) (stops y) = stops_det x y
passes_det (stops x) (goes t f h p) = absurd (stays x t h)
passes_det (goes t f h p) (stops x) = absurd (stays x t h)
passes_det (goes t f h p) (goes u i j q) = passes_det p (turn_back t f h (goes u i j q))

-- after the name of a node a terminator leads between nodes, and the text may end
pub tail_ends : {c : Control} → Tail [] c → (step c semicolon ≡ Some (at Gap [])) × (step c newline ≡ Some (at Gap [])) × (is_gap c ≡ false) × (finish c ≡ true)
tail_ends before_block = (refl, refl, refl, refl)
tail_ends after_block = (refl, refl, refl, refl)

end_token : {u v e : Text} → ItemEnd u v e → (k : Token) × BeginsToken u k v × ((c : Control) → Tail [] c → step c k ≡ Some (at Gap []))
end_token ItemEnd.semicolon = (semicolon, t_semicolon, λ c q. (tail_ends q).0)
end_token (ItemEnd.line n) = (newline, t_newline n, λ c q. (tail_ends q).1)

-- the tokens of a text are accepted
pub data Accepted (c : Control) (s : Text) : Type 0 where
  accepted : {ks : List Token} → Lexes s ks → accepts c ks ≡ true → Accepted c s

pub token_first : {c d : Control} {s r : Text} {k : Token} → BeginsToken s k r → step c k ≡ Some d → Accepted d r → Accepted c s
token_first t e (accepted {ks = ks} l f) = accepted (next t l) (ap (held (λ (c : Control). accepts c ks)) e ∙ f)

pub accepted_back : Back (λ c last s. Accepted c s)
accepted_back c d last s r k t e g o w x = token_first t e x

all_here : Here (λ c last s. Accepted c s) []
all_here p d last s r k t e g x = token_first t e x

pub derived : {s : Text} → Accepted (at Gap []) s → (xs : Nodes) × AreNodes true s [] xs
derived (accepted l f) = derives l f

line_accepted : {s r : Text} → LineSpace s r → Accepted (at Gap []) r → Accepted (at Gap []) s
line_accepted (LineSpace.space n) a = token_first (t_space n) refl a
line_accepted (LineSpace.«break» n) a = token_first (t_newline n) refl a

-- an item's end leads between nodes
end_accepted : {u v e : Text} {c : Control} → ItemEnd u v e → Tail [] c → Accepted (at Gap []) v → Accepted c u
end_accepted {c = c} e q a = let k = end_token e in token_first k.1 (k.2 c q) a

-- what a gap to the end of the text is cut into may come between nodes
gap_accepted : {s : Text} {is : List Item} → GapItems s is → Accepted (at Gap []) s
gap_accepted GapItems.none = accepted done refl
gap_accepted (GapItems.space n g) = line_accepted (line_space_of n) (gap_accepted g)
gap_accepted (GapItems.dropped_node (slashdash {s = s} ls) x e g) =
    let a = gap_accepted g in
    token_first t_slashdash refl (drop_node (λ c last s. Accepted c s) accepted_back ls x all_here (λ c w q x' ws. end_accepted e q a) s)
gap_accepted (GapItems.last_node (slashdash {s = s} ls) x tight ss g) =
    token_first t_slashdash refl (drop_node (λ c last s. Accepted c s) accepted_back ls x all_here (λ c w q x' ws. tail_spaces (λ c last s. Accepted c s) accepted_back {last = w} q ss all_here (λ c' q'. accepted done (tail_ends q').3)) s)

-- what the control passes over may come before what may come between nodes
returned_accepted : {c : Control} {last s u v : Text} {k : Token} → NodePasses c last s (returned k u v) → Accepted (at Gap []) v → Accepted c s
returned_accepted (stops (returns t e)) a = token_first t e a
returned_accepted (goes t e g p) a = token_first t e (returned_accepted p a)

ended_accepted : {c : Control} {last s w : Text} → NodePasses c last s (ended w) → Accepted c s
ended_accepted (stops (ends g e)) = accepted done e
ended_accepted (goes t e g p) = token_first t e (ended_accepted p)

node_back : (e : End) → Back (λ c last s. NodePasses c last s e)
node_back e c d last s r k t f g o w p = goes t f (node_on c k f g) p

-- over a node with its terminator the control passes
pub passes_node : {t t' u v e : Text} {x : Node} → Star LineSpace t t' → IsNode true t' u x → ItemEnd u v e → (k : Token) × NodePasses (at NodeSlashdash []) t t (returned k u v)
passes_node {t = t} {u = u} {v = v} ls x i =
    let k = end_token i in let e = returned k.0 u v in
    (k.0, drop_node (λ c last s. NodePasses c last s e) (node_back e) ls x (over_node e) (λ c w q x' ws. stops (returns k.1 (k.2 c q))) t)

-- or over one at the end of the text, whose last node-spaces begin at w
abbrev pub PassesLast : Text → Text → Node → Control → Text → Text → Type 0
PassesLast t u x c last s = (w : Text) × IsNode true t w x × Star NodeSpace w u × NodePasses c last s (ended w)

pub passes_last : {t t' u : Text} {x : Node} → Star LineSpace t t' → IsNode true t' u x → Star NodeSpace u [] → PassesLast t' u x (at NodeSlashdash []) t t
passes_last {t = t} {t' = t'} {u = u} {x = y} ls x ss =
    let here : Here (PassesLast t' u y) [] = λ p d last s r k t e g p'. (p'.0, p'.1, p'.2, goes t e (node_on (at p []) k e g) p'.3) in
    drop_node (PassesLast t' u y) (λ c d last s r k t e g o w p. (p.0, p.1, p.2, goes t e (node_on c k e g) p.3)) ls x here
    (λ c w q x' ws. tail_spaces (PassesLast t' u y) (λ c d last s r k t e g o w p. (p.0, p.1, p.2, goes t e (node_on c k e g) p.3)) q ss here (λ c' q'. (w, x', ws, stops (ends (tail_ends q').2 (tail_ends q').3)))) t

-- there are no node-spaces where the node ends tight
pub tight_same : {t u w : Text} {x : Node} → EndsTight t u → IsNode true t w x → Star NodeSpace w u → w ≡ u
tight_same tight x no_star = refl
tight_same tight x (more n ss) = absurd (tight _ _ x (plus n ss))

-- a gap that begins with a slashdash begins with a dropped node
pub data DroppedItems (t : Text) : List Item → Type 0 where
  with_end : {t' u v e : Text} {x : Node} {is : List Item} → Star LineSpace t t' → IsNode true t' u x → ItemEnd u v e → GapItems v is → DroppedItems t (piece (between (47 ∷ 45 ∷ t) e) ∷ is)
  at_last : {t' u : Text} {x : Node} {is : List Item} → Star LineSpace t t' → IsNode true t' u x → EndsTight t' u → Star NodeSpace u [] → GapItems u is → DroppedItems t (piece (between (47 ∷ 45 ∷ t) u) ∷ is)

no_dash_node : {t r : Text} {x : Node} → IsNode true (47 ∷ 45 ∷ t) r x → ⊥
no_dash_node (named untyped (a_string' p e) d) = let e = (token_det (t_string p) t_slashdash).1 in cc
no_dash_node (named (typed y ss) z d) = elim y [ ]

pub dash_items : {t : Text} {is : List Item} → GapItems (47 ∷ 45 ∷ t) is → DroppedItems t is
dash_items (GapItems.space n g) = absurd (dash_no_line (slashdash no_star) (line_space_of n))
dash_items (GapItems.dropped_node (slashdash ls) x e g) = with_end ls x e g
dash_items (GapItems.last_node (slashdash ls) x tight ss g) = at_last ls x tight ss g

-- nodes that begin with a slashdash begin with a dropped node: it has an item's end, or ends with the text
pub data DroppedThen (t : Text) (xs : Nodes) : Type 0 where
  then_nodes : {t' u v e : Text} {x : Node} → Star LineSpace t t' → IsNode true t' u x → ItemEnd u v e → AreNodes true v [] xs → DroppedThen t xs
  then_none : {t' : Text} {x : Node} → Star LineSpace t t' → IsNode true t' [] x → AreNodes true [] [] xs → DroppedThen t xs

dropped_then : {t t' u v : Text} {x : Node} {xs : Nodes} → Star LineSpace t t' → IsNode true t' u x → Terminator u v → AreNodes true v [] xs → DroppedThen t xs
dropped_then ls x Terminator.semicolon ds = then_nodes ls x ItemEnd.semicolon ds
dropped_then ls x (Terminator.newline n) ds = then_nodes ls x (ItemEnd.line (Break.newline n)) ds
dropped_then ls x (Terminator.comment n) ds = then_nodes ls x (ItemEnd.line (Break.comment n)) ds
dropped_then ls x Terminator.at_end ds = then_none ls x ds
dropped_then ls x Terminator.at_close ds = let e = halts_nodes at_brace ds in cc

pub dash_nodes : {t : Text} {xs : Nodes} → AreNodes true (47 ∷ 45 ∷ t) [] xs → DroppedThen t xs
dash_nodes (last_gap (line_space n g)) = absurd (dash_no_line (slashdash no_star) n)
dash_nodes (last_gap (dropped_node (slashdash ls) x e g)) = dropped_then ls x e (last_gap g)
dash_nodes (node_then no_gap x e ds) = absurd (no_dash_node x)
dash_nodes (node_then (line_space n g) x e ds) = absurd (dash_no_line (slashdash no_star) n)
dash_nodes (node_then (dropped_node (slashdash ls) y e' g) x e ds) = dropped_then ls y e' (node_then g x e ds)

item_end_det : {u v w e f : Text} → ItemEnd u v e → ItemEnd u w f → e ≡ f
item_end_det ItemEnd.semicolon ItemEnd.semicolon = refl
item_end_det ItemEnd.semicolon (ItemEnd.line n) = let e = (token_det (t_newline n) t_semicolon).1 in cc
item_end_det (ItemEnd.line n) ItemEnd.semicolon = let e = (token_det (t_newline n) t_semicolon).1 in cc
item_end_det (ItemEnd.line n) (ItemEnd.line m) = refl

module _ {t u v e : Text} {k : Token} (p : NodePasses (at NodeSlashdash []) t t (returned k u v)) (i : ItemEnd u v e) where
  returned_on : {is : List Item} → DroppedItems t is → (js : List Item) × (is ≡ piece (between (47 ∷ 45 ∷ t) e) ∷ js) × GapItems v js
  returned_on (with_end {u = u'} {v = v'} {e = e'} {is = js} ls x j g) =
      let q = passes_node ls x j in
      let d = passes_det q.1 p in
      let a : u' ≡ u = cc in
      let b : v' ≡ v = cc in
      let c = item_end_det (subst (λ (z : Text). ItemEnd z v' e') a j) i in
      (js, ap (λ (z : Text). piece (between (47 ∷ 45 ∷ t) z) ∷ js) c, subst (λ (z : Text). GapItems z js) b g)
  returned_on (at_last ls x tight ss g) = let q = passes_last ls x ss in let d = passes_det q.3 p in cc

  returned_back : {js : List Item} → GapItems v js → GapItems (47 ∷ 45 ∷ t) (piece (between (47 ∷ 45 ∷ t) e) ∷ js)
  returned_back {js = js} g = go (dash_nodes (derived (token_first t_slashdash refl (returned_accepted p (gap_accepted g)))).1)
    where
      go : {xs : Nodes} → DroppedThen t xs → GapItems (47 ∷ 45 ∷ t) (piece (between (47 ∷ 45 ∷ t) e) ∷ js)
      go (then_nodes {t' = t'} {u = u'} {x = y} ls x j ds) =
          let d = passes_det (passes_node ls x j).1 p in
          let a : u' ≡ u = cc in
          GapItems.dropped_node (slashdash ls) (subst (λ (z : Text). IsNode true t' z y) a x) i g
      go (then_none ls x ds) = let d = passes_det (passes_last ls x no_star).3 p in cc

-- a node that the control passes over to its terminator is dropped: the items are this piece, and those after the terminator
pub node_returned : {t u v e : Text} {k : Token} → NodePasses (at NodeSlashdash []) t t (returned k u v) → ItemEnd u v e → (is : List Item) → GapItems (47 ∷ 45 ∷ t) is ↔ ((js : List Item) × (is ≡ piece (between (47 ∷ 45 ∷ t) e) ∷ js) × GapItems v js)
node_returned {t = t} p i is = (λ g. returned_on p i (dash_items g), λ w. subst (λ (z : List Item). GapItems (47 ∷ 45 ∷ t) z) (sym w.1) (returned_back p i w.2))

-- node-spaces leave no more than they begin
spaces_length : {s r : Text} → Star NodeSpace s r → length r ≤ length s
spaces_length ss = end_length (star_end (λ u v. node_space_end) ss)

module _ {t w : Text} (p : NodePasses (at NodeSlashdash []) t t (ended w)) where
  ended_tight : {t' : Text} → Star LineSpace t t' → Star NodeSpace w [] → EndsTight t' w
  ended_tight ls ws w' x y (plus n m) =
      let q = passes_last ls y (join (more n m) ws) in
      let d = passes_det q.3 p in
      let a : q.0 ≡ w = cc in
      omega (arith, ap length a, spaces_length q.2, node_space_shorter n, spaces_length m)

  same_end : {t' u w' : Text} {x : Node} {is : List Item} → w' ≡ w → IsNode true t' w' x → EndsTight t' u → Star NodeSpace w' u → GapItems u is → (js : List Item) × (piece (between (47 ∷ 45 ∷ t) u) ∷ is ≡ piece (between (47 ∷ 45 ∷ t) w) ∷ js) × GapItems w js
  same_end {is = is} a x tight no_star g = (is, ap (λ (z : Text). piece (between (47 ∷ 45 ∷ t) z) ∷ is) a, subst (λ (z : Text). GapItems z is) a g)
  same_end a x tight (more n m) g = absurd (tight _ _ x (plus n m))

  ended_on : {is : List Item} → DroppedItems t is → (js : List Item) × (is ≡ piece (between (47 ∷ 45 ∷ t) w) ∷ js) × GapItems w js
  ended_on (with_end ls x j g) = let d = passes_det (passes_node ls x j).1 p in cc
  ended_on (at_last ls x tight ss g) =
      let q = passes_last ls x ss in
      let d = passes_det q.3 p in
      let a : q.0 ≡ w = cc in
      same_end a q.1 tight q.2 g

  ended_back : {js : List Item} → GapItems w js → GapItems (47 ∷ 45 ∷ t) (piece (between (47 ∷ 45 ∷ t) w) ∷ js)
  ended_back {js = js} g = go (dash_nodes (derived (token_first t_slashdash refl (ended_accepted p))).1)
    where
      go : {xs : Nodes} → DroppedThen t xs → GapItems (47 ∷ 45 ∷ t) (piece (between (47 ∷ 45 ∷ t) w) ∷ js)
      go (then_nodes ls x j ds) = let d = passes_det (passes_node ls x j).1 p in cc
      go (then_none {t' = t'} {x = y} ls x ds) =
          let q = passes_last ls x no_star in
          let d = passes_det q.3 p in
          let a : q.0 ≡ w = cc in
          let ws = subst (λ (z : Text). Star NodeSpace z []) a q.2 in
          GapItems.last_node (slashdash ls) (subst (λ (z : Text). IsNode true t' z y) a q.1) (ended_tight ls ws) ws g

-- so is one that it passes over to the end of the text: the items are this piece, and those of the node-spaces after it
pub node_ended : {t w : Text} → NodePasses (at NodeSlashdash []) t t (ended w) → (is : List Item) → GapItems (47 ∷ 45 ∷ t) is ↔ ((js : List Item) × (is ≡ piece (between (47 ∷ 45 ∷ t) w) ∷ js) × GapItems w js)
node_ended {t = t} p is = (λ g. ended_on p (dash_items g), λ x. subst (λ (z : List Item). GapItems (47 ∷ 45 ∷ t) z) (sym x.1) (ended_back p x.2))

-- where it passes over no node, the text is no gap
pub node_refused : {t : Text} → EndsNowhere for_node (at NodeSlashdash []) t → (is : List Item) → GapItems (47 ∷ 45 ∷ t) is → ⊥
node_refused {t = t} refused is g = go (dash_items g)
  where
    go : {is : List Item} → DroppedItems t is → ⊥
    go (with_end ls x j g) = refused _ (passes_node ls x j).1
    go (at_last ls x tight ss g) = refused _ (passes_last ls x ss).3
