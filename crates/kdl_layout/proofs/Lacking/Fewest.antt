-- Fewer newlines are not enough.
use Rattle.kdl_layout.proofs.Common.{◌≡◌, ◌⊎◌, inl, inr, ℕ, zero, suc, ◌+◌, ◌-◌, ◌<◌, true, false, not, [], ◌∷◌, ◌++◌, length, List, Option, Some, None, refl, sym, ap, subst, ◌∙◌, arith, append_assoc, Text, Star, more, Ws, NodeSpace, Break, LineSpace, Slashdash, slashdash, ValueEnd, StringPiece, parens, untyped, typed, Token, BeginsToken, space, newline, t_space, t_newline, t_slashdash, t_string, t_left, token_det, no_token, Terminator, IsNode, named, AfterName, Blocks, Gap, no_gap, line_space, dropped_node, AreNodes, last_gap, node_then, AddsNothing, Anything, Terminates, Item, ItemEnd, GapItems, letter, GapRead, adding, moved, returned, NodePasses, returns, stops, goes, is_bare, is_identifier_char, is_space, is_newline_char, is_banned, is_punctuation, Control, at, is_gap, NodeSlashdash}
use Rattle.kdl_text.specs.Bare.BareString.{bare as a_bare}
use Rattle.kdl_text.specs.Chars.{none as no_star}
use Rattle.kdl_text.proofs.Spacing.SpacePieces.{line_space_shorter}
use Rattle.kdl_text.proofs.Spacing.SpaceUnique.{line_space_det}
use Rattle.kdl_entry.specs.Entries.{string as a_string'}
use Rattle.kdl_syntax.specs.Tokens as token'
use Rattle.kdl_grammar.specs.Data.{Node, node, no_children, Nodes, none, first}
use Rattle.kdl_syntax.specs.Control.{held}
use Rattle.kdl_layout.specs.Lacks.{newlines, GapLacks}
use Rattle.kdl_layout.specs.Internal.Lacking.{Fewest}
use Rattle.kdl_layout.proofs.Dropping.DroppedNodes.{turn_back, passes_det, passes_last, passes_node, DroppedThen, then_nodes, then_none, dash_nodes, tail_ends}
use Rattle.kdl_layout.proofs.Dropping.TokenLoop.{is_not, gap_turn}
use Rattle.kdl_layout.proofs.Dropping.Paths.{Halt, at_end, halts, no_node, node_on, drop_node}
use Rattle.kdl_layout.proofs.Lacking.SpaceEnds.{a_space}
use Rattle.kdl_layout.proofs.Rewriting.BeforeNewlines.{a_newline}
use Rattle.kdl_layout.proofs.Listing.PlaceTexts.{gap_has, gap_of}
use Rattle.kdl_layout.proofs.Listing.SpaceItems.{dash_no_line}

-- the node that is one letter
pub a_piece : is_bare (97 ∷ []) ≡ true
unfolding is_bare is_identifier_char is_space is_newline_char is_banned is_punctuation
a_piece = refl

abbrev pub a : Node
a = node None (97 ∷ []) [] no_children

pub letter_space : NodeSpace letter (97 ∷ [])
letter_space = NodeSpace.ws (Ws.space a_space)

a_string : StringPiece (97 ∷ []) [] (97 ∷ [])
a_string = StringPiece.bare (a_bare refl a_piece refl)

pub letter_node : AreNodes true letter [] (first a none)
letter_node =
    node_then (line_space (LineSpace.space letter_space) no_gap) (named untyped (a_string' a_string ValueEnd.nothing) (AfterName.blocks (Blocks.no_block no_star))) Terminator.at_end
    (last_gap no_gap)

pub letter_end : ValueEnd true letter
letter_end = ValueEnd.space a_space

pub some_nodes : first a none ≡ none → ⊥
some_nodes e = cc

-- nodes of an empty text, and of a text of which one token leaves nothing
pub no_nodes : {xs : Nodes} → AreNodes true [] [] xs → xs ≡ none
no_nodes (last_gap g) = refl
no_nodes (node_then g x e ds) = absurd (no_node (subst Halt (halts at_end g) at_end) x)

-- what begins nodes begins with a token
node_token : {s t u : Text} {x : Node} → Gap true s t → IsNode true t u x → (k : Token) × (r : Text) × BeginsToken s k r
node_token no_gap (named untyped (a_string' p e) d) = (_, _, t_string p)
node_token no_gap (named (typed (parens ss w us) vs) z d) = (_, _, t_left)
node_token (line_space (LineSpace.space n) g) x = (_, _, t_space n)
node_token (line_space (LineSpace.«break» b) g) x = (_, _, t_newline b)
node_token (dropped_node (slashdash ls) y e g) x = (_, _, t_slashdash)

-- past line-spaces
no_line_node : {s t u : Text} {x : Node} → LineSpace s t → IsNode true s u x → ⊥
no_line_node (LineSpace.space n) (named untyped (a_string' p e) d) = let f = (token_det (t_space n) (t_string p)).1 in cc
no_line_node (LineSpace.«break» n) (named untyped (a_string' p e) d) = let f = (token_det (t_newline n) (t_string p)).1 in cc
no_line_node (LineSpace.space n) (named (typed (parens ss w us) vs) z d) = let f = (token_det (t_space n) t_left).1 in cc
no_line_node (LineSpace.«break» n) (named (typed (parens ss w us) vs) z d) = let f = (token_det (t_newline n) t_left).1 in cc

gap_off : {s t r : Text} → LineSpace s t → (s ≡ r → ⊥) → Gap true s r → Gap true t r
gap_off n f no_gap = absurd (f refl)
gap_off {r = r} n f (line_space m g) = subst (λ (y : Text). Gap true y r) (line_space_det m n) g
gap_off n f (dropped_node m x e g) = absurd (dash_no_line m n)

nodes_off_one : {s t : Text} {xs : Nodes} → LineSpace s t → AreNodes true s [] xs → AreNodes true t [] xs
nodes_off_one n (last_gap g) = last_gap (gap_off n (λ e. omega (arith, line_space_shorter n, ap length e)) g)
nodes_off_one n (node_then no_gap x e ds) = absurd (no_line_node n x)
nodes_off_one n (node_then {t = u} (line_space m g) x e ds) = node_then (subst (λ (y : Text). Gap true y u) (line_space_det m n) g) x e ds
nodes_off_one n (node_then (dropped_node m y t g) x e ds) = absurd (dash_no_line m n)

pub nodes_off : {s t : Text} {xs : Nodes} → Star LineSpace s t → AreNodes true s [] xs → AreNodes true t [] xs
nodes_off no_star ds = ds
nodes_off (more n ns) ds = nodes_off ns (nodes_off_one n ds)

pub swallowed : {s : Text} {xs : Nodes} → ((r : Text) (k : Token) → BeginsToken s k r → LineSpace s []) → AreNodes true s [] xs → xs ≡ none
swallowed f (last_gap g) = refl
swallowed f (node_then g x t ds) = let (k, r, b) = node_token g x in no_nodes (nodes_off_one (f r k b) (node_then g x t ds))

-- past a dropped node
dash_lines : {t u : Text} → Slashdash (47 ∷ 45 ∷ t) u → Star LineSpace t u
dash_lines (slashdash ls) = ls

pub nodes_off_node : {b t u v e : Text} {x : Node} {xs : Nodes} → Slashdash (47 ∷ 45 ∷ b) t → IsNode true t u x → ItemEnd u v e → AreNodes true (47 ∷ 45 ∷ b) [] xs → AreNodes true v [] xs
nodes_off_node {b} {v = v} {xs = xs} m x i ds = go (dash_nodes ds)
  where
    go : DroppedThen b xs → AreNodes true v [] xs
    go (then_nodes {v = v'} ls z j es) =
        let d = passes_det (passes_node ls z j).1 (passes_node (dash_lines m) x i).1 in
        let a : v' ≡ v = cc in
        subst (λ (c : Text). AreNodes true c [] xs) a es
    go (then_none ls z es) = let d = passes_det (passes_last ls z no_star).3 (passes_node (dash_lines m) x i).1 in absurd cc

-- a letter after a dropped node is part of it: the control returns to no gap
abbrev NoReturn : Control → Text → Text → Type 0
NoReturn c last s = (k : Token) (u v : Text) → NodePasses c last s (returned k u v) → ⊥

-- over a token that is no terminator
over_token : {c : Control} {last s r u v : Text} {j k : Token} → BeginsToken s k r → ((k ≡ newline) ⊎ (k ≡ token'.semicolon) → ⊥) → is_gap c ≡ false → NodePasses c last s (returned j u v)
    → (d : Control) × (l : Text) × (is_gap d ≡ false) × NodePasses d l r (returned j u v)
over_token {c = c} {k = k} t other g (stops (returns {k = i} u f)) = let d = token_det u t in absurd (other (subst (λ (z : Token). (z ≡ newline) ⊎ (z ≡ token'.semicolon)) d.1 (gap_turn c i g (ap (held is_gap) f))))
over_token {last = last} {u = u'} {v = v'} {j = j} t other g (goes {d = d} {r = r'} {k = i} u f h p) =
    (d, moved i last r', is_not (is_gap d) (ap (λ (o : Option Control). not (held is_gap o)) (sym f) ∙ h), subst (λ (y : Text). NodePasses d (moved i last r') y (returned j u' v')) (token_det u t).0 p)

at_nothing : {c : Control} {last u v : Text} {k : Token} → NodePasses c last [] (returned k u v) → ⊥
at_nothing (stops (returns t f)) = no_token t
at_nothing (goes t f g q) = no_token t

space_ends : (space ≡ newline) ⊎ (space ≡ token'.semicolon) → ⊥
space_ends (inl e) = cc
space_ends (inr e) = cc

ends_node : {n : Text} → (token'.string n ≡ newline) ⊎ (token'.string n ≡ token'.semicolon) → ⊥
ends_node (inl e) = cc
ends_node (inr e) = cc

no_return : {c : Control} {last : Text} → is_gap c ≡ false → NoReturn c last letter
no_return g j u v p =
    let (c1, l1, g1, p1) = over_token (t_space letter_space) space_ends g p in
    let (c2, l2, g2, p2) = over_token (t_string a_string) ends_node g1 p1 in
    at_nothing p2

pub letter_dropped : {b t : Text} {x : Node} {xs : Nodes} → Slashdash (47 ∷ 45 ∷ b) t → IsNode true t letter x → AreNodes true (47 ∷ 45 ∷ b) [] xs → xs ≡ none
letter_dropped {b} {xs = xs} m x ds = go (dash_nodes ds)
  where
    never : NoReturn (at NodeSlashdash []) b b
    never = drop_node NoReturn (λ c d last s r k t f g o w p j u v q. p j u v (turn_back t f (node_on c k f g) q)) (dash_lines m) x (λ i d last s r k t f g p j u v q. p j u v (turn_back t f (node_on (at i []) k f g) q)) (λ c w q x' ws. no_return (tail_ends q).2) b

    go : DroppedThen b xs → xs ≡ none
    go (then_nodes ls z j es) = absurd (never _ _ _ (passes_node ls z j).1)
    go (then_none ls z es) = no_nodes es

-- the fewest newlines
pub fewest_at : (s : Text) (k m : ℕ) → suc m ≡ k → ((xs : Nodes) → AreNodes true ((s ++ newlines m) ++ letter) [] xs → xs ≡ none) → Fewest s k
fewest_at s k m e f j h xs ds =
    let i : j ≡ m = omega (arith, e, h) in
    f xs (subst (λ (n : ℕ). AreNodes true ((s ++ newlines n) ++ letter) [] xs) i ds)

pub fewest_none : (s : Text) → Fewest s 0
fewest_none s j e = absurd (omega (arith, e))

-- what holds with so many newlines holds with one more
newlines_more : (j : ℕ) (r : Text) → newlines (suc j) ++ r ≡ newlines j ++ (10 ∷ r)
newlines_more zero r = refl
newlines_more (suc j) r = ap (λ (y : Text). 10 ∷ y) (newlines_more j r)

pub one_more : (t : Text) (j : ℕ) (r : Text) → (t ++ newlines (suc j)) ++ r ≡ (t ++ newlines j) ++ (10 ∷ r)
one_more t j r = append_assoc t (newlines (suc j)) r ∙ ap (λ (y : Text). t ++ y) (newlines_more j r) ∙ sym (append_assoc t (newlines j) (10 ∷ r))

lf_first : {r z : Text} {xs : Nodes} → AreNodes true r z xs → AreNodes true (10 ∷ r) z xs
lf_first {r} (last_gap g) = last_gap (line_space (LineSpace.«break» (Break.newline (a_newline r))) g)
lf_first {r} (node_then g x e ds) = node_then (line_space (LineSpace.«break» (Break.newline (a_newline r))) g) x e ds

pub ends_more : (t : Text) (j : ℕ) → Terminates Anything (t ++ newlines j) → Terminates Anything (t ++ newlines (suc j))
ends_more t j f r s xs a e ds = let (v, m, es) = f (10 ∷ r) s xs tt e (lf_first ds) in (v, subst (λ (y : Text). Terminator y v) (sym (one_more t j r)) m, es)

pub fewer_not : (P : Text → Type 0) (t : Text) (k : ℕ) → ((j : ℕ) → P (t ++ newlines j) → P (t ++ newlines (suc j))) → ((j : ℕ) → suc j ≡ k → P (t ++ newlines j) → ⊥) → (j : ℕ) → j < k → P (t ++ newlines j) → ⊥
fewer_not P t zero m f j h p = omega (arith, h)
fewer_not P t (suc k) m f j h p = f k refl (climb (k - j) j (omega (arith, h)) p)
  where
    climb : (d j : ℕ) → j + d ≡ k → P (t ++ newlines j) → P (t ++ newlines k)
    climb zero j e p = let i : j ≡ k = omega (arith, e) in subst (λ (n : ℕ). P (t ++ newlines n)) i p
    climb (suc d) j e p = climb d (suc j) (omega (arith, e)) (m j p)

pub no_gap_items : (t : Text) → ((all : List Item) → GapItems t all → ⊥) → Gap true t [] → ⊥
no_gap_items t f g = let h = gap_has g in f h.0 h.1

pub gap_answer : (t : Text) (o : Option ℕ) (old new : Option (List Item)) → GapRead t o old new → GapLacks t o
gap_answer t None old new f = no_gap_items t f
gap_answer t (Some k) old new (adding is i g, (b, f, few)) = (b, gap_of g, (f, fewer_not AddsNothing t k (λ j f r s xs e ds. subst (λ (y : Text). AreNodes true y s xs) (sym (one_more t j r)) (f (10 ∷ r) s xs e (lf_first ds))) (λ j e p. some_nodes (few j e (first a none) (p letter [] (first a none) (inl refl) letter_node)))))
