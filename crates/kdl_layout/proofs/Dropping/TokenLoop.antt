-- The turns of the loops that pass over what a slashdash drops, token by token.
use Rattle.kdl_layout.proofs.Common.{◌≡◌, ◌↔◌, ◌⊎◌, inl, inr, ℕ, ◌<◌, Bool, true, false, ◌&&◌, not, List, [], ◌∷◌, ◌++◌, length, Option, Some, None, refl, sym, ap, subst, ◌∙◌, arith, append_assoc, if◌then◌else◌, ◌+◌, ◌-◌, ◌≤◌, Bor, length-append, and-false, and_parts, then_some, Text, Star, plus, Here, bytes, Moves, NodeSpace, Break, bytes-append, star_end, end_length, node_space_end, node_space_shorter, Cuts, one, spaces, kind_view, HandsOut, Token, space, newline, semicolon, t_space, BeginsToken, NoToken, t_semicolon, token_det, no_token, Ended, ItemEnd, Place, before_entry, before_block, after_block, Item, line_end, GapItems, chars, IsUtf8, between, TokenKind, is_between, EndsNode, of_spaces, moved, follows_word, EndsWord, at_end, Goal, for_node, for_part, End, returned, ended, returns, over, word, goes_on, stops, goes, slashdash_in, EndsAt, EndsNowhere, AnswersDroppedPart, Ending, Cut, Control, at, step, finish, is_gap, is_over, is_block, is_word, NodeSlashdash, TypeDone, InNode, Fresh, Spaced, Later, ended_view}
use Rattle.kdl_text.specs.Chars.Star.{none as no_star, more}
use Rattle.kdl_syntax.specs.declared.lexer.Token.{Token as CodeToken}
use Rattle.kdl_syntax.proofs.Lexing.TokenUnique.{token_shorter}
use Rattle.kdl_syntax.specs.Control.{held}
use Rattle.kdl_syntax.specs.declared.control.{Frame.TheVariants.Node as NodeBlock, Phase.Phase, Frame.Frame, Word.TheVariants.MayBeKey, Owner.TheVariants.Value as OfValue}
use Rattle.kdl_syntax.specs.declared.control.Phase.TheVariants.{Gap}
use Rattle.kdl_syntax.specs.declared.control.Ended.TheVariants.{Entry}
use Rattle.kdl_layout.specs.Internal.Passing.{before, part_end, ends, Passes}
use Rattle.kdl_layout.specs.Internal.Passed.{Before, AnswersDroppedNode}
use Rattle.kdl_layout.proofs.Dropping.DroppedNodes.{stays, turn_back, node_refused}
use Rattle.kdl_text.proofs.Looking.Texts.{bytes-chars}
use Rattle.kdl_syntax.specs.declared.lexer.TokenKind.TheVariants.{Semicolon}
use Rattle.kdl_layout.specs.declared.spaces.Ending.TheVariants.{Before as EndsBefore}
use Rattle.kdl_layout.proofs.Listing.Starts.{newline_cut}

-- the terminator of a node
a_semicolon : (k : TokenKind) → kind_view k ≡ semicolon → k ≡ Semicolon
a_semicolon Semicolon e = refl
a_semicolon _ e = absurd cc

-- the texts before and after a place, by the bytes of both
pub len_before : (bs ds : List ℕ) (p : Text) → IsUtf8 bs → IsUtf8 ds → chars bs ≡ p ++ chars ds → (length ds ≤ length bs) × (bytes p ≡ length bs - length ds)
len_before bs ds p u v e =
    let n : length bs ≡ bytes p + length ds = sym (bytes-chars bs u) ∙ ap bytes e ∙ bytes-append p (chars ds) ∙ ap (λ (k : ℕ). bytes p + k) (bytes-chars ds v) in
    (omega (arith, n), omega (arith, n))

-- the end of a node: a `;`
pub semicolon_end : {s r : Text} {k : Token} (y : Bor (List ℕ)) → Cuts s k r → k ≡ semicolon → chars y.now ≡ r → ItemEnd s r r × EndsNode r s (EndsBefore y)
semicolon_end y (one t_semicolon) e h = (ItemEnd.semicolon, EndsNode.semicolon h)
semicolon_end y _ e h = absurd cc

-- what comes after a line's text
line_parts : (s u f e : Text) → u ≡ s → u ≡ f ++ e → e ≡ line_end u → (s ≡ f ++ e) × (e ≡ line_end s)
line_parts s u f e x y z = (sym x ∙ y, z ∙ ap line_end x)

pub line_before : (bs ds : List ℕ) (s u f x : Text) (n : ℕ) → IsUtf8 bs → IsUtf8 ds → Before (chars bs) n s → ((p q : Text) → chars bs ≡ p ++ q → bytes p ≡ n → (x ≡ p) × (u ≡ q)) → u ≡ f ++ chars ds → chars ds ≡ line_end u
    → (length ds ≤ length bs) × Before (chars bs) (length bs - length ds) (line_end s)
line_before bs ds s u f x n v w (p, e, m) h y z =
    let a = line_parts s u f (chars ds) (h p s e m).1 y z in
    let g : chars bs ≡ (p ++ f) ++ chars ds = e ∙ ap (λ (q : Text). p ++ q) a.0 ∙ sym (append_assoc p f (chars ds)) in
    let l = len_before bs ds (p ++ f) v w g in
    (l.0, (p ++ f, g ∙ ap (λ (q : Text). (p ++ f) ++ q) a.1, l.1))

-- or a newline, or a line comment
pub break_end : (s r : Text) (k : TokenKind) → Cuts s (kind_view k) r → (kind_view k ≡ newline) ⊎ (kind_view k ≡ semicolon) → (k ≡ Semicolon → ⊥) → Break s r
break_end s r k c (inl e) f = newline_cut c e
break_end s r k c (inr e) f = absurd (f (a_semicolon k e))

-- after `/-`
pub after_dash : (s t x b : Text) → s ≡ 47 ∷ 45 ∷ t → ((p r : Text) → s ≡ p ++ r → bytes p ≡ 2 → (x ≡ p) × (b ≡ r)) → s ≡ 47 ∷ 45 ∷ b
after_dash s t x b e h = e ∙ ap (λ (z : Text). 47 ∷ 45 ∷ z) (sym (h (47 ∷ 45 ∷ []) t e refl).1)

-- up to the end of what is dropped
pub record PieceOf (bs ds : List ℕ) (i : Text) : Type 0 where
  pub front : Text
  pub text : chars bs ≡ front ++ chars ds
  pub len : bytes front ≡ length bs - length ds
  pub most : length ds ≤ length bs
  pub rest : chars ds ≡ i

pub piece_of : (bs ds : List ℕ) (b i x : Text) (n : ℕ) → IsUtf8 bs → IsUtf8 ds → chars bs ≡ 47 ∷ 45 ∷ b → Before b n i → ((p r : Text) → b ≡ p ++ r → bytes p ≡ n → (x ≡ p) × (chars ds ≡ r)) → PieceOf bs ds i
piece_of bs ds b i x n u v e (p, f, m) h =
    let y = (h p i f m).1 in
    let g : chars bs ≡ (47 ∷ 45 ∷ p) ++ chars ds = e ∙ ap (λ (z : Text). 47 ∷ 45 ∷ z) (f ∙ ap (λ (z : Text). p ++ z) (sym y)) in
    let l = len_before bs ds (47 ∷ 45 ∷ p) u v g in
    record { front = 47 ∷ 45 ∷ p; text = g; len = l.1; most = l.0; rest = y }

pub piece_cut : (bs ds : List ℕ) (i : Text) → PieceOf bs ds i → Cut (chars bs) (length bs - length ds)
piece_cut bs ds i p = (p.front, chars ds, p.text, p.len)

pub piece_between : (bs ds : List ℕ) (b i node y : Text) → PieceOf bs ds i → chars bs ≡ 47 ∷ 45 ∷ b → ((p r : Text) → chars bs ≡ p ++ r → bytes p ≡ length bs - length ds → (node ≡ p) × (y ≡ r)) → node ≡ between (47 ∷ 45 ∷ b) i
piece_between bs ds b i node y p e h =
    (h p.front (chars ds) p.text p.len).0 ∙ is_between (47 ∷ 45 ∷ b) i p.front (sym e ∙ p.text ∙ ap (λ (z : Text). p.front ++ z) p.rest)

pub before_shorter : (s b r : Text) (n : ℕ) → s ≡ 47 ∷ 45 ∷ b → Before b n r → length r < length s
before_shorter s b r n e (p, f, m) = omega (arith, ap length e, ap length f, length-append p r)

pub no_node : (s b : Text) → s ≡ 47 ∷ 45 ∷ b → AnswersDroppedNode b None → (all : List Item) → GapItems s all → ⊥
no_node s b e f all g = node_refused f all (subst (λ (z : Text). GapItems z all) e g)

-- of where a step leads, if it leads anywhere
abbrev pub Of : (Control → Type 0) → Option Control → Type 0
Of P None = Unit {0}
Of P (Some d) = P d

-- after a space the control takes more of them, and stays what it is; nothing ends there
space_turn : (c : Control) → Of (λ d. (step d space ≡ Some d) × (is_over c ≡ false → is_over d ≡ false)) (step c space)
space_turn (at Gap fs) = (refl, λ o. refl)
space_turn (at (InNode (Fresh b)) fs) = (refl, λ o. refl)
space_turn (at (InNode (Spaced b)) fs) = (refl, λ o. refl)
space_turn (at (InNode Later) fs) = (refl, λ o. o)
space_turn _ = (refl, λ o. refl)

pub is_not : (b : Bool) → not b ≡ true → b ≡ false
is_not true e = cc
is_not false e = refl

spaced_turn : (g : Goal) (c : Control) {d : Control} → step c space ≡ Some d → goes_on g c space ≡ true → (step d space ≡ Some d) × (goes_on g d space ≡ true)
spaced_turn g c {d} f h = go g (subst (Of (λ d. (step d space ≡ Some d) × (is_over c ≡ false → is_over d ≡ false))) f (space_turn c)) h
  where
    go : (g : Goal) → (step d space ≡ Some d) × (is_over c ≡ false → is_over d ≡ false) → goes_on g c space ≡ true → (step d space ≡ Some d) × (goes_on g d space ≡ true)
    go for_node (e, o) h = (e, ap (λ (x : Option Control). not (held is_gap x)) (e ∙ sym f) ∙ h)
    go for_part (e, o) h = (e, rw (o (is_not (is_over c) (and_parts (not (is_over c)) (not (is_word c && false)) h).0), and-false (is_word d)) refl)

-- only a terminator leads between the nodes again
to_gap : (k : Token) (fs : List Frame) (p : Phase) → is_gap (at p fs) ≡ false → held is_gap (step (at p fs) k) ≡ true → (k ≡ newline) ⊎ (k ≡ semicolon)
to_gap newline fs p g e = inl refl
to_gap semicolon fs p g e = inr refl
to_gap k (NodeBlock ∷ fs) Gap g e = absurd cc
to_gap k fs (InNode (Fresh MayBeKey)) g e = absurd cc
to_gap k fs (InNode (Spaced MayBeKey)) g e = absurd cc
to_gap k fs (TypeDone OfValue) g e = absurd cc
to_gap k fs p g e = absurd cc

pub gap_turn : (c : Control) (k : Token) → is_gap c ≡ false → held is_gap (step c k) ≡ true → (k ≡ newline) ⊎ (k ≡ semicolon)
gap_turn (at p fs) k g e = to_gap k fs p g e

gap_is : (d : Control) → is_gap d ≡ true → d ≡ at Gap []
gap_is (at Gap []) e = refl
gap_is _ e = absurd cc

-- over a run of spaces
module _ {g : Goal} {c : Control} (f : step c space ≡ Some c) (h : goes_on g c space ≡ true) {last : Text} {e : End} where
  run_there : {s r : Text} → Star NodeSpace s r → Passes g c last r e → Passes g c last s e
  run_there no_star p = p
  run_there (more n m) p = goes (t_space n) f h (run_there m p)

  run_back : {s r : Text} → Star NodeSpace s r → Passes g c last s e → Passes g c last r e
  run_back no_star p = p
  run_back (more n m) p = run_back m (turn_back (t_space n) f h p)

-- over the token that the lexer hands out
cut_turn : {g : Goal} {c d : Control} {last s r : Text} {k : Token} → Cuts s k r → step c k ≡ Some d → goes_on g c k ≡ true → (e : End) → Passes g c last s e ↔ Passes g d (moved k last r) r e
cut_turn (one t) f h e = (λ p. turn_back t f h p, λ p. goes t f h p)
cut_turn {g = g} {c = c} (spaces (plus n m)) f h e = let (y, i) = spaced_turn g c f h in (λ p. run_back y i m (turn_back (t_space n) f h p), λ p. goes (t_space n) f h (run_there y i m p))

first_token : {s r : Text} {k : Token} → Cuts s k r → (u : Text) × BeginsToken s k u
first_token (one t) = (_, t)
first_token (spaces (plus n m)) = (_, t_space n)

-- where a token is refused, or none begins, the control comes to no end
refused : {g : Goal} {c : Control} {last s r : Text} {k : Token} {e : End} → BeginsToken s k r → step c k ≡ None → goes_on g c k ≡ true → Passes g c last s e → ⊥
refused t f h (stops x) = stays x t h
refused t f h (goes u f' i p) = let x = token_det t u in cc

-- what is dropped ends here
abbrev is_end : Goal → Control → Bool
is_end for_node c = is_gap c
is_end for_part c = is_over c

nothing_begins : {g : Goal} {c : Control} {last s : Text} {e : End} → is_end g c ≡ false → NoToken s → Passes g c last s e → ⊥
nothing_begins o n (stops (returns t f)) = n.none _ _ t
nothing_begins o n (stops (ends z h)) = n.begun refl
nothing_begins o n (stops (over x)) = cc
nothing_begins o n (stops (word w at_end)) = n.begun refl
nothing_begins o n (stops (word w (before t f))) = n.none _ _ t
nothing_begins o n (goes t f h p) = n.none _ _ t

-- the place after a token
then_before : (t : Text) (old new : Here) → Before t old.at old.rest → Moves old new → Before t new.at new.rest
then_before t old new (p, e, n) m =
    let q = m.piece.0 in
    (p ++ q, e ∙ ap (λ (z : Text). p ++ z) m.piece.1 ∙ sym (append_assoc p q new.rest), omega (arith, bytes-append p q, n, m.at, ap bytes m.piece.1, bytes-append q new.rest))

moved_before : (b : Bool) {t last r : Text} {n m : ℕ} → Before t n last → Before t m r → Before t (if b then n else m) (if b then last else r)
moved_before true a b = a
moved_before false a b = b

pub cut_shorter : {s r : Text} {k : Token} → Cuts s k r → length r < length s
cut_shorter (one t) = token_shorter t
cut_shorter (spaces (plus n m)) = omega (arith, node_space_shorter n, end_length (star_end (λ u v. node_space_end) m))

-- the lexer is in the text t, over which the control passes as from here on; the last token that is no node-space ended after so many bytes
pub record Goes (g : Goal) (first : Control) (here : Here) (c : Control) (t : Text) (last : ℕ) : Type 0 where
  pub following : Text
  pub same : (e : End) → Passes g first t t e ↔ Passes g c following here.rest e
  pub counted : Before t last following
  pub text : Before t here.at here.rest
  pub under_way : is_end g c ≡ false

not_over : (p : Place) → is_over (slashdash_in p) ≡ false
not_over (before_entry b) = refl
not_over before_block = refl
not_over after_block = refl

starts : (g : Goal) (first : Control) (t : Text) (here : Here) (c : Control) → here.rest ≡ t → here.at ≡ 0 → c ≡ first → is_end g first ≡ false → Goes g first here c t 0
starts g first t here c e n h o = record { following = t; same = rw (e, h) (λ x. (λ p. p, λ p. p)); counted = ([], refl, refl); text = ([], sym e, sym n); under_way = rw h o }

pub node_starts : (t : Text) (here : Here) (c : Control) → here.rest ≡ t → here.at ≡ 0 → c ≡ at NodeSlashdash [] → Goes for_node (at NodeSlashdash []) here c t 0
node_starts t here c e n h = starts for_node (at NodeSlashdash []) t here c e n h refl

pub part_starts : (p : Place) (t : Text) (here : Here) (c : Control) → here.rest ≡ t → here.at ≡ 0 → c ≡ slashdash_in p → Goes for_part (slashdash_in p) here c t 0
part_starts p t here c e n h = starts for_part (slashdash_in p) t here c e n h (not_over p)

-- whether the control goes on
pub refused_on : (c : Control) (k : Token) → step c k ≡ None → goes_on for_node c k ≡ true
refused_on c k f = rw f refl

pub part_on : (c : Control) (k : Token) → is_over c ≡ false → (is_word c && not (follows_word k)) ≡ false → goes_on for_part c k ≡ true
part_on c k o w = rw (o, w) refl

module _ {g : Goal} {first c : Control} {t : Text} {last : ℕ} {old : Here} (x : Goes g first old c t last) where
  pub faulty : NoToken old.rest → EndsNowhere g first t
  faulty n = λ e p. nothing_begins x.under_way n ((x.same e).0 p)

  module _ {new : Here} (k : CodeToken) (h : HandsOut old k new) where
    pub refused_here : step c (kind_view k.kind) ≡ None → goes_on g c (kind_view k.kind) ≡ true → EndsNowhere g first t
    refused_here f i = λ e p. refused (first_token h.cuts).1 f i ((x.same e).0 p)

    pub same_after : {d : Control} → step c (kind_view k.kind) ≡ Some d → goes_on g c (kind_view k.kind) ≡ true → (e : End) → Passes g first t t e ↔ Passes g d (moved (kind_view k.kind) x.following new.rest) new.rest e
    same_after f i = λ e. let a = x.same e in let b = cut_turn {last = x.following} h.cuts f i e in (λ p. b.0 (a.0 p), λ p. a.1 (b.1 p))

    pub counted_after : Moves old new → Before t (if of_spaces (kind_view k.kind) then last else k.at.end.at) (moved (kind_view k.kind) x.following new.rest)
    counted_after m = moved_before (of_spaces (kind_view k.kind)) x.counted (subst (λ (n : ℕ). Before t n new.rest) (sym h.end_at) (then_before t old new x.text m))

    pub goes_further : {d : Control} → Moves old new → step c (kind_view k.kind) ≡ Some d → goes_on g c (kind_view k.kind) ≡ true → is_end g d ≡ false → Goes g first new d t (if of_spaces (kind_view k.kind) then last else k.at.end.at)
    goes_further m f i o = record { following = moved (kind_view k.kind) x.following new.rest; same = same_after f i; counted = counted_after m; text = then_before t old new x.text m; under_way = o }

    -- the terminator's places
    pub token_places : Moves old new → Before t k.at.start.at k.at.start.rest × Before t k.at.end.at k.at.end.rest
    token_places m = rw (h.start_rest, h.start_at, h.end_rest, h.end_at) (x.text, then_before t old new x.text m)

-- a node at the end of the text
at_stop : {c : Control} {last s : Text} {e : End} → s ≡ [] → finish c ≡ false → Passes for_node c last s e → ⊥
at_stop z f (stops (returns {r = r} {k = k} t h)) = no_token (subst (λ (a : Text). BeginsToken a k r) z t)
at_stop z f (stops (ends g h)) = cc
at_stop z f (goes {r = r} {k = k} t h g p) = no_token (subst (λ (a : Text). BeginsToken a k r) z t)

pub node_stops : (t : Text) (here : Here) (c : Control) (last : ℕ) → Goes for_node (at NodeSlashdash []) here c t last → here.rest ≡ [] → AnswersDroppedNode t (then_some (finish c) (last, None))
node_stops t here c last g z = go (finish c) refl
  where
    go : (b : Bool) → finish c ≡ b → AnswersDroppedNode t (then_some b (last, None))
    go false f = λ e p. at_stop z f ((g.same e).0 p)
    go true f = EndsAt.ends {w = g.following} ((g.same (ended g.following)).1 (subst (λ (a : Text). Passes for_node c g.following a (ended g.following)) (sym z) (stops (ends g.under_way f)))) g.counted refl

-- and at its terminator, in one token
last_turn : {c d : Control} {last s r : Text} {k : Token} → is_gap c ≡ false → Cuts s k r → step c k ≡ Some d → is_gap d ≡ true → Passes for_node c last s (returned k s r)
last_turn {d = d} g (one t) f h = stops (returns t (f ∙ ap Some (gap_is d h)))
last_turn {c = c} {d = d} g (spaces n) f h = ends_spaces (gap_turn c space g (ap (held is_gap) f ∙ h))
  where
    ends_spaces : {A : Type 0} → (space ≡ newline) ⊎ (space ≡ semicolon) → A
    ends_spaces (inl e) = cc
    ends_spaces (inr e) = cc

pub token_ends : {old : Here} {c d : Control} {k : Token} {t : Text} {last : ℕ} → Goes for_node (at NodeSlashdash []) old c t last → step c k ≡ Some d → is_gap d ≡ true → (k ≡ newline) ⊎ (k ≡ semicolon)
token_ends {c = c} {k = k} g f x = gap_turn c k g.under_way (ap (held is_gap) f ∙ x)

pub node_returns : (t : Text) (old new : Here) (c d : Control) (k : CodeToken) (last n : ℕ) (y : Ending) → Goes for_node (at NodeSlashdash []) old c t last → HandsOut old k new → Moves old new → step c (kind_view k.kind) ≡ Some d → is_gap d ≡ true
    → (i : Text) × ItemEnd k.at.start.rest k.at.end.rest i × Before t n i × EndsNode k.at.end.rest k.at.start.rest y → AnswersDroppedNode t (Some (n, Some y))
node_returns t old new c d k last n y g h m f x (i, j, a, o) =
    let p = (g.same (returned (kind_view k.kind) old.rest new.rest)).1 (last_turn g.under_way h.cuts f x) in
    let w = (token_places g k h m).1 in
    EndsAt.returns {k = kind_view k.kind} {u = k.at.start.rest} {v = k.at.end.rest} {i = i} w.0 (rw (h.start_rest, h.end_rest) p) j w.1 a o refl

-- a string at the end of the text, or before a token that ends it
no_word : {c : Control} {last s : Text} {e : End} → s ≡ [] → is_over c ≡ false → is_word c ≡ false → Passes for_part c last s e → ⊥
no_word z o w (stops (over x)) = cc
no_word z o w (stops (word x i)) = cc
no_word z o w (goes {r = r} {k = k} t f h p) = no_token (subst (λ (a : Text). BeginsToken a k r) z t)

a_word : (p : Place) (t : Text) (here : Here) (c : Control) (last : ℕ) → Goes for_part (slashdash_in p) here c t last → EndsWord here.rest → is_word c ≡ true → AnswersDroppedPart p t (Some (last, Entry))
a_word p t here c last g n w = (g.following, (g.same (part_end false g.following)).1 (stops (word w n)), g.counted)

pub part_stops : (p : Place) (t : Text) (here : Here) (c : Control) (last : ℕ) → Goes for_part (slashdash_in p) here c t last → here.rest ≡ [] → AnswersDroppedPart p t (then_some (is_word c) (last, Entry))
part_stops p t here c last g z = go (is_word c) refl
  where
    go : (b : Bool) → is_word c ≡ b → AnswersDroppedPart p t (then_some b (last, Entry))
    go false w = λ e x. no_word z g.under_way w ((g.same e).0 x)
    go true w = a_word p t here c last g (rw z at_end) w

pub part_word : (p : Place) (t : Text) (old new : Here) (c : Control) (k : CodeToken) (last : ℕ) → Goes for_part (slashdash_in p) old c t last → HandsOut old k new → (is_word c && not (follows_word (kind_view k.kind))) ≡ true → AnswersDroppedPart p t (Some (last, Entry))
part_word p t old new c k last g h w =
    let (x, y) = and_parts (is_word c) (not (follows_word (kind_view k.kind))) w in
    a_word p t old c last g (before (first_token h.cuts).1 (is_not (follows_word (kind_view k.kind)) y)) x

-- a value or a block
pub part_over : (p : Place) (t : Text) (old new : Here) (c d : Control) (k : CodeToken) (last n : ℕ) (b : Ended) (g : Goes for_part (slashdash_in p) old c t last) → HandsOut old k new → Moves old new → (is_word c && not (follows_word (kind_view k.kind))) ≡ false → step c (kind_view k.kind) ≡ Some d
    → n ≡ (if of_spaces (kind_view k.kind) then last else k.at.end.at) → is_over d ≡ true → ended_view b ≡ is_block d → AnswersDroppedPart p t (Some (n, b))
part_over p t old new c d k last n b g h m w f i x j =
    let u = moved (kind_view k.kind) g.following new.rest in
    (u, rw j ((same_after g k h f (part_on c (kind_view k.kind) g.under_way w) (part_end (is_block d) u)).1 (stops (over x))), rw i (counted_after g k h m))
