-- What begins a text, by its first token; and with what no text begins that begins otherwise.
use Rattle.kdl_layout.proofs.Common.{◌≡◌, ℕ, true, false, Option, Some, None, List, [], ◌∷◌, ◌++◌, length, Bor, refl, sym, ap, subst, ◌∙◌, arith, ◌<◌, Bool, not, ◌==◌, if◌then◌else◌, chars, IsUtf8, is_between, Text, Plus, plus, Newline, Space, Star, begins_two, starts, Here, bytes, Moves, BlockComment, LineComment, Ws, EscEnd, NodeSpace, Break, break_shorter, star_end, end_length, block_shorter, slash_no_space, backslash_no_space, newline_begins, slash_no_newline, Cuts, one, HandsOut, kind_view, Token, BeginsToken, space, newline, t_space, t_newline, t_slashdash, TokenKind, token_det, no_token, comment, piece, line_end, EsclineItems, SpaceItems, LineSpaceItems, chars-nil, encodes-chars, and_parts, eqb-true, list_all, bytes-append, Cut, Starts, Run, found, is_newline_char}
use Rattle.kdl_text.specs.Chars.{none}
use Rattle.kdl_text.specs.Chars.Space.{space as a_space}
use Rattle.kdl_text.specs.Internal.Here.{Ate, Stayed, Skips, first}
use Rattle.kdl_text.specs.Internal.Reading.{Reads}
use Rattle.kdl_text.specs.Trivia.{block as a_block, line, escline as an_escline}
use Rattle.kdl_text.proofs.Spacing.SpacePieces.{space_end, space_shorter}
use Rattle.kdl_text.proofs.Spacing.SpaceUnique.{backslash_no_newline}
use Rattle.kdl_syntax.specs.Internal.Handed.{Alone}
use Rattle.kdl_syntax.specs.Tokens.{slashdash}
use Rattle.kdl_syntax.specs.declared.lexer.Token as code
use Rattle.kdl_syntax.specs.declared.lexer.TokenKind.TheVariants.{Space as SpaceKind, Newline as NewlineKind, Slashdash as SlashdashKind}
use Rattle.kdl_layout.specs.Internal.Passed.{Before}
use Rattle.kdl_layout.specs.Internal.Reading.{is_piece}
use Rattle.kdl_layout.specs.declared.spaces.Item.{Item}
use Rattle.kdl_layout.specs.declared.spaces.Item.TheVariants.{Comment, Piece}
use Rattle.kdl_layout.specs.declared.spaces.Start.{Start}
use Rattle.kdl_layout.specs.declared.spaces.Start.TheVariants.{Space as ASpace, Break as ABreak, Backslash, Slashdash, End, Other}
use lib.Utf8.{encodes}
use Rattle.kdl_text.specs.Chars.Star.{none as no_star, more as more_star}
use Rattle.kdl_text.proofs.Looking.MovesJoin.{moves_one}
use Rattle.kdl_layout.specs.Items as items
use Rattle.kdl_layout.specs.Internal.Reading.Run.{one as one_run, more as more_run}

-- a cursor at the start of the text s
abbrev pub Began : Text → Here → Type 0
Began s a = (k : ℕ) × (a ≡ record { text = s; rest = s; at = 0; steps = k })

pub began_rest : (s : Text) (a : Here) → Began s a → a.rest ≡ s
began_rest s a (k, e) = ap (λ (h : Here). h.rest) e

pub cut_len : (s : Text) (a b : Here) → Began s a → (m : Moves a b) → (s ≡ m.piece.0 ++ b.rest) × (bytes m.piece.0 ≡ b.at)
cut_len s a b (k, e) m =
    let r : a.rest ≡ s = ap (λ (h : Here). h.rest) e in
    let z : a.at ≡ 0 = ap (λ (h : Here). h.at) e in
    (sym r ∙ m.piece.1, omega (arith, z, m.at, ap bytes m.piece.1, bytes-append m.piece.0 b.rest))

-- what comes before and after the place where the cursor is
pub parts_at : (s f r : Text) (n : ℕ) (a b : Here) → Began s a → Moves a b → n ≡ b.at → ((p q : Text) → s ≡ p ++ q → bytes p ≡ n → (f ≡ p) × (r ≡ q)) → (r ≡ b.rest) × (s ≡ f ++ r)
parts_at s f r n a b g m e h =
    let (p, q) = cut_len s a b g m in
    let (x, y) = h m.piece.0 b.rest p (q ∙ sym e) in
    (y, rw (x, y) p)

pub ate_moves : (s : Text) (c : ℕ) (ate : Bool) (a b : Here) → Began s a → Ate c ate a b → ate ≡ true → Moves a b × (s ≡ c ∷ b.rest)
ate_moves s c true a b g t e = (moves_one t, sym (began_rest s a g) ∙ t.0)
ate_moves s c false a b g t e = absurd cc

plain_line : (c : ℕ) (s r : Text) → not (is_newline_char c) ≡ true → line_end s ≡ r → line_end (c ∷ s) ≡ r
plain_line c s r h e = go (is_newline_char c) h
  where
    go : (b : Bool) → not b ≡ true → (if b then c ∷ s else line_end s) ≡ r
    go true x = absurd cc
    go false x = e

stops_here : (s : Text) → starts (λ c. not (is_newline_char c)) s ≡ false → line_end s ≡ s
stops_here [] e = refl
stops_here (c ∷ s) e = go (is_newline_char c) e
  where
    go : (b : Bool) → not b ≡ false → (if b then c ∷ s else line_end s) ≡ c ∷ s
    go true x = refl
    go false x = absurd cc

end_of_run : (run r : Text) → list_all (λ c. not (is_newline_char c)) run ≡ true → starts (λ c. not (is_newline_char c)) r ≡ false → line_end (run ++ r) ≡ r
end_of_run [] r h e = stops_here r e
end_of_run (c ∷ run) r h e = let (y, z) = and_parts (not (is_newline_char c)) (list_all (λ d. not (is_newline_char d)) run) h in plain_line c (run ++ r) r y (end_of_run run r z e)

pub skips_line : (s : Text) (a b : Here) → Began s a → Skips (λ c. not (is_newline_char c)) a b → b.rest ≡ line_end s
skips_line s a b g (run, r) = sym (end_of_run run b.rest r.all r.stops) ∙ ap line_end (sym r.text ∙ began_rest s a g)

pub two : (a b : ℕ) (s : Text) → begins_two a b s ≡ true → (t : Text) × (s ≡ a ∷ b ∷ t)
two a b [] e = absurd cc
two a b (c ∷ []) e = let (x, y) = and_parts (c == a) false e in absurd cc
two a b (c ∷ d ∷ t) e =
    let (x, y) = and_parts (c == a) (d == b) e in
    (t, rw (eqb-true c a x, eqb-true d b y) refl)

pub slashes_end : (s : Text) → line_end (47 ∷ 47 ∷ s) ≡ line_end s
unfolding is_newline_char
slashes_end s = refl

-- a line comment that is the whole text, after two looks
pub whole_comment : (s : Text) (a b d : Here) → Began s a → Stayed 2 a b → Reads LineComment true b.rest d.rest → first d.rest ≡ None → LineComment s []
whole_comment s a b d g st c e = subst (λ (z : Text). LineComment z []) (st.rest ∙ began_rest s a g) ((c []).1 (nothing d.rest e))
  where
    nothing : (r : Text) → first r ≡ None → [] ≡ r
    nothing [] e = refl
    nothing (c ∷ r) e = cc

-- a text of no bytes has no characters, and no other one
pub no_chars : (bs : List ℕ) → (length bs == 0) ≡ true → chars bs ≡ []
no_chars [] e = chars-nil
no_chars (b ∷ bs) e = let x = eqb-true (length (b ∷ bs)) 0 e in absurd (omega (arith, x))

pub some_chars : (bs : List ℕ) → IsUtf8 bs → (length bs == 0) ≡ false → chars bs ≡ [] → ⊥
some_chars bs u e n = let x = sym (encodes-chars bs u) ∙ ap encodes n in let y = rw x at e in cc

-- what begins the text, with its item
spaces_run : {s t r : Text} → Space s t → Star Space t r → Run SpaceItems s r []
spaces_run p no_star = one_run (SpaceItems.space p)
spaces_run p (more_star q qs) = more_run (SpaceItems.space p) (spaces_run q qs)

pub space_run : (s : Text) (o : Option Item) (r : Bor (List ℕ)) → Starts s (ASpace o r) → Run SpaceItems s (chars r.now) (found o)
space_run s None r (plus p ps) = spaces_run p ps
space_run s (Some i) r (b, e) = rw e (one_run (SpaceItems.block b))

pub starts_shorter : (s : Text) (o : Option Item) (r : Bor (List ℕ)) → Starts s (ASpace o r) → length (chars r.now) < length s
starts_shorter s None r (plus p ps) = omega (arith, space_shorter p, end_length (star_end (λ u v. space_end) ps))
starts_shorter s (Some i) r (b, e) = block_shorter b

pub break_items : (s : Text) (o : Option Item) (r : Bor (List ℕ)) → Starts s (ABreak o r) → LineSpaceItems s (chars r.now) (found o)
break_items s None r n = LineSpaceItems.newline n
break_items s (Some i) r (l, e) = rw e (LineSpaceItems.line l)

pub break_escline : (s : Text) (o : Option Item) (r : Bor (List ℕ)) → Starts s (ABreak o r) → EsclineItems s (chars r.now) (found o)
break_escline s None r n = EsclineItems.newline n
break_escline s (Some i) r (l, e) = rw e (EsclineItems.line l)

spaces_to : {t u r : Text} {is : List items.Item} → Star Space t u → EsclineItems u r is → EsclineItems t r is
spaces_to no_star d = d
spaces_to (more_star p ps) d = EsclineItems.space p (spaces_to ps d)

pub escline_space : (s : Text) (o : Option Item) (u : Bor (List ℕ)) → Starts s (ASpace o u) → {r : Text} {is : List items.Item} → EsclineItems (chars u.now) r is → EsclineItems s r (found o ++ is)
escline_space s None u (plus p ps) d = EsclineItems.space p (spaces_to ps d)
escline_space s (Some i) u (b, e) d = rw e (EsclineItems.block b d)

-- the place where the first token ends
pub token_before : (s : Text) (a b : Here) (t : code.Token) → Began s a → Moves a b → HandsOut a t b → Before s t.at.end.at t.at.end.rest
token_before s a b t g m h = let (p, q) = cut_len s a b g m in (m.piece.0, p ∙ ap (λ (z : Text). m.piece.0 ++ z) (sym h.end_rest), q ∙ sym h.end_at)

pub token_read : (s : Text) (a b : Here) (t : code.Token) → Began s a → HandsOut a t b → Alone a.rest (kind_view t.kind) b.rest → Alone s (kind_view t.kind) t.at.end.rest
token_read s a b t g h x = subst (λ (z : Text). Alone s (kind_view t.kind) z) (sym h.end_rest) (subst (λ (z : Text). Alone z (kind_view t.kind) b.rest) (began_rest s a g) x)

pub before_cut : {s r : Text} {n : ℕ} → Before s n r → Cut s n
before_cut {r = r} (p, e, n) = (p, r, e, n)

-- a newline or a line comment
pub newline_cut : {s r : Text} {k : Token} → Cuts s k r → k ≡ newline → Break s r
newline_cut (one (t_newline n)) e = n
newline_cut _ e = absurd cc

newline_alone : {s r : Text} → Alone s newline r → Break s r
newline_alone (Alone.token (t_newline b)) = b

break_slash : {s r t : Text} → Break s r → s ≡ 47 ∷ t → LineComment s r
break_slash (Break.comment l) e = l
break_slash (Break.newline n) e = let x = rw e at (newline_begins n) in let y = slash_no_newline in cc

break_no_slash : {s r : Text} → Break s r → ((t : Text) → s ≡ 47 ∷ t → ⊥) → Newline s r
break_no_slash (Break.newline n) f = n
break_no_slash (Break.comment (line l)) f = absurd (f _ refl)

-- spaces or a block comment
slash_space : {s r t : Text} → s ≡ 47 ∷ t → Space s r → ⊥
slash_space e (a_space x) = let y = slash_no_space in cc

block_alone : {s r t : Text} → Alone s space r → ((t : Text) → s ≡ 92 ∷ t → ⊥) → s ≡ 47 ∷ t → BlockComment s r
block_alone (Alone.token (t_space (NodeSpace.ws (Ws.comment b)))) f e = b
block_alone (Alone.token (t_space (NodeSpace.ws (Ws.space p)))) f e = absurd (slash_space e p)
block_alone (Alone.token (t_space (NodeSpace.escline (an_escline ws x)))) f e = absurd (f _ refl)
block_alone (Alone.run (plus p ps)) f e = absurd (slash_space e p)

spaces_alone : {s r : Text} → Alone s space r → ((t : Text) → s ≡ 92 ∷ t → ⊥) → ((t : Text) → s ≡ 47 ∷ t → ⊥) → Plus Space s r
spaces_alone (Alone.token (t_space (NodeSpace.ws (Ws.space p)))) f g = plus p none
spaces_alone (Alone.token (t_space (NodeSpace.ws (Ws.comment (a_block b))))) f g = absurd (g _ refl)
spaces_alone (Alone.token (t_space (NodeSpace.escline (an_escline ws x)))) f g = absurd (f _ refl)
spaces_alone (Alone.run p) f g = p

-- what the first token is, with the text after it
token_rest : {s x y r : Text} {n m : ℕ} → Before s n r → m ≡ n → ((p q : Text) → s ≡ p ++ q → bytes p ≡ m → (x ≡ p) × (y ≡ q)) → (y ≡ r) × (s ≡ x ++ y)
token_rest {r = r} (p, e, n) f h = let w = h p r e (n ∙ sym f) in (w.1, rw (w.0, w.1) e)

module _ {s r : Text} {n m : ℕ} (x y : Bor (List ℕ)) (b : Before s n r) (f : m ≡ n) (h : (p q : Text) → s ≡ p ++ q → bytes p ≡ m → (chars x.now ≡ p) × (chars y.now ≡ q)) where
  pub block_start : {t : Text} → Alone s space r → ((t : Text) → s ≡ 92 ∷ t → ⊥) → s ≡ 47 ∷ t → Starts s (ASpace (Some (Piece x)) y)
  block_start a g e = let w = token_rest b f h in (rw w.0 (block_alone a g e), ap piece (is_between s (chars y.now) (chars x.now) w.1))

  pub spaces_start : Alone s space r → ((t : Text) → s ≡ 92 ∷ t → ⊥) → ((t : Text) → s ≡ 47 ∷ t → ⊥) → Starts s (ASpace None y)
  spaces_start a g k = rw (token_rest b f h).0 (spaces_alone a g k)

  pub line_start : (c : Bor (List ℕ)) {t e : Text} → Alone s newline r → s ≡ 47 ∷ t → s ≡ chars c.now ++ e → e ≡ line_end s → Starts s (ABreak (Some (Comment c)) y)
  line_start c a k p q = (rw (token_rest b f h).0 (break_slash (newline_alone a) k), ap comment (is_between s (line_end s) (chars c.now) (p ∙ ap (λ (z : Text). chars c.now ++ z) q)))

  pub newline_start : Alone s newline r → ((t : Text) → s ≡ 47 ∷ t → ⊥) → Starts s (ABreak None y)
  newline_start a k = rw (token_rest b f h).0 (break_no_slash (newline_alone a) k)

pub dash_start : {s r : Text} → Alone s slashdash r → Starts s Slashdash
dash_start (Alone.token (t_slashdash {r = r})) = (r, refl)

-- another token, or none
other_kind : (k : TokenKind) → (k ≡ SpaceKind → ⊥) → (k ≡ NewlineKind → ⊥) → (k ≡ SlashdashKind → ⊥) → is_piece (kind_view k) ≡ false
other_kind SpaceKind f g h = absurd (f refl)
other_kind NewlineKind f g h = absurd (g refl)
other_kind SlashdashKind f g h = absurd (h refl)
other_kind _ f g h = refl

pub other_start : {s r : Text} (k : TokenKind) → Alone s (kind_view k) r → (k ≡ SpaceKind → ⊥) → (k ≡ NewlineKind → ⊥) → (k ≡ SlashdashKind → ⊥) → Starts s Other
other_start k a f g h = go a (other_kind k f g h)
  where
    go : {s r : Text} {j : Token} → Alone s j r → is_piece j ≡ false → Starts s Other
    go {r = r} {j = j} (Alone.token t) e = (λ z. no_token (subst (λ (y : Text). BeginsToken y j r) z t), λ u i v. ap is_piece (sym (token_det t v).1) ∙ e)
    go (Alone.run p) e = absurd cc

-- the first token agrees with what begins the text
abbrev Matches : Start → Token → Type 0
Matches (ASpace o r) k = k ≡ space
Matches (ABreak o r) k = k ≡ newline
Matches (Backslash r) k = k ≡ space
Matches Slashdash k = k ≡ slashdash
Matches End k = space ≡ newline
Matches Other k = space ≡ newline

backslash_token : {s r : Text} {k : Token} → BeginsToken (92 ∷ s) k r → is_piece k ≡ true → k ≡ space
backslash_token (t_space n) e = refl
backslash_token (t_newline (Break.newline n)) e = let x = newline_begins n in let y = backslash_no_newline in cc
backslash_token (t_newline (Break.comment l)) e = elim l [ ]
backslash_token _ e = absurd cc

only : (s : Text) (x : Start) → Starts s x → {r : Text} {k : Token} → BeginsToken s k r → is_piece k ≡ true → Matches x k
only s (ASpace None u) (plus p ps) t e = (token_det t (t_space (NodeSpace.ws (Ws.space p)))).1
only s (ASpace (Some i) u) h t e = (token_det t (t_space (NodeSpace.ws (Ws.comment h.0)))).1
only s (Backslash u) h {r} {k} t e = backslash_token (subst (λ (z : Text). BeginsToken z k r) h t) e
only s (ABreak None u) h t e = (token_det t (t_newline (Break.newline h))).1
only s (ABreak (Some i) u) h t e = (token_det t (t_newline (Break.comment h.0))).1
only s Slashdash h t e = (token_det t (subst (λ (z : Text). BeginsToken z slashdash h.0) (sym h.1) t_slashdash)).1
only s End h {r} {k} t e = absurd (no_token (subst (λ (z : Text). BeginsToken z k r) h t))
only s Other h {r} {k} t e = let x = h.1 r k t in cc

-- no node-space, no break and no `/-`
abbrev NoSpace : Start → Type 0
NoSpace x = (o : Option Item) (r : Bor (List ℕ)) → x ≡ ASpace o r → ⊥

abbrev NoBreak : Start → Type 0
NoBreak x = (o : Option Item) (r : Bor (List ℕ)) → x ≡ ABreak o r → ⊥

pub no_node_space : (s : Text) (x : Start) → Starts s x → NoSpace x → ((r : Bor (List ℕ)) → x ≡ Backslash r → ⊥) → (r : Text) → NodeSpace s r → ⊥
no_node_space s (ASpace o u) h f g r n = f o u refl
no_node_space s (Backslash u) h f g r n = g u refl
no_node_space s x h f g r n = let y = only s x h (t_space n) refl in cc

pub no_break : (s : Text) (x : Start) → Starts s x → NoBreak x → (r : Text) → Break s r → ⊥
no_break s (ABreak o u) h f r b = f o u refl
no_break s x h f r b = let y = only s x h (t_newline b) refl in cc

pub no_dash : (s : Text) (x : Start) → Starts s x → (x ≡ Slashdash → ⊥) → (t : Text) → s ≡ 47 ∷ 45 ∷ t → ⊥
no_dash s Slashdash h f t e = f refl
no_dash s x h f t e = let y = only s x h (subst (λ (z : Text). BeginsToken z slashdash t) (sym e) t_slashdash) refl in cc

pub break_of : (s : Text) (o : Option Item) (r : Bor (List ℕ)) → Starts s (ABreak o r) → Break s (chars r.now)
break_of s None r n = Break.newline n
break_of s (Some i) r (l, e) = Break.comment l

-- where no escline goes on, and none ends
pub backslash_ws : {s r : Text} → Ws (92 ∷ s) r → ⊥
backslash_ws (Ws.space (a_space x)) = let y = backslash_no_space in cc
backslash_ws (Ws.comment b) = elim b [ ]

pub no_ws : (s : Text) (x : Start) → Starts s x → NoSpace x → (r : Text) → Ws s r → ⊥
no_ws s (Backslash u) h f r w = backslash_ws (subst (λ (z : Text). Ws z r) h w)
no_ws s x h f r w = no_node_space s x h f (λ u e. cc) r (NodeSpace.ws w)

pub begun : (s : Text) (x : Start) → Starts s x → (x ≡ End → ⊥) → s ≡ [] → ⊥
begun s (ASpace o u) h f e = omega (arith, starts_shorter s o u h, ap length e)
begun s (ABreak o u) h f e = omega (arith, break_shorter (break_of s o u h), ap length e)
begun s (Backslash u) h f e = cc
begun s Slashdash (t, h) f e = cc
begun s End h f e = f refl
begun s Other h f e = h.0 e

pub no_escline_end : (s : Text) (x : Start) → Starts s x → NoBreak x → (x ≡ End → ⊥) → (r : Text) → EscEnd s r → ⊥
no_escline_end s x h f k r (EscEnd.comment l) = no_break s x h f r (Break.comment l)
no_escline_end s x h f k r (EscEnd.newline n) = no_break s x h f r (Break.newline n)
no_escline_end s x h f k r EscEnd.ends = begun s x h k refl
