-- How node-spaces and line-spaces end.
use Rattle.kdl_layout.proofs.Common.{◌≡◌, ℕ, ◌<◌, Bool, true, false, ◌&&◌, ◌==◌, [], ◌∷◌, ◌++◌, length, Option, Some, None, Bor, List, refl, sym, ap, subst, ◌∙◌, arith, append_assoc, append-nil, if◌then◌else◌, ◌≤◌, ◌↔◌, IsTrue, length-append, eqb-true, chars, Text, begins, begins_two, Newline, crlf, Star, Plus, plus, Space, more, Line, LineComment, Ws, EscEnd, escline, NodeSpace, Break, LineSpace, BlockComment, join, star_map, snoc, block_shorter, node_space_shorter, break_shorter, node_space_end, star_end, end_length, newline_begins, break_det, node_space_det, Token, BeginsToken, t_space, Item, line_end, EsclineItems, SpaceItems, LineSpaceItems, GapItems, any_run, Put, AreNodeSpaces, letter, LineEnds, left, Spaces, OnlySpaces, Starts, Run, added, found, Adding, adding, Leaves, Ending, InReturn, Open, is_space, is_newline_char}
use Rattle.kdl_text.specs.Chars.{one, none}
use Rattle.kdl_text.specs.Trivia.{line as a_line}
use Rattle.kdl_text.proofs.Spacing.SpacePieces.{newline_shorter}
use Rattle.kdl_text.proofs.Spacing.SpaceUnique.{line_comment_begins, escline_ends_at}
use Rattle.kdl_syntax.proofs.Lexing.TokenUnique.{no_backslash}
use Rattle.kdl_layout.specs.Internal.Lacking.{EndsAs}
use Rattle.kdl_layout.specs.Internal.Reading.Run.{one as one_run}
use Rattle.kdl_layout.specs.declared.spaces.Item.{Item as Found}
use Rattle.kdl_layout.specs.declared.spaces.Start.TheVariants.{Space as ASpace, Break as ABreak}
use Rattle.kdl_layout.specs.declared.spaces.Ending.TheVariants.{Before}
use Rattle.kdl_layout.proofs.Listing.SpaceItems.{added_none, then_added, run_lines, leaves_start, leaves_then, leaves_all, leaves_add, run_leaves, run_gap}
use Rattle.kdl_layout.proofs.Listing.Starts.{two, slashes_end, starts_shorter, space_run, escline_space, break_items, break_escline, backslash_ws, break_of}
use Rattle.kdl_syntax.proofs.Moving.Puts.{more_first, Move}
use Rattle.kdl_layout.proofs.Rewriting.BeforeNewlines.{a_newline, closed_block, some}
use Rattle.kdl_layout.proofs.NodeSpaces.{some_then}

-- the text before a longer rest
pub put_more : {s r : Text} (p : Put s r) (w : Text) → p.put (r ++ w) ≡ s ++ w
put_more {r = r} p w = p.text (r ++ w) ∙ sym (append_assoc p.piece r w) ∙ ap (λ (z : Text). z ++ w) (sym (p.text r) ∙ sym p.here)

pub moved_more : {R : Text → Text → Type 0} {s r : Text} → Move R s r → (r ≡ [] → ⊥) → (w : Text) → R (s ++ w) (r ++ w)
moved_more {R = R} {r = r} m n w = subst (λ (z : Text). R z (r ++ w)) (put_more m.at w) (m.there (r ++ w) (more_first r w n))

-- spaces, block comments, and runs of both
pub space_more : {s r : Text} → Space s r → (w : Text) → Space (s ++ w) (r ++ w)
space_more (Space.space x) w = Space.space x

pub spaces_more : {s r : Text} → Star Space s r → (w : Text) → Star Space (s ++ w) (r ++ w)
spaces_more none w = none
spaces_more (more p ps) w = more (space_more p w) (spaces_more ps w)

pub block_more : {s r : Text} → BlockComment s r → (w : Text) → BlockComment (s ++ w) (r ++ w)
block_more {r = r} b w = let m = closed_block b in subst (λ (z : Text). BlockComment z (r ++ w)) (put_more m.at w) (m.there (r ++ w))

pub run_more : {s r : Text} → Star Ws s r → (w : Text) → Star Ws (s ++ w) (r ++ w)
run_more {r = r} ws w = let m = any_run ws in subst (λ (z : Text). Star Ws z (r ++ w)) (put_more m.at w) (m.there (r ++ w))

-- with nothing after it
pub alone : (R : Text → Text → Type 0) (s r : Text) → R (s ++ []) (r ++ []) → R s r
alone R s r x = subst (λ (z : Text). R z r) (append-nil s) (subst (λ (z : Text). R (s ++ []) z) (append-nil r) x)

-- newlines
pub cr : (w : Text) → begins 10 w ≡ false → Newline (13 ∷ w) w
unfolding is_newline_char
cr w h = one refl h

letter_no_newline : is_newline_char 97 ≡ false
unfolding is_newline_char
letter_no_newline = refl

letter_no_space : is_space 97 ≡ false
unfolding is_space
letter_no_space = refl

-- a newline but a CR at the end is before more of the rest
other_end : (c : ℕ) (r w : Text) → (c ∷ r ≡ 13 ∷ [] → ⊥) → ((c == 13) && begins 10 r) ≡ false → ((c == 13) && begins 10 (r ++ w)) ≡ false
other_end c (d ∷ r) w f h = h
other_end c [] w f h = go (c == 13) refl
  where
    go : (b : Bool) → (c == 13) ≡ b → ((c == 13) && begins 10 w) ≡ false
    go true e = absurd (f (ap (λ (x : ℕ). x ∷ []) (eqb-true c 13 e)))
    go false e = rw e refl

pub newline_more : {e r : Text} → Newline e r → (e ≡ 13 ∷ [] → ⊥) → (w : Text) → Newline (e ++ w) (r ++ w)
newline_more crlf f w = crlf
newline_more (one {c = c} {r = r} x y) f w = one x (other_end c r w f y)

-- a line from its newline on
line_more : (s w z : Text) → Newline (line_end s ++ w) z → Line (s ++ w) z
line_more [] w z n = Line.newline n
line_more (c ∷ s) w z n = go (is_newline_char c) refl n (line_more s w z)
  where
    go : (b : Bool) → is_newline_char c ≡ b → Newline ((if b then c ∷ s else line_end s) ++ w) z → (Newline (line_end s ++ w) z → Line (s ++ w) z) → Line (c ∷ (s ++ w)) z
    go true e n f = Line.newline n
    go false e n f = Line.other e (f n)

-- a line without a newline goes on
pub line_open : (s w : Text) → line_end s ≡ [] → Line w [] → Line (s ++ w) []
line_open [] w h l = l
line_open (c ∷ s) w h l = go (is_newline_char c) refl h (line_open s w)
  where
    go : (b : Bool) → is_newline_char c ≡ b → (if b then c ∷ s else line_end s) ≡ [] → (line_end s ≡ [] → Line w [] → Line (s ++ w) []) → Line (c ∷ (s ++ w)) []
    go true e h f = absurd cc
    go false e h f = Line.other e (f h l)

pub space_no_newline : is_newline_char 32 ≡ false
unfolding is_newline_char
space_no_newline = refl

pub a_space : Space (32 ∷ 97 ∷ []) (97 ∷ [])
unfolding is_space
a_space = Space.space refl

pub letter_line : Line letter []
letter_line = Line.other space_no_newline (Line.other letter_no_newline Line.ends)

-- what ends where a line does
pub line_ends_as : (X : Text → Text → Type 0) (s e : Text) (y : Ending) → ((u v : Text) → X u v → length v < length u) → ((w z : Text) → Newline (e ++ w) z → X (s ++ w) z) → (e ≡ [] → X s [])
    → (e ≡ [] → (r : Text) (k : Token) → BeginsToken (s ++ letter) k r → X (s ++ letter) []) → LineEnds e y → EndsAs X s y
line_ends_as X s e (Before r) short p q f n =
    (λ w. plus (p w (chars r.now ++ w) (n w)) none, omega (arith, short (s ++ []) (chars r.now ++ []) (p [] (chars r.now ++ []) (n [])), ap length (append-nil s), ap length (append-nil (chars r.now))))
line_ends_as X s e InReturn short p q f n = record {
  alone = λ w h. p w w (subst (λ (z : Text). Newline (z ++ w) w) (sym n) (cr w h));
  before_lf = λ w. p (10 ∷ w) w (subst (λ (z : Text). Newline (z ++ (10 ∷ w)) w) (sym n) crlf);
}
line_ends_as X s e Open short p q f n = record {
  alone = q n;
  ended = λ w. p (10 ∷ w) w (subst (λ (z : Text). Newline (z ++ (10 ∷ w)) w) (sym n) (a_newline w));
  swallows = f n;
}

-- where the line of a newline or a line comment ends
newline_line : {s r : Text} → Newline s r → line_end s ≡ s
unfolding is_newline_char
newline_line crlf = refl
newline_line (one x y) = rw x refl

line_newline : {s r : Text} → Line s r → (line_end s ≡ [] → ⊥) → Newline (line_end s) r
line_newline Line.ends f = absurd (f refl)
line_newline {r = r} (Line.newline n) f = subst (λ (z : Text). Newline z r) (sym (newline_line n)) n
line_newline (Line.other x l) f = rw x (line_newline l (rw x at f))

pub break_newline : {s r : Text} → Break s r → (line_end s ≡ [] → ⊥) → Newline (line_end s) r
unfolding is_newline_char
break_newline {r = r} (Break.newline n) f = subst (λ (z : Text). Newline z r) (sym (newline_line n)) n
break_newline (Break.comment (a_line {s = s} l)) f = line_newline l f

pub break_before : {s r e : Text} → Break s r → e ≡ line_end s → (e ≡ [] → ⊥) → (e ≡ 13 ∷ [] → ⊥) → (w : Text) → Newline (line_end s ++ w) (r ++ w)
break_before b x f g = newline_more (break_newline b (λ y. f (x ∙ y))) (λ y. g (x ∙ y))

comment_line : (t w z : Text) → begins_two 47 47 t ≡ true → Newline (line_end t ++ w) z → LineComment (t ++ w) z
comment_line t w z h n =
    let (u, y) = two 47 47 t h in
    subst (λ (x : Text). LineComment (x ++ w) z) (sym y) (a_line (line_more u w z (subst (λ (x : Text). Newline (x ++ w) z) (ap line_end y ∙ slashes_end u) n)))

comment_open : (t w : Text) → begins_two 47 47 t ≡ true → line_end t ≡ [] → Line w [] → LineComment (t ++ w) []
comment_open t w h e l =
    let (u, y) = two 47 47 t h in
    subst (λ (x : Text). LineComment (x ++ w) []) (sym y) (a_line (line_open u w (sym (slashes_end u) ∙ ap line_end (sym y) ∙ e) l))

pub break_at : {s r : Text} → Break s r → (w z : Text) → Newline (line_end s ++ w) z → Break (s ++ w) z
break_at (Break.newline n) w z m = Break.newline (subst (λ (y : Text). Newline (y ++ w) z) (newline_line n) m)
break_at {s = s} (Break.comment l) w z m = Break.comment (comment_line s w z (line_comment_begins l) m)

pub break_open : {s r : Text} → Break s r → line_end s ≡ [] → (w : Text) → Line w [] → Break (s ++ w) []
break_open (Break.newline n) e w l = absurd (omega (arith, newline_shorter n, ap length (sym (newline_line n) ∙ e)))
break_open {s = s} (Break.comment c) e w l = Break.comment (comment_open s w (line_comment_begins c) e l)

pub break_ends : {s r : Text} → Break s r → line_end s ≡ [] → Break s []
break_ends {s = s} b e = subst (λ (z : Text). Break z []) (append-nil s) (break_open b e [] Line.ends)

-- an escline
esc_of : {s r : Text} → Break s r → EscEnd s r
esc_of (Break.newline n) = EscEnd.newline n
esc_of (Break.comment l) = EscEnd.comment l

letter_end : {r : Text} → EscEnd (97 ∷ []) r → ⊥
letter_end (EscEnd.comment l) = elim l [ ]
letter_end (EscEnd.newline n) = let x = newline_begins n in let y = letter_no_newline in cc

letter_ws : {r : Text} → Ws (97 ∷ []) r → ⊥
letter_ws (Ws.space (Space.space x)) = let y = letter_no_space in cc
letter_ws (Ws.comment b) = elim b [ ]

letter_run : (s t : Text) → Star Ws s t → t ≡ [] → Star Ws (s ++ letter) (97 ∷ [])
letter_run s t ws n = snoc (subst (λ (z : Text). Star Ws (s ++ letter) (z ++ letter)) n (run_more ws letter)) (Ws.space a_space)

escline_breaks : {s t r : Text} (y : Ending) → Star Ws s t → Break t r → LineEnds (line_end t) y → EndsAs NodeSpace (92 ∷ s) y
escline_breaks {s = s} {t = t} y ws b n =
    line_ends_as NodeSpace (92 ∷ s) (line_end t) y (λ u v. node_space_shorter) (λ w z k. NodeSpace.escline (escline (run_more ws w) (esc_of (break_at b w z k)))) (λ k. NodeSpace.escline (escline ws (esc_of (break_ends b k))))
    (λ k r j t. NodeSpace.escline (escline (run_more ws letter) (esc_of (break_open b k letter letter_line)))) n

escline_open : (s t : Text) → Star Ws s t → t ≡ [] → EndsAs NodeSpace (92 ∷ s) Open
escline_open s t ws e =
    let at_end = subst (λ (z : Text). Star Ws s z) e ws in
    line_ends_as NodeSpace (92 ∷ s) [] Open (λ u v. node_space_shorter) (λ w z k. NodeSpace.escline (escline (run_more at_end w) (EscEnd.newline k))) (λ k. NodeSpace.escline (escline at_end EscEnd.ends))
    (λ k r j m. absurd (no_backslash (s ++ letter) (λ u p. letter_end (escline_ends_at (letter_run s t ws e) (λ v. letter_ws) p)) r j m)) refl

escline_nowhere : {s t : Text} → Star Ws s t → ((v : Text) → Ws t v → ⊥) → ((v : Text) → EscEnd t v → ⊥) → (r : Text) → NodeSpace (92 ∷ s) r → ⊥
escline_nowhere ws f g r (NodeSpace.ws w) = backslash_ws w
escline_nowhere ws f g r (NodeSpace.escline p) = g r (escline_ends_at ws f p)

-- the run after the `\`
run_space : {s t : Text} (o : Option Found) (u : Bor (List ℕ)) → Star Ws s t → Starts t (ASpace o u) → Star Ws s (chars u.now)
run_space None u ws (plus p ps) = join (snoc ws (Ws.space p)) (star_map (λ x y q. Ws.space q) ps)
run_space (Some i) u ws (b, e) = snoc ws (Ws.comment b)

-- what is left after a newline or a line comment
pub break_left : {t r : Text} (y : Ending) → Break t r → LineEnds (line_end t) y → left y ≡ r
break_left {t} (Before r) b n = break_det (alone Break t (chars r.now) (break_at b [] (chars r.now ++ []) (n []))) b
break_left {t} InReturn b n = break_det (subst (λ (z : Text). Break z []) (append-nil t) (break_at b [] [] (subst (λ (z : Text). Newline (z ++ []) []) (sym n) (cr [] refl)))) b
break_left Open b n = break_det (break_ends b n) b

-- an escline so far, up to t: its items are these and then those from t on
pub record EsclineTo (s t : Text) (is : List Item) : Type 0 where
  pub items : (r : Text) (js : List Item) → EsclineItems t r js → EsclineItems s r (is ++ js)
  pub run : Star Ws s t

pub escline_start : (s : Text) (old : Option (List Item)) → Adding (EsclineTo s s) old old
escline_start s old = adding [] (added_none old) (record { items = λ r js d. d; run = none })

pub escline_on : (s t v : Text) (o : Option Found) (u : Bor (List ℕ)) {old now new : Option (List Item)} → Adding (EsclineTo s t) old now → Starts t (ASpace o u) → new ≡ added now (found o) → v ≡ chars u.now → Adding (EsclineTo s v) old new
escline_on s t v o u {old = old} (adding is e k) h f x =
    adding (is ++ found o) (then_added old is (found o) e f) (rw x (record {
      items = λ r js d. subst (EsclineItems s r) (sym (append_assoc is (found o) js)) (k.items r (found o ++ js) (escline_space t o u h d));
      run = run_space o u k.run h;
    }))

pub escline_break : (s t : Text) (o : Option Found) (r : Bor (List ℕ)) (y : Ending) {old now new : Option (List Item)} → Adding (EsclineTo s t) old now → Starts t (ABreak o r) → new ≡ added now (found o) → LineEnds (line_end t) y
    → Spaces NodeSpace SpaceItems (92 ∷ s) (Some y) old new
escline_break s t o r y {old = old} (adding is e k) h f n =
    let b = break_of t o r h in
    let d = one_run (SpaceItems.escline (k.items (chars r.now) (found o) (break_escline t o r h))) in
    (adding (is ++ found o) (then_added old is (found o) e f) (subst (λ (z : Text). Run SpaceItems (92 ∷ s) z (is ++ found o)) (sym (break_left y b n)) d), escline_breaks y k.run b n)

pub escline_ends : (s t : Text) {old now : Option (List Item)} → Adding (EsclineTo s t) old now → t ≡ [] → Spaces NodeSpace SpaceItems (92 ∷ s) (Some Open) old now
escline_ends s t {old = old} {now = now} (adding is e k) h = (adding (is ++ []) (then_added old is [] e (added_none now)) (one_run (SpaceItems.escline (k.items [] [] (rw h EsclineItems.ends)))), escline_open s t k.run h)

pub escline_none : (s t : Text) {old now : Option (List Item)} → Adding (EsclineTo s t) old now → ((v : Text) → Ws t v → ⊥) → ((v : Text) → EscEnd t v → ⊥) → Spaces NodeSpace SpaceItems (92 ∷ s) None old now
escline_none s t (adding is e k) f g = escline_nowhere k.run f g

-- node-spaces
space_ends : (s : Text) (o : Option Found) (r : Bor (List ℕ)) → Starts s (ASpace o r) → EndsAs NodeSpace s (Before r)
space_ends s None r (plus p ps) = (λ w. plus (NodeSpace.ws (Ws.space (space_more p w))) (star_map (λ u v q. NodeSpace.ws (Ws.space q)) (spaces_more ps w)), starts_shorter s None r (plus p ps))
space_ends s (Some i) r h = (λ w. plus (NodeSpace.ws (Ws.comment (block_more h.0 w))) none, block_shorter h.0)

pub space_adds : (s : Text) (o : Option Found) (r : Bor (List ℕ)) (old new : Option (List Item)) → Starts s (ASpace o r) → new ≡ added old (found o) → Spaces NodeSpace SpaceItems s (Some (Before r)) old new
space_adds s o r old new h e = (adding (found o) e (space_run s o r h), space_ends s o r h)

-- line-spaces
plus_map : {X Y : Text → Text → Type 0} {s r : Text} (f : (u v : Text) → X u v → Y u v) → Plus X s r → Plus Y s r
plus_map f (plus n ns) = plus (f _ _ n) (star_map f ns)

-- what ends with an X that is a Y
ends_map : {X Y : Text → Text → Type 0} (f : (u v : Text) → X u v → Y u v) (s : Text) (y : Ending) → EndsAs X s y → EndsAs Y s y
ends_map f s (Before r) k = (λ w. plus_map f (k.0 w), k.1)
ends_map f s InReturn k = record { alone = λ w h. f _ _ (k.alone w h); before_lf = λ w. f _ _ (k.before_lf w) }
ends_map f s Open k = record { alone = f _ _ k.alone; ended = λ w. f _ _ (k.ended w); swallows = λ r j t. f _ _ (k.swallows r j t) }

pub as_lines : (s : Text) (o : Option Ending) (old new : Option (List Item)) → ((r : Text) → Break s r → ⊥) → Spaces NodeSpace SpaceItems s o old new → Spaces LineSpace LineSpaceItems s o old new
as_lines s None old new f k = none
  where
    none : (r : Text) → LineSpace s r → ⊥
    none r (LineSpace.space n) = k r n
    none r (LineSpace.«break» b) = f r b
as_lines s (Some y) old new f (adding is e run, k) = (adding is e (run_lines run), ends_map (λ u v n. LineSpace.space n) s y k)

pub break_ends_as : {s r : Text} (y : Ending) → Break s r → LineEnds (line_end s) y → EndsAs Break s y
break_ends_as {s = s} y b n = line_ends_as Break s (line_end s) y (λ u v. break_shorter) (λ w z k. break_at b w z k) (λ k. break_ends b k) (λ k r j t. break_open b k letter letter_line) n

pub break_adds : (s : Text) (o : Option Found) (r : Bor (List ℕ)) (y : Ending) (old new : Option (List Item)) → Starts s (ABreak o r) → new ≡ added old (found o) → LineEnds (line_end s) y → Spaces LineSpace LineSpaceItems s (Some y) old new
break_adds s o r y old new h e n =
    let b = break_of s o r h in
    (adding (found o) e (subst (λ (z : Text). Run LineSpaceItems s z (found o)) (sym (break_left y b n)) (one_run (break_items s o r h))), ends_map (λ u v n. LineSpace.«break» n) s y (break_ends_as y b n))

-- node-spaces with these items come before t in s, whatever follows t
abbrev pub SpacesFrom : Text → Text → List Item → Type 0
SpacesFrom s t is = Leaves (GapItems s) (GapItems t) is × ((w : Text) → Star NodeSpace (s ++ w) (t ++ w))

pub spaces_start : (s : Text) (old : Option (List Item)) → Adding (SpacesFrom s s) old old
spaces_start s old = adding [] (added_none old) (leaves_start (GapItems s), λ w. none)

pub spaces_on : (s t v : Text) (r : Bor (List ℕ)) {old now new : Option (List Item)} → Adding (SpacesFrom s t) old now → Spaces NodeSpace SpaceItems t (Some (Before r)) now new → v ≡ chars r.now → Adding (SpacesFrom s v) old new
spaces_on s t v r {old = old} (adding is e (l, f)) (adding js g run, (k, h)) x =
    adding (is ++ js) (then_added old is js e g) (rw x (leaves_then (GapItems s) (GapItems t) (GapItems (chars r.now)) is js l (run_leaves (run_lines run)), λ w. join (f w) (some (k w))))

-- of two rests after node-spaces, the longer one reaches the shorter one by node-spaces
longer : {s t r : Text} → Star NodeSpace s t → Star NodeSpace s r → length r ≤ length t → Star NodeSpace t r
longer none ms l = ms
longer (more n ns) none l = absurd (omega (arith, l, node_space_shorter n, end_length (star_end (λ u v. node_space_end) ns)))
longer {r = r} (more n ns) (more m ms) l = longer ns (subst (λ (z : Text). Star NodeSpace z r) (node_space_det m n) ms) l

none_here : {t : Text} → Star NodeSpace t [] → (t ≡ [] → ⊥) → ((u : Text) → NodeSpace t u → ⊥) → ⊥
none_here none f k = f refl
none_here (more n ns) f k = k _ n

-- a text is not node-spaces if a first one takes all of what follows too
pub goes_past : (t w : Text) → (t ≡ [] → ⊥) → (w ≡ [] → ⊥) → ((u : Text) → NodeSpace (t ++ w) u → u ≡ []) → AreNodeSpaces t → ⊥
goes_past t w f g h a = go (some_then t w f (a w)) h
  where
    at_end : {u v : Text} → Star NodeSpace u v → u ≡ [] → v ≡ []
    at_end none e = e
    at_end (more n ns) e = absurd (omega (arith, ap length e, node_space_shorter n))

    go : {v : Text} → Plus NodeSpace v w → ((u : Text) → NodeSpace v u → u ≡ []) → ⊥
    go (plus n ns) h = g (at_end ns (h _ n))

not_here : (t : Text) (o : Option Ending) (old new : Option (List Item)) → (t ≡ [] → ⊥) → ((r : Bor (List ℕ)) → o ≡ Some (Before r) → ⊥) → Spaces NodeSpace SpaceItems t o old new → AreNodeSpaces t → ⊥
not_here t (Some (Before r)) old new f g k a = g r refl
not_here t (Some InReturn) old new f g k a = goes_past t (10 ∷ []) f (λ e. cc) (λ u n. node_space_det n (k.1.before_lf [])) a
not_here t (Some Open) old new f g k a = goes_past t letter f (λ e. cc) (λ u n. node_space_det n (k.1.swallows u _ (t_space n))) a
not_here t None old new f g k a = none_here (alone (Star NodeSpace) t [] (a [])) f k

-- an LF ends node-spaces that end with the text
lf_ends : (s t : Text) (o : Option Ending) {old now new : Option (List Item)} → Adding (SpacesFrom s t) old now → (t ≡ [] → ⊥) → ((r : Bor (List ℕ)) → o ≡ Some (Before r) → ⊥) → Spaces NodeSpace SpaceItems t o now new
    → Star NodeSpace s [] → Adding (GapItems s) old new × ((w : Text) → Star NodeSpace (s ++ (10 ∷ w)) w)
lf_ends s t (Some (Before r)) x f g k ss = absurd (g r refl)
lf_ends s t (Some InReturn) (adding is e (l, h)) f g (adding js i run, k) ss = (leaves_add (GapItems s) (GapItems t) (adding is e l) (adding js i (run_gap (run_lines run))), λ w. join (h (10 ∷ w)) (more (k.before_lf w) none))
lf_ends s t (Some Open) (adding is e (l, h)) f g (adding js i run, k) ss = (leaves_add (GapItems s) (GapItems t) (adding is e l) (adding js i (run_gap (run_lines run))), λ w. join (h (10 ∷ w)) (more (k.ended w) none))
lf_ends s t None (adding is e (l, h)) f g k ss = absurd (none_here (longer (alone (Star NodeSpace) s t (h [])) ss (omega arith)) f k)

pub not_spaces : (s t : Text) (o : Option Ending) {old now new : Option (List Item)} → Adding (SpacesFrom s t) old now → (t ≡ [] → ⊥) → ((r : Bor (List ℕ)) → o ≡ Some (Before r) → ⊥) → Spaces NodeSpace SpaceItems t o now new → OnlySpaces s false old new
not_spaces s t o {now = now} {new = new} (adding is e x) f g k = (λ a. not_here t o now new f g k (λ w. longer (x.1 w) (a w) (omega (arith, length-append t w))), lf_ends s t o (adding is e x) f g k)

pub all_spaces : (s t : Text) {old now : Option (List Item)} → Adding (SpacesFrom s t) old now → t ≡ [] → OnlySpaces s true old now
all_spaces s t (adding is e (l, f)) h = (λ w. subst (λ (z : Text). Star NodeSpace (s ++ w) (z ++ w)) h (f w), adding is e (leaves_all (GapItems s) (GapItems t) is l (rw h GapItems.none)))

pub only_are : (t : Text) (b : Bool) (old new : Option (List Item)) → OnlySpaces t b old new → IsTrue b ↔ AreNodeSpaces t
only_are t true old new x = (λ e. x.0, λ a. refl)
only_are t false old new x = (λ e. absurd cc, λ a. absurd (x.0 a))
