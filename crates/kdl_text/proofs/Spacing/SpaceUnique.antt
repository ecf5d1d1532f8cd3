-- Comments and spaces: what each begins with, and that a text begins with one of each at most.
use Rattle.std.proofs.Common.{◌≡◌, ℕ, ◌∷◌, true, false, refl, sym, subst, arith}
use Rattle.std.proofs.lemmas.Bool.Decides.{nat_tests}
use Rattle.kdl_text.specs.Chars.{Text, is_space, is_newline_char, begins, begins_two, starts, Newline, crlf, one, Star, Space}
use Rattle.kdl_text.specs.Chars.Space.{space}
use Rattle.kdl_text.specs.Trivia.{Parts, BlockComment, Line, LineComment, Ws, EscEnd, Escline, NodeSpace, Break, LineSpace}
use Rattle.kdl_text.specs.Trivia.Parts.{close, nested, other}
use Rattle.kdl_text.specs.Trivia.BlockComment.{block}
use Rattle.kdl_text.specs.Trivia.Line.{ends as line_ends, newline as line_newline, other as line_other}
use Rattle.kdl_text.specs.Trivia.LineComment.{line}
use Rattle.kdl_text.specs.Trivia.Ws.{space as ws_space, comment as ws_comment}
use Rattle.kdl_text.specs.Trivia.EscEnd.{comment, newline, ends}
use Rattle.kdl_text.specs.Trivia.Escline.{escline}
use Rattle.kdl_text.specs.Trivia.NodeSpace.{ws, escline as node_escline}
use Rattle.kdl_text.specs.Trivia.Break.{newline as break_newline, comment as break_comment}
use Rattle.kdl_text.specs.Trivia.LineSpace.{space as line_space, «break» as line_break}
use Rattle.kdl_text.proofs.Spacing.NewlineUnique.{newline_det}
use Rattle.kdl_text.proofs.Looking.Stars.{Det, meets, stops}

-- no character is of two kinds
pub slash_no_space : is_space 47 ≡ false
unfolding is_space
slash_no_space = refl

pub backslash_no_space : is_space 92 ≡ false
unfolding is_space
backslash_no_space = refl

pub slash_no_newline : is_newline_char 47 ≡ false
unfolding is_newline_char
slash_no_newline = refl

pub backslash_no_newline : is_newline_char 92 ≡ false
unfolding is_newline_char
backslash_no_newline = refl

cr_newline : is_newline_char 13 ≡ true
unfolding is_newline_char
cr_newline = refl

pub newline_no_space : (c : ℕ) → is_newline_char c ≡ true → is_space c ≡ true → ⊥
unfolding is_newline_char is_space
newline_no_space c x y = grind (arith, nat_tests)

-- what each begins with
pub newline_begins : {s r : Text} → Newline s r → starts is_newline_char s ≡ true
newline_begins crlf = cr_newline
newline_begins (one x y) = x

pub block_begins : {s r : Text} → BlockComment s r → begins_two 47 42 s ≡ true
block_begins (block p) = refl

pub line_comment_begins : {s r : Text} → LineComment s r → begins_two 47 47 s ≡ true
line_comment_begins (line l) = refl

pub escline_begins : {s r : Text} → Escline s r → begins 92 s ≡ true
escline_begins (escline p e) = refl

pub no_line_comment : {s t : Text} → begins_two 47 47 s ≡ false → LineComment s t → ⊥
no_line_comment x p = let y = line_comment_begins p in cc

-- a text begins with one of each at most
pub space_det : {s r t : Text} → Space s r → Space s t → r ≡ t
space_det (space x) (space y) = refl

pub parts_det : {s r t : Text} → Parts s r → Parts s t → r ≡ t
parts_det close close = refl
parts_det close (other x y p) = cc
parts_det {t = t} (nested p q) (nested p' q') = parts_det q (subst (λ u. Parts u t) (sym (parts_det p p')) q')
parts_det (nested p q) (other x y p') = cc
parts_det (other x y p) close = cc
parts_det (other x y p) (nested p' q') = cc
parts_det (other x y p) (other x' y' p') = parts_det p p'

pub block_det : {s r t : Text} → BlockComment s r → BlockComment s t → r ≡ t
block_det (block p) (block q) = parts_det p q

newline_other : {c : ℕ} {s r : Text} → is_newline_char c ≡ false → Newline (c ∷ s) r → ⊥
newline_other x n = let y = newline_begins n in cc

pub line_det : {s r t : Text} → Line s r → Line s t → r ≡ t
line_det line_ends line_ends = refl
line_det line_ends (line_newline n) = elim n [ ]
line_det (line_newline n) line_ends = elim n [ ]
line_det (line_newline n) (line_newline m) = newline_det n m
line_det (line_newline n) (line_other x l) = absurd (newline_other x n)
line_det (line_other x l) (line_newline n) = absurd (newline_other x n)
line_det (line_other x l) (line_other y m) = line_det l m

pub line_comment_det : {s r t : Text} → LineComment s r → LineComment s t → r ≡ t
line_comment_det (line p) (line q) = line_det p q

space_block : {s r t : Text} → Space s r → BlockComment s t → ⊥
space_block (space x) (block p) = let y = slash_no_space in cc

pub ws_det : {s r t : Text} → Ws s r → Ws s t → r ≡ t
ws_det (ws_space p) (ws_space q) = space_det p q
ws_det (ws_space p) (ws_comment q) = absurd (space_block p q)
ws_det (ws_comment p) (ws_space q) = absurd (space_block q p)
ws_det (ws_comment p) (ws_comment q) = block_det p q

pub ws_dets : Det Ws
ws_dets s r t p q = ws_det p q

-- where two begin, their characters agree
newline_space : {s r t : Text} → Newline s r → Space s t → ⊥
newline_space n (space x) = newline_no_space _ (newline_begins n) x

newline_block : {s r t : Text} → Newline s r → BlockComment s t → ⊥
newline_block n (block p) = let x = newline_begins n in let y = slash_no_newline in cc

newline_comment : {s r t : Text} → Newline s r → LineComment s t → ⊥
newline_comment n (line p) = let x = newline_begins n in let y = slash_no_newline in cc

newline_ws : {s r t : Text} → Newline s r → Ws s t → ⊥
newline_ws n (ws_space p) = newline_space n p
newline_ws n (ws_comment p) = newline_block n p

comment_ws : {s r t : Text} → LineComment s r → Ws s t → ⊥
comment_ws (line l) (ws_space (space x)) = let y = slash_no_space in cc
comment_ws (line l) (ws_comment p) = let y = block_begins p in cc

-- what ends an escline begins with no ws
pub esc_end_ws : {s r t : Text} → EscEnd s r → Ws s t → ⊥
esc_end_ws (comment l) w = comment_ws l w
esc_end_ws (newline n) w = newline_ws n w
esc_end_ws ends (ws_space p) = elim p [ ]
esc_end_ws ends (ws_comment p) = elim p [ ]

pub esc_end_det : {s r t : Text} → EscEnd s r → EscEnd s t → r ≡ t
esc_end_det (comment p) (comment q) = line_comment_det p q
esc_end_det (comment p) (newline n) = absurd (newline_comment n p)
esc_end_det (comment p) ends = elim p [ ]
esc_end_det (newline n) (comment q) = absurd (newline_comment n q)
esc_end_det (newline n) (newline m) = newline_det n m
esc_end_det (newline n) ends = elim n [ ]
esc_end_det ends (comment q) = elim q [ ]
esc_end_det ends (newline n) = elim n [ ]
esc_end_det ends ends = refl

-- an escline ends where the longest run of ws after its backslash does
pub escline_ends_at : {s u r : Text} → Star Ws s u → ((t : Text) → Ws u t → ⊥) → Escline (92 ∷ s) r → EscEnd u r
escline_ends_at {r = r} run stuck (escline p e) = subst (λ u. EscEnd u r) (stops (meets ws_dets p run stuck) (λ u. esc_end_ws e)) e

escline_same : {s u r t : Text} → Star Ws s u → EscEnd u t → Escline (92 ∷ s) r → r ≡ t
escline_same run e p = esc_end_det (escline_ends_at run (λ t. esc_end_ws e) p) e

pub escline_det : {s r t : Text} → Escline s r → Escline s t → r ≡ t
escline_det p (escline q e) = escline_same q e p

escline_ws : {s r t : Text} → Escline s r → Ws s t → ⊥
escline_ws (escline p e) (ws_space (space x)) = let y = backslash_no_space in cc
escline_ws (escline p e) (ws_comment q) = let y = block_begins q in cc

pub node_space_det : {s r t : Text} → NodeSpace s r → NodeSpace s t → r ≡ t
node_space_det (ws p) (ws q) = ws_det p q
node_space_det (ws p) (node_escline q) = absurd (escline_ws q p)
node_space_det (node_escline p) (ws q) = absurd (escline_ws p q)
node_space_det (node_escline p) (node_escline q) = escline_det p q

pub break_det : {s r t : Text} → Break s r → Break s t → r ≡ t
break_det (break_newline p) (break_newline q) = newline_det p q
break_det (break_newline p) (break_comment q) = absurd (newline_comment p q)
break_det (break_comment p) (break_newline q) = absurd (newline_comment q p)
break_det (break_comment p) (break_comment q) = line_comment_det p q

newline_escline : {s r t : Text} → Newline s r → Escline s t → ⊥
newline_escline n (escline p e) = let x = newline_begins n in let y = backslash_no_newline in cc

comment_escline : {s r t : Text} → LineComment s r → Escline s t → ⊥
comment_escline (line l) p = let y = escline_begins p in cc

-- a node-space and a break never begin the same text
pub space_or_break : {s r t : Text} → NodeSpace s r → Break s t → ⊥
space_or_break (ws p) (break_newline n) = newline_ws n p
space_or_break (ws p) (break_comment l) = comment_ws l p
space_or_break (node_escline p) (break_newline n) = newline_escline n p
space_or_break (node_escline p) (break_comment l) = comment_escline l p

pub line_space_det : {s r t : Text} → LineSpace s r → LineSpace s t → r ≡ t
line_space_det (line_space p) (line_space q) = node_space_det p q
line_space_det (line_space p) (line_break q) = absurd (space_or_break p q)
line_space_det (line_break p) (line_space q) = absurd (space_or_break q p)
line_space_det (line_break p) (line_break q) = break_det p q

pub node_space_dets : Det NodeSpace
node_space_dets s r t p q = node_space_det p q

pub line_space_dets : Det LineSpace
line_space_dets s r t p q = line_space_det p q
