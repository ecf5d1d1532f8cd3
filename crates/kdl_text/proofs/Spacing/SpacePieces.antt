-- Comments and spaces are pieces of their text, and all but the rest of a line have a character at least.
use Rattle.std.proofs.Common.{◌≡◌, ℕ, ◌<◌, ◌≤◌, [], ◌∷◌, ◌++◌, length, refl, ap, sym, ◌∙◌, arith, append_assoc, length-append}
use Rattle.kdl_text.specs.Chars.{Text, Newline, crlf, one, Star, Space}
use Rattle.kdl_text.specs.Chars.Star.{none, more}
use Rattle.kdl_text.specs.Chars.Space.{space}
use Rattle.kdl_text.specs.Trivia.{Parts, BlockComment, Line, LineComment, Ws, EscEnd, Escline, NodeSpace, Break, LineSpace, Slashdash}
use Rattle.kdl_text.specs.Trivia.Parts.{close, nested, other}
use Rattle.kdl_text.specs.Trivia.BlockComment.{block}
use Rattle.kdl_text.specs.Trivia.Line.{ends as line_ends, newline as line_newline, other as line_other}
use Rattle.kdl_text.specs.Trivia.LineComment.{line}
use Rattle.kdl_text.specs.Trivia.Ws.{space as ws_space, comment as ws_comment}
use Rattle.kdl_text.specs.Trivia.EscEnd.{comment, newline, ends}
use Rattle.kdl_text.specs.Trivia.Escline.{escline}
use Rattle.kdl_text.specs.Trivia.NodeSpace.{ws, escline as node_escline}
use Rattle.kdl_text.specs.Trivia.Break.{newline as break_newline, comment as break_comment}
use Rattle.kdl_text.specs.Trivia.LineSpace.{space as line_space, «break» as line_break}
use Rattle.kdl_text.specs.Trivia.Slashdash.{slashdash}

-- r is the end of t after some piece
abbrev pub EndOf : Text → Text → Type 0
EndOf t r = (p : Text) × (t ≡ p ++ r)

pub end_all : (s : Text) → EndOf s s
end_all s = ([], refl)

pub end_more : (c : ℕ) {s r : Text} → EndOf s r → EndOf (c ∷ s) r
end_more c e = (c ∷ e.0, ap (λ z. c ∷ z) e.1)

pub end_then : {s t r : Text} → EndOf s t → EndOf t r → EndOf s r
end_then {r = r} e f = (e.0 ++ f.0, e.1 ∙ ap (λ z. e.0 ++ z) f.1 ∙ sym (append_assoc e.0 f.0 r))

pub end_length : {s r : Text} → EndOf s r → length r ≤ length s
end_length {r = r} e = omega (arith, ap length e.1, length-append e.0 r)

pub star_end : {R : Text → Text → Type 0} {s r : Text} → ((u v : Text) → R u v → EndOf u v) → Star R s r → EndOf s r
star_end f none = end_all _
star_end f (more p ps) = end_then (f _ _ p) (star_end f ps)

pub newline_end : {s r : Text} → Newline s r → EndOf s r
newline_end crlf = (13 ∷ 10 ∷ [], refl)
newline_end (one {c = c} x y) = (c ∷ [], refl)

pub space_end : {s r : Text} → Space s r → EndOf s r
space_end (space {c = c} x) = (c ∷ [], refl)

pub parts_end : {s r : Text} → Parts s r → EndOf s r
parts_end close = (42 ∷ 47 ∷ [], refl)
parts_end (nested p q) = end_more 47 (end_more 42 (end_then (parts_end p) (parts_end q)))
parts_end (other {c = c} x y p) = end_more c (parts_end p)

pub block_end : {s r : Text} → BlockComment s r → EndOf s r
block_end (block p) = end_more 47 (end_more 42 (parts_end p))

pub line_end : {s r : Text} → Line s r → EndOf s r
line_end line_ends = end_all []
line_end (line_newline n) = newline_end n
line_end (line_other {c = c} x l) = end_more c (line_end l)

pub line_comment_end : {s r : Text} → LineComment s r → EndOf s r
line_comment_end (line l) = end_more 47 (end_more 47 (line_end l))

pub ws_end : {s r : Text} → Ws s r → EndOf s r
ws_end (ws_space p) = space_end p
ws_end (ws_comment p) = block_end p

pub esc_end_end : {s r : Text} → EscEnd s r → EndOf s r
esc_end_end (comment l) = line_comment_end l
esc_end_end (newline n) = newline_end n
esc_end_end ends = end_all []

pub escline_end : {s r : Text} → Escline s r → EndOf s r
escline_end (escline p e) = end_more 92 (end_then (star_end (λ u v. ws_end) p) (esc_end_end e))

pub node_space_end : {s r : Text} → NodeSpace s r → EndOf s r
node_space_end (ws p) = ws_end p
node_space_end (node_escline p) = escline_end p

pub break_end : {s r : Text} → Break s r → EndOf s r
break_end (break_newline n) = newline_end n
break_end (break_comment l) = line_comment_end l

pub line_space_end : {s r : Text} → LineSpace s r → EndOf s r
line_space_end (line_space p) = node_space_end p
line_space_end (line_break p) = break_end p

pub slashdash_end : {s r : Text} → Slashdash s r → EndOf s r
slashdash_end (slashdash p) = end_more 47 (end_more 45 (star_end (λ u v. line_space_end) p))

-- no piece is empty
pub newline_shorter : {s r : Text} → Newline s r → length r < length s
newline_shorter crlf = omega arith
newline_shorter (one x y) = omega arith

pub space_shorter : {s r : Text} → Space s r → length r < length s
space_shorter (space x) = omega arith

pub parts_shorter : {s r : Text} → Parts s r → length r < length s
parts_shorter close = omega arith
parts_shorter (nested p q) = omega (arith, parts_shorter p, parts_shorter q)
parts_shorter (other x y p) = omega (arith, parts_shorter p)

pub block_shorter : {s r : Text} → BlockComment s r → length r < length s
block_shorter (block p) = omega (arith, parts_shorter p)

pub line_comment_shorter : {s r : Text} → LineComment s r → length r < length s
line_comment_shorter (line l) = omega (arith, end_length (line_end l))

pub ws_shorter : {s r : Text} → Ws s r → length r < length s
ws_shorter (ws_space p) = space_shorter p
ws_shorter (ws_comment p) = block_shorter p

pub escline_shorter : {s r : Text} → Escline s r → length r < length s
escline_shorter (escline p e) = omega (arith, end_length (star_end (λ u v. ws_end) p), end_length (esc_end_end e))

pub node_space_shorter : {s r : Text} → NodeSpace s r → length r < length s
node_space_shorter (ws p) = ws_shorter p
node_space_shorter (node_escline p) = escline_shorter p

pub break_shorter : {s r : Text} → Break s r → length r < length s
break_shorter (break_newline n) = newline_shorter n
break_shorter (break_comment l) = line_comment_shorter l

pub line_space_shorter : {s r : Text} → LineSpace s r → length r < length s
line_space_shorter (line_space p) = node_space_shorter p
line_space_shorter (line_break p) = break_shorter p
