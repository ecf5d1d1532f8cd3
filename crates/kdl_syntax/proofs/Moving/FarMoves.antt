-- Spaces, comments and breaks come before each rest that begins with no LF. One that the end of the text ends does so with an LF after it.
use Rattle.std.proofs.Common.{◌≡◌, ℕ, true, false, ◌&&◌, ◌==◌, [], ◌∷◌, ◌++◌, refl, ap, ◌∙◌}
use Rattle.std.proofs.Math.Bool.{and-false}
use Rattle.kdl_text.specs.Chars.{Text, begins, begins_two, is_newline_char, Star, none, more, Newline, crlf, one, space as a_space}
use Rattle.kdl_text.specs.Internal.Here.{first}
use Rattle.kdl_text.specs.Trivia.{Parts, close, nested, block, Line, LineComment, line, Ws, EscEnd, escline, NodeSpace, Break}
use Rattle.kdl_syntax.proofs.Moving.Puts.{Put, stands, also, joined, begins_first}

-- it comes before each rest that begins with no LF; where the end of the text ended it, with an LF
pub record MoveFar (R : Text → Text → Type 0) (s r : Text) : Type 0 where
  pub at : Put s r
  pub glue : Text
  pub there : (u : Text) → begins 10 u ≡ false → R (at.put (glue ++ u)) u

-- it comes before each rest
pub record MoveAny (R : Text → Text → Type 0) (s r : Text) : Type 0 where
  pub at : Put s r
  pub there : (u : Text) → R (at.put u) u

-- and is not empty
record MoveShut (R : Text → Text → Type 0) (s r : Text) : Type 0 where
  at : Put s r
  full : (u : Text) → first (at.put u) ≡ first s
  there : (u : Text) → R (at.put u) u

two_same : (a b c : ℕ) (s t : Text) → first s ≡ first t → begins_two a b (c ∷ s) ≡ begins_two a b (c ∷ t)
two_same a b c s t e = ap (λ x. (c == a) && x) (begins_first b s t e)

feed : is_newline_char 10 ≡ true
unfolding is_newline_char
feed = refl

a_feed : (u : Text) → Newline (10 ∷ u) u
a_feed u = one feed refl

far_newline : {s r : Text} → Newline s r → MoveFar Newline s r
far_newline crlf = record { at = also 13 (also 10 stands); glue = []; there = λ u h. crlf }
far_newline (one {c = c} x y) = record { at = also c stands; glue = []; there = λ u h. one x (ap (λ b. (c == 13) && b) h ∙ and-false (c == 13)) }

far_line : {s r : Text} → Line s r → MoveFar Line s r
far_line Line.ends = record { at = stands; glue = 10 ∷ []; there = λ u h. Line.newline (a_feed u) }
far_line (Line.newline m) = let f = far_newline m in record { at = f.at; glue = f.glue; there = λ u h. Line.newline (f.there u h) }
far_line (Line.other {c = c} x l) = let f = far_line l in record { at = also c f.at; glue = f.glue; there = λ u h. Line.other x (f.there u h) }

far_comment : {s r : Text} → LineComment s r → MoveFar LineComment s r
far_comment (line l) = let f = far_line l in record { at = also 47 (also 47 f.at); glue = f.glue; there = λ u h. line (f.there u h) }

shut_parts : {s r : Text} → Parts s r → MoveShut Parts s r
shut_parts close = record { at = also 42 (also 47 stands); full = λ u. refl; there = λ u. close }
shut_parts (nested p q) =
    let m = shut_parts p in let n = shut_parts q in
    record { at = also 47 (also 42 (joined m.at n.at)); full = λ u. refl; there = λ u. nested (m.there (n.at.put u)) (n.there u) }
shut_parts (Parts.other {c = c} {s = s} x y p) =
    let m = shut_parts p in
    record {
      at = also c m.at;
      full = λ u. refl;
      there = λ u. Parts.other (two_same 47 42 c (m.at.put u) s (m.full u) ∙ x) (two_same 42 47 c (m.at.put u) s (m.full u) ∙ y) (m.there u);
    }

any_ws : {s r : Text} → Ws s r → MoveAny Ws s r
any_ws (Ws.space (a_space {c = c} x)) = record { at = also c stands; there = λ u. Ws.space (a_space x) }
any_ws (Ws.comment (block p)) = let m = shut_parts p in record { at = also 47 (also 42 m.at); there = λ u. Ws.comment (block (m.there u)) }

pub any_run : {s r : Text} → Star Ws s r → MoveAny (Star Ws) s r
any_run none = record { at = stands; there = λ u. none }
any_run (more n ns) = let m = any_ws n in let k = any_run ns in record { at = joined m.at k.at; there = λ u. more (m.there (k.at.put u)) (k.there u) }

far_esc : {s r : Text} → EscEnd s r → MoveFar EscEnd s r
far_esc (EscEnd.comment l) = let f = far_comment l in record { at = f.at; glue = f.glue; there = λ u h. EscEnd.comment (f.there u h) }
far_esc (EscEnd.newline m) = let f = far_newline m in record { at = f.at; glue = f.glue; there = λ u h. EscEnd.newline (f.there u h) }
far_esc EscEnd.ends = record { at = stands; glue = 10 ∷ []; there = λ u h. EscEnd.newline (a_feed u) }

pub far_space : {s r : Text} → NodeSpace s r → MoveFar NodeSpace s r
far_space (NodeSpace.ws w) = let m = any_ws w in record { at = m.at; glue = []; there = λ u h. NodeSpace.ws (m.there u) }
far_space (NodeSpace.escline (escline ss f)) =
    let m = any_run ss in let k = far_esc f in
    record { at = also 92 (joined m.at k.at); glue = k.glue; there = λ u h. NodeSpace.escline (escline (m.there (k.at.put (k.glue ++ u))) (k.there u h)) }

pub far_break : {s r : Text} → Break s r → MoveFar Break s r
far_break (Break.newline m) = let f = far_newline m in record { at = f.at; glue = f.glue; there = λ u h. Break.newline (f.there u h) }
far_break (Break.comment l) = let f = far_comment l in record { at = f.at; glue = f.glue; there = λ u h. Break.comment (f.there u h) }
