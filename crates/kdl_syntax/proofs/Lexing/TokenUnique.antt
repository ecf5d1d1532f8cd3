-- A text begins with one token at most; before a token that may come after a value, a value ends.
use Rattle.std.proofs.Common.{◌≡◌, ℕ, ◌<◌, List, Bool, true, false, [], ◌∷◌, length, cond, refl, sym, ap, ◌∙◌, ◌==◌, ◌||◌, arith}
use Rattle.std.proofs.lemmas.Bool.Decides.{nat_tests}
use Rattle.kdl_text.specs.Chars.{Text, crlf, is_space, is_newline_char, is_banned, is_punctuation, is_identifier_char, begins, starts}
use Rattle.kdl_text.specs.Chars.Newline.{one as newline_char}
use Rattle.kdl_text.specs.Chars.Space.{space as space_char}
use Rattle.kdl_text.specs.Trivia.{BlockComment, LineComment, Escline, ends_value, ValueEnd}
use Rattle.kdl_text.specs.Trivia.BlockComment.{block}
use Rattle.kdl_text.specs.Trivia.LineComment.{line}
use Rattle.kdl_text.specs.Trivia.Ws.{space as ws_space, comment as ws_comment}
use Rattle.kdl_text.specs.Trivia.Escline.{escline}
use Rattle.kdl_text.specs.Trivia.NodeSpace.{ws, escline as node_escline}
use Rattle.kdl_text.specs.Trivia.Break.{newline as break_newline, comment as break_comment}
use Rattle.kdl_text.proofs.Looking.Ends.{End}
use Rattle.kdl_text.proofs.Spacing.SpaceUnique.{node_space_det, break_det, newline_no_space}
use Rattle.kdl_text.proofs.Spacing.SpacePieces.{EndOf, node_space_shorter, break_shorter}
use Rattle.kdl_text.proofs.Spacing.ValueEnds.{space_ends, break_ends}
use Rattle.kdl_value.specs.Data.{Value}
use Rattle.kdl_syntax.specs.Pieces.{StringPiece, PlainPiece}
use Rattle.kdl_syntax.specs.Tokens.{Token, space, newline, slashdash, string, value, left, right, opening, closing, equals, semicolon, bom, BeginsToken, t_space, t_newline, t_slashdash, t_string, t_value, t_left, t_right, t_opening, t_closing, t_equals, t_semicolon, t_bom, Lexes, done, next}
use Rattle.kdl_syntax.proofs.Lexing.StringUnique.{begins_piece, string_det, string_begins, string_shorter, string_or_plain, plain_det, plain_begins, plain_shorter}

-- the kinds of tokens, as their first two characters tell them; strings, numbers and keywords are of one kind
pub data Kind : Type 0 where
  k_space : Kind
  k_newline : Kind
  k_slashdash : Kind
  k_piece : Kind
  k_left : Kind
  k_right : Kind
  k_opening : Kind
  k_closing : Kind
  k_equals : Kind
  k_semicolon : Kind
  k_bom : Kind

slash : Text → Kind
slash [] = k_slashdash
slash (d ∷ s) = cond (d == 42) k_space (cond (d == 47) k_newline k_slashdash)

sign : ℕ → Text → Kind
sign c s =
    cond (c == 47) (slash s) (cond (c == 92) k_space (cond (c == 40) k_left (cond (c == 41) k_right (cond (c == 123) k_opening (cond (c == 125) k_closing (cond (c == 61) k_equals (cond (c == 59) k_semicolon k_bom)))))))

pub kind : Text → Kind
kind [] = k_bom
kind (c ∷ s) = cond (is_space c) k_space (cond (is_newline_char c) k_newline (cond (begins_piece c) k_piece (sign c s)))

unfoldable pub kind_of : Token → Kind
kind_of space = k_space
kind_of newline = k_newline
kind_of slashdash = k_slashdash
kind_of (string v) = k_piece
kind_of (value v) = k_piece
kind_of left = k_left
kind_of right = k_right
kind_of opening = k_opening
kind_of closing = k_closing
kind_of equals = k_equals
kind_of semicolon = k_semicolon
kind_of bom = k_bom

-- no character is of two classes
piece_no_space : (c : ℕ) → begins_piece c ≡ true → is_space c ≡ false
unfolding is_identifier_char is_space is_newline_char is_banned is_punctuation
piece_no_space c h = grind (arith, nat_tests)

piece_no_newline : (c : ℕ) → begins_piece c ≡ true → is_newline_char c ≡ false
unfolding is_identifier_char is_space is_newline_char is_banned is_punctuation
piece_no_newline c h = grind (arith, nat_tests)

newline_kind : (c : ℕ) (s : Text) → is_newline_char c ≡ true → kind (c ∷ s) ≡ k_newline
unfolding kind
newline_kind c s x = go (is_space c) refl
  where
    go : (b : Bool) → is_space c ≡ b → kind (c ∷ s) ≡ k_newline
    go true e = absurd (newline_no_space c x e)
    go false e = rw (e, x) refl

piece_kind : (s : Text) → starts begins_piece s ≡ true → kind s ≡ k_piece
unfolding kind
piece_kind [] h = cc
piece_kind (c ∷ s) h = rw (piece_no_space c h, piece_no_newline c h, h) refl

lf : is_newline_char 13 ≡ true
unfolding is_newline_char
lf = refl

pub kind_is : {s r : Text} {k : Token} → BeginsToken s k r → kind s ≡ kind_of k
unfolding kind kind_of sign slash is_space is_newline_char is_identifier_char is_banned is_punctuation
kind_is (t_space (ws (ws_space (space_char x)))) = rw x refl
kind_is (t_space (ws (ws_comment (block p)))) = refl
kind_is (t_space (node_escline (escline st e))) = refl
kind_is (t_newline (break_newline (crlf {r = r}))) = newline_kind 13 (10 ∷ r) lf
kind_is (t_newline (break_newline (newline_char {c = c} {r = r} x y))) = newline_kind c r x
kind_is (t_newline (break_comment (line l))) = refl
kind_is t_slashdash = refl
kind_is {s = s} (t_string p) = piece_kind s (string_begins p)
kind_is {s = s} (t_value p) = piece_kind s (plain_begins p)
kind_is t_left = refl
kind_is t_right = refl
kind_is t_opening = refl
kind_is t_closing = refl
kind_is t_equals = refl
kind_is t_semicolon = refl
kind_is t_bom = refl

-- no more of the text tells its kind
pub kind_front : (c d : ℕ) (s u : Text) → kind (c ∷ d ∷ s) ≡ kind (c ∷ d ∷ u)
unfolding kind sign slash
kind_front c d s u = refl

-- nor more than the first character, where it is no slash
pub kind_first : (c : ℕ) (s u : Text) → (c == 47) ≡ false → kind (c ∷ s) ≡ kind (c ∷ u)
unfolding kind sign
kind_first c s u h = rw h refl

same : {s r t : Text} {k j : Token} → BeginsToken s k r → BeginsToken s j t → kind_of k ≡ kind_of j → (r ≡ t) × (k ≡ j)
unfolding kind_of
same (t_space x) (t_space y) e = (node_space_det x y, refl)
same (t_newline x) (t_newline y) e = (break_det x y, refl)
same (t_string x) (t_string y) e = let d = string_det x y in (d.0, ap string d.1)
same (t_value x) (t_value y) e = let d = plain_det x y in (d.0, ap value d.1)
same (t_string x) (t_value y) e = absurd (string_or_plain x y)
same (t_value x) (t_string y) e = absurd (string_or_plain y x)
same t_slashdash t_slashdash e = (refl, refl)
same t_left t_left e = (refl, refl)
same t_right t_right e = (refl, refl)
same t_opening t_opening e = (refl, refl)
same t_closing t_closing e = (refl, refl)
same t_equals t_equals e = (refl, refl)
same t_semicolon t_semicolon e = (refl, refl)
same t_bom t_bom e = (refl, refl)
same _ _ e = absurd cc

pub token_det : {s r t : Text} {k j : Token} → BeginsToken s k r → BeginsToken s j t → (r ≡ t) × (k ≡ j)
token_det p q = same p q (sym (kind_is p) ∙ kind_is q)

pub token_shorter : {s r : Text} {k : Token} → BeginsToken s k r → length r < length s
token_shorter (t_space x) = node_space_shorter x
token_shorter (t_newline x) = break_shorter x
token_shorter t_slashdash = omega arith
token_shorter (t_string p) = string_shorter p
token_shorter (t_value p) = plain_shorter p
token_shorter t_left = omega arith
token_shorter t_right = omega arith
token_shorter t_opening = omega arith
token_shorter t_closing = omega arith
token_shorter t_equals = omega arith
token_shorter t_semicolon = omega arith
token_shorter t_bom = omega arith

pub no_token : {r : Text} {k : Token} → BeginsToken [] k r → ⊥
no_token t = omega (arith, token_shorter t)

pub end_of : {s r : Text} → EndOf s r → End s r
end_of e = record { piece = e.0; text = e.1 }

-- the token may come after a value
abbrev pub is_end : Token → Bool
is_end (string v) = false
is_end (value v) = false
is_end left = false
is_end bom = false
is_end _ = true

abbrev pub may_end : List Token → Bool
may_end [] = true
may_end (k ∷ ks) = is_end k

closes : (c : ℕ) → ((c == 41 || c == 123) || (c == 125 || (c == 61 || c == 59))) ≡ true → ends_value c ≡ true
unfolding ends_value
closes c h = grind (arith, nat_tests)

-- before a token that may come after a value, the value ends
pub end_after : {s r : Text} {k : Token} → BeginsToken s k r → is_end k ≡ true → ValueEnd true s
end_after (t_space n) e = space_ends n
end_after (t_newline n) e = break_ends n
end_after t_slashdash e = ValueEnd.slashdash refl
end_after (t_string p) e = cc
end_after (t_value p) e = cc
end_after t_left e = cc
end_after t_bom e = cc
end_after t_right e = ValueEnd.punctuation (closes 41 refl)
end_after t_opening e = ValueEnd.punctuation (closes 123 refl)
end_after t_closing e = ValueEnd.punctuation (closes 125 refl)
end_after t_equals e = ValueEnd.punctuation (closes 61 refl)
end_after t_semicolon e = ValueEnd.punctuation (closes 59 refl)

-- where the next token may come after a value, the value ends
pub value_end : {s : Text} {ks : List Token} → Lexes s ks → may_end ks ≡ true → ValueEnd true s
value_end done e = ValueEnd.nothing
value_end (next t l) e = end_after t e

-- where no string, number or keyword begins with a character of theirs, no token begins
piece_alone : {c : ℕ} {s r : Text} {k : Token} → begins_piece c ≡ true → ((r v : Text) → StringPiece (c ∷ s) r v → ⊥) → ((r : Text) (v : Value) → PlainPiece (c ∷ s) r v → ⊥) → BeginsToken (c ∷ s) k r → kind_of k ≡ k_piece → ⊥
unfolding kind_of
piece_alone h f g (t_string p) e = f _ _ p
piece_alone h f g (t_value p) e = g _ _ p
piece_alone h f g (t_space x) e = cc
piece_alone h f g (t_newline x) e = cc
piece_alone h f g t_slashdash e = cc
piece_alone h f g t_left e = cc
piece_alone h f g t_right e = cc
piece_alone h f g t_opening e = cc
piece_alone h f g t_closing e = cc
piece_alone h f g t_equals e = cc
piece_alone h f g t_semicolon e = cc
piece_alone h f g t_bom e = cc

pub no_piece : (c : ℕ) (s : Text) → begins_piece c ≡ true → ((r v : Text) → StringPiece (c ∷ s) r v → ⊥) → ((r : Text) (v : Value) → PlainPiece (c ∷ s) r v → ⊥) → (r : Text) (k : Token) → BeginsToken (c ∷ s) k r → ⊥
no_piece c s h f g r k t = piece_alone h f g t (sym (kind_is t) ∙ piece_kind (c ∷ s) h)

slash_space : is_space 47 ≡ false
unfolding is_space
slash_space = refl

slash_newline : is_newline_char 47 ≡ false
unfolding is_newline_char
slash_newline = refl

slash_piece : begins_piece 47 ≡ false
unfolding is_identifier_char is_space is_newline_char is_banned is_punctuation
slash_piece = refl

-- where no comment and no slashdash begins with a slash, no token does
pub no_slash : (s : Text) → ((r : Text) → BlockComment (47 ∷ s) r → ⊥) → ((r : Text) → LineComment (47 ∷ s) r → ⊥) → begins 45 s ≡ false → (r : Text) (k : Token) → BeginsToken (47 ∷ s) k r → ⊥
no_slash s f g h r k (t_space (ws (ws_space (space_char x)))) = let y = slash_space in cc
no_slash s f g h r k (t_space (ws (ws_comment b))) = f r b
no_slash s f g h r k (t_space (node_escline e)) = elim e [ ]
no_slash s f g h r k (t_newline (break_newline (newline_char x y))) = let z = slash_newline in cc
no_slash s f g h r k (t_newline (break_comment l)) = g r l
no_slash s f g h r k t_slashdash = cc
no_slash s f g h r k (t_string p) = let x = string_begins p in let y = slash_piece in cc
no_slash s f g h r k (t_value p) = let x = plain_begins p in let y = slash_piece in cc

back_space : is_space 92 ≡ false
unfolding is_space
back_space = refl

back_newline : is_newline_char 92 ≡ false
unfolding is_newline_char
back_newline = refl

back_piece : begins_piece 92 ≡ false
unfolding is_identifier_char is_space is_newline_char is_banned is_punctuation
back_piece = refl

-- where no escline begins with a backslash, no token does
pub no_backslash : (s : Text) → ((r : Text) → Escline (92 ∷ s) r → ⊥) → (r : Text) (k : Token) → BeginsToken (92 ∷ s) k r → ⊥
no_backslash s f r k (t_space (ws (ws_space (space_char x)))) = let y = back_space in cc
no_backslash s f r k (t_space (node_escline e)) = f r e
no_backslash s f r k (t_space (ws (ws_comment b))) = elim b [ ]
no_backslash s f r k (t_newline (break_comment l)) = elim l [ ]
no_backslash s f r k (t_newline (break_newline (newline_char x y))) = let z = back_newline in cc
no_backslash s f r k (t_string p) = let x = string_begins p in let y = back_piece in cc
no_backslash s f r k (t_value p) = let x = plain_begins p in let y = back_piece in cc

-- a character with which no token begins
pub record Alien (c : ℕ) : Type 0 where
  pub space : is_space c ≡ false
  pub newline : is_newline_char c ≡ false
  pub piece : begins_piece c ≡ false
  pub punctuation : (((c == 47) || (c == 92)) || ((c == 40) || (c == 41))) || (((c == 123) || (c == 125)) || (((c == 61) || (c == 59)) || (c == 0xFEFF))) ≡ false

alien_other : {c : ℕ} {s r : Text} {k : Token} → Alien c → BeginsToken (c ∷ s) k r → ⊥
alien_other a (t_space (ws (ws_space (space_char x)))) = let y = a.space in cc
alien_other a (t_space (ws (ws_comment (block p)))) = let y = a.punctuation in cc
alien_other a (t_space (node_escline (escline st e))) = let y = a.punctuation in cc
alien_other a (t_newline (break_newline crlf)) = let y = a.newline in let z = lf in cc
alien_other a (t_newline (break_newline (newline_char x y))) = let z = a.newline in cc
alien_other a (t_newline (break_comment (line l))) = let y = a.punctuation in cc
alien_other a t_slashdash = let y = a.punctuation in cc
alien_other a (t_string p) = let x = string_begins p in let y = a.piece in cc
alien_other a (t_value p) = let x = plain_begins p in let y = a.piece in cc
alien_other a t_left = let y = a.punctuation in cc
alien_other a t_right = let y = a.punctuation in cc
alien_other a t_opening = let y = a.punctuation in cc
alien_other a t_closing = let y = a.punctuation in cc
alien_other a t_equals = let y = a.punctuation in cc
alien_other a t_semicolon = let y = a.punctuation in cc
alien_other a t_bom = let y = a.punctuation in cc

pub no_alien : (c : ℕ) (s : Text) → Alien c → (r : Text) (k : Token) → BeginsToken (c ∷ s) k r → ⊥
no_alien c s a r k t = alien_other a t
