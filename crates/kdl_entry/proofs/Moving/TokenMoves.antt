-- Tokens come before another rest too.
use Rattle.std.proofs.Common.{◌≡◌, ◌<◌, [], ◌∷◌, ◌++◌, length, Bool, true, false, refl, sym, ap, ◌∙◌, arith}
use Rattle.kdl_text.specs.Chars.{Text, begins, starts, is_identifier_char}
use Rattle.kdl_text.specs.Internal.Here.{first}
use Rattle.kdl_text.specs.Numbers.{whole, part, decimal, is_whole, is_decimal, keyword as a_keyword}
use Rattle.kdl_text.specs.Trivia.{Break}
use Rattle.kdl_value.specs.Data.{Value}
use Rattle.kdl_syntax.specs.Pieces.{PlainPiece, number, keyword}
use Rattle.kdl_syntax.specs.Tokens.{Token, space, newline, string, value, BeginsToken, t_space, t_newline, t_slashdash, t_string, t_value, t_left, t_right, t_opening, t_closing, t_equals, t_semicolon, t_bom}
use Rattle.kdl_syntax.proofs.Moving.FarMoves.{far_space, far_break}
use Rattle.kdl_syntax.proofs.Moving.PieceMoves.{move_plain_piece}
use Rattle.kdl_syntax.proofs.Moving.Puts.{Put, stands, also, starts_first}
use Rattle.kdl_syntax.proofs.Moving.StringMoves.{move_piece, move_piece_first, move_newline}
use Rattle.kdl_entry.proofs.Moving.EntryMoves.{move_space, move_comment}

-- what may follow a string, a number or a keyword without going on with it
abbrev pub Fits : Token → Text → Type 0
Fits (string v) u = (starts is_identifier_char u ≡ false) × (begins 34 u ≡ false)
Fits (value v) u = starts is_identifier_char u ≡ false
Fits _ u = Unit {0}

-- the token comes before u as it does before r
pub record Moved (s r : Text) (k : Token) (u : Text) : Type 0 where
  pub at : Put s r
  pub there : BeginsToken (at.put u) k u

-- or with an LF after it
pub record Last (s r : Text) (k : Token) (u : Text) : Type 0 where
  pub at : Put s r
  pub glue : Text
  pub there : BeginsToken (at.put (glue ++ u)) k u

abbrev is_mark : Token → Bool
is_mark space = false
is_mark newline = false
is_mark (string v) = false
is_mark (value v) = false
is_mark _ = true

-- a mark comes before each rest
mark : {s r : Text} {k : Token} → BeginsToken s k r → is_mark k ≡ true → (u : Text) → Moved s r k u
mark t_slashdash e u = record { at = also 47 (also 45 stands); there = t_slashdash }
mark t_left e u = record { at = also 40 stands; there = t_left }
mark t_right e u = record { at = also 41 stands; there = t_right }
mark t_opening e u = record { at = also 123 stands; there = t_opening }
mark t_closing e u = record { at = also 125 stands; there = t_closing }
mark t_equals e u = record { at = also 61 stands; there = t_equals }
mark t_semicolon e u = record { at = also 59 stands; there = t_semicolon }
mark t_bom e u = record { at = also 0xFEFF stands; there = t_bom }
mark _ e u = absurd cc

pub last_token : {s r : Text} {k : Token} → BeginsToken s k r → (u : Text) → begins 10 u ≡ false → Fits k u → Last s r k u
last_token (t_space m) u h f = let x = far_space m in record { at = x.at; glue = x.glue; there = t_space (x.there u h) }
last_token (t_newline m) u h f = let x = far_break m in record { at = x.at; glue = x.glue; there = t_newline (x.there u h) }
last_token (t_string p) u h f = let m = move_piece p in record { at = m.at; glue = []; there = t_string (m.there u f.0 f.1) }
last_token (t_value p) u h f = let m = move_plain_piece p in record { at = m.at; glue = []; there = t_value (m.there u f) }
last_token t u h f = let m = mark t refl u in record { at = m.at; glue = []; there = m.there }

-- no identifier character comes after a number or a keyword
plain_stops : {s r : Text} {v : Value} → PlainPiece s r v → starts is_identifier_char r ≡ false
plain_stops (number (is_whole (whole a b d e f g)) q) = e
plain_stops (number (is_decimal (decimal p a i (part x y z e) f g)) q) = e
plain_stops (keyword (a_keyword e n) q) = n

-- each token comes before each rest that begins with the same character, or is none
pub near : {s r : Text} {k : Token} → BeginsToken s k r → (u : Text) → first u ≡ first r → Moved s r k u
near (t_space m) u e = let x = move_space m in record { at = x.at; there = t_space (x.there u e) }
near (t_newline (Break.newline m)) u e = let x = move_newline m in record { at = x.at; there = t_newline (Break.newline (x.there u e)) }
near (t_newline (Break.comment m)) u e = let x = move_comment m in record { at = x.at; there = t_newline (Break.comment (x.there u e)) }
near (t_string p) u e = let m = move_piece_first p in record { at = m.at; there = t_string (m.there u e) }
near {r = r} (t_value p) u e = let m = move_plain_piece p in record { at = m.at; there = t_value (m.there u (starts_first is_identifier_char u r e ∙ plain_stops p)) }
near t u e = mark t refl u

-- a piece that is not empty begins the text, whatever follows it
pub full_of : {s r : Text} (p : Put s r) → length r < length s → (u : Text) → first (p.put u) ≡ first s
full_of {s = s} {r = r} p h u = go p.piece (p.text u) (p.here ∙ p.text r)
  where
    go : (q : Text) → p.put u ≡ q ++ u → s ≡ q ++ r → first (p.put u) ≡ first s
    go [] e f = absurd (omega (arith, h, ap length f))
    go (c ∷ q) e f = ap first e ∙ sym (ap first f)
