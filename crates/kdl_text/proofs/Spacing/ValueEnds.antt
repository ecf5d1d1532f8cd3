-- What may come after a value begins with no character of a bare string or a number; each node-space and break may.
use Rattle.std.proofs.Common.{◌≡◌, ℕ, Bool, true, false, ◌||◌, refl, arith}
use Rattle.std.proofs.Math.Bool.{or-true}
use Rattle.std.proofs.lemmas.Bool.Decides.{nat_tests}
use Rattle.kdl_text.specs.Chars.{Text, Space, Newline, is_space, is_newline_char, is_banned, is_punctuation, is_identifier_char, starts, crlf, one, space as a_space}
use Rattle.kdl_text.specs.Trivia.{Ws, NodeSpace, Break, block, line, escline, ends_value, ValueEnd}

pub space_no_identifier : (c : ℕ) → is_space c ≡ true → is_identifier_char c ≡ false
unfolding is_identifier_char
space_no_identifier c x = rw x refl

pub newline_no_identifier : (c : ℕ) → is_newline_char c ≡ true → is_identifier_char c ≡ false
unfolding is_identifier_char
newline_no_identifier c x = rw (x, or-true (is_space c)) refl

pub punctuation_no_identifier : (c : ℕ) → is_punctuation c ≡ true → is_identifier_char c ≡ false
unfolding is_identifier_char
punctuation_no_identifier c x = rw (x, or-true ((is_space c || is_newline_char c) || is_banned c)) refl

-- `= ) { } ;` end a bare string
pub ends_value_punctuation : (c : ℕ) → ends_value c ≡ true → is_punctuation c ≡ true
unfolding ends_value is_punctuation
ends_value_punctuation c x = grind (arith, nat_tests)

slash_punctuation : is_punctuation 47 ≡ true
unfolding is_punctuation
slash_punctuation = refl

backslash_punctuation : is_punctuation 92 ≡ true
unfolding is_punctuation
backslash_punctuation = refl

cr_newline : is_newline_char 13 ≡ true
unfolding is_newline_char
cr_newline = refl

space_no_identifier' : {s r : Text} → Space s r → starts is_identifier_char s ≡ false
space_no_identifier' (a_space {c = c} x) = space_no_identifier c x

newline_no_identifier' : {s r : Text} → Newline s r → starts is_identifier_char s ≡ false
newline_no_identifier' crlf = newline_no_identifier 13 cr_newline
newline_no_identifier' (one {c = c} x y) = newline_no_identifier c x

pub value_end_no_identifier : {wide : Bool} {s : Text} → ValueEnd wide s → starts is_identifier_char s ≡ false
value_end_no_identifier ValueEnd.nothing = refl
value_end_no_identifier (ValueEnd.punctuation {c = c} x) = punctuation_no_identifier c (ends_value_punctuation c x)
value_end_no_identifier (ValueEnd.space p) = space_no_identifier' p
value_end_no_identifier (ValueEnd.newline p) = newline_no_identifier' p
value_end_no_identifier (ValueEnd.escline (escline p e)) = punctuation_no_identifier 92 backslash_punctuation
value_end_no_identifier ValueEnd.line_comment = punctuation_no_identifier 47 slash_punctuation
value_end_no_identifier ValueEnd.block_comment = punctuation_no_identifier 47 slash_punctuation
value_end_no_identifier (ValueEnd.slashdash x) = punctuation_no_identifier 47 slash_punctuation

-- a node-space is a value end
pub space_ends : {wide : Bool} {s r : Text} → NodeSpace s r → ValueEnd wide s
space_ends (NodeSpace.ws (Ws.space p)) = ValueEnd.space p
space_ends (NodeSpace.ws (Ws.comment (block p))) = ValueEnd.block_comment
space_ends (NodeSpace.escline p) = ValueEnd.escline p

-- a break is a value end
pub break_ends : {wide : Bool} {s r : Text} → Break s r → ValueEnd wide s
break_ends (Break.newline p) = ValueEnd.newline p
break_ends (Break.comment (line l)) = ValueEnd.line_comment

-- what may come after a value without `/-` may with it
pub value_end_wider : {wide : Bool} {s : Text} → ValueEnd wide s → ValueEnd true s
value_end_wider ValueEnd.nothing = ValueEnd.nothing
value_end_wider (ValueEnd.punctuation x) = ValueEnd.punctuation x
value_end_wider (ValueEnd.space p) = ValueEnd.space p
value_end_wider (ValueEnd.newline p) = ValueEnd.newline p
value_end_wider (ValueEnd.escline p) = ValueEnd.escline p
value_end_wider ValueEnd.line_comment = ValueEnd.line_comment
value_end_wider ValueEnd.block_comment = ValueEnd.block_comment
value_end_wider (ValueEnd.slashdash x) = ValueEnd.slashdash refl
