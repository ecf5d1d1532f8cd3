-- What the lexer returns.
use Rattle.std.specs.Char.{is_ascii_alphabetic}
use Rattle.std.specs.Prelude.{◌≡◌, ◌⊎◌, ℕ, Bool, true, false, ◌||◌, ◌==◌, [], ◌∷◌, ◌++◌, Option, Some, None, Result, Ok, Err}
use Rattle.kdl_text.specs.Chars.{Text, Space as SpaceChar, Plus, starts, begins_two, is_digit, is_space}
use Rattle.kdl_text.specs.Internal.Here.{Here}
use Rattle.kdl_text.specs.Internal.Reading.{Costs}
use Rattle.kdl_text.specs.Trivia.{NodeSpace, BlockComment, LineComment}
use Rattle.kdl_text.specs.Internal.TriviaReading.{PieceCosts}
use Rattle.kdl_text.specs.declared.trivia.SlashRead.{SlashRead}
use Rattle.kdl_text.specs.declared.trivia.SlashRead.TheVariants.{Block, Line, Dash, Unclosed, Other as NoSlash}
use Rattle.kdl_text.specs.declared.strings.StringFailure.{StringFailure}
use Rattle.kdl_text.specs.declared.strings.StringFailure.TheVariants.{Fault as StringFaulty, Memory as StringMemory}
use Rattle.kdl_value.specs.Tree.{value_tree, text_of}
use Rattle.kdl_syntax.specs.Tokens as tokens
use Rattle.kdl_syntax.specs.Tokens.{BeginsToken, NoToken}
use Rattle.kdl_syntax.specs.declared.lexer.TokenKind.{TokenKind}
use Rattle.kdl_syntax.specs.declared.lexer.TokenKind.TheVariants.{Space, Newline, Slashdash, String, Value, Left, Right, Opening, Closing, Equals, Semicolon, Bom}
use Rattle.kdl_syntax.specs.declared.lexer.Token.{Token}
use Rattle.kdl_syntax.specs.declared.lexer.NextToken.{NextToken}
use Rattle.kdl_syntax.specs.declared.lexer.NextToken.TheVariants.{Space as Spaces, Newline as Lines, Word, Other, End}
use Rattle.kdl_syntax.specs.declared.token_span.TokenSpan.{TokenSpan}
use Rattle.kdl_syntax.specs.declared.lexer.LexFailure.{LexFailure}
use Rattle.kdl_syntax.specs.declared.lexer.LexFailure.TheVariants.{Faulty, Memory}

-- the token k begins the text; a run of node-spaces may be read as one token
pub data Cuts : Text → tokens.Token → Text → Type 0 where
  one : {s r : Text} {k : tokens.Token} → BeginsToken s k r → Cuts s k r
  spaces : {s r : Text} → Plus NodeSpace s r → Cuts s tokens.space r

-- the token k begins the text; a run of spaces is read as one token
pub data Alone : Text → tokens.Token → Text → Type 0 where
  token : {s r : Text} {k : tokens.Token} → BeginsToken s k r → Alone s k r
  run : {s r : Text} → Plus SpaceChar s r → Alone s tokens.space r

-- the token that a kind represents
abbrev pub kind_view : TokenKind → tokens.Token
kind_view Space = tokens.space
kind_view Newline = tokens.newline
kind_view Slashdash = tokens.slashdash
kind_view (String s) = tokens.string (text_of s)
kind_view (Value v) = tokens.value (value_tree v)
kind_view Left = tokens.left
kind_view Right = tokens.right
kind_view Opening = tokens.opening
kind_view Closing = tokens.closing
kind_view Equals = tokens.equals
kind_view Semicolon = tokens.semicolon
kind_view Bom = tokens.bom

-- the kind of the token that was read at s, before r
abbrev pub ReadsKind : Text → Result TokenKind LexFailure → Text → Type 0
ReadsKind s (Ok k) r = BeginsToken s (kind_view k) r
ReadsKind s (Err Faulty) r = NoToken s
ReadsKind s (Err Memory) r = Unit {0}

-- what a token costs: at most k steps for each byte, and it has at least one; if no token begins here, at most k for each byte that was read, and k more
abbrev pub KindCosts : {A : Type 0} → ℕ → Result A LexFailure → Here → Here → Type 0
KindCosts k (Ok x) old new = PieceCosts k old new
KindCosts k (Err Faulty) old new = Costs k k old new
KindCosts k (Err Memory) old new = Unit {0}

-- where a string has a fault no token begins, and an allocation failure is passed on as such
abbrev pub Passes : StringFailure → LexFailure → Type 0
Passes (StringFaulty e) f = f ≡ Faulty
Passes StringMemory f = f ≡ Memory

-- `( ) { } = ;` and U+FEFF, each of which is a token
abbrev pub is_single : ℕ → Bool
is_single c = ((c == 40 || c == 41) || (c == 123 || c == 125)) || ((c == 61 || c == 59) || c == 0xFEFF)

-- neither a space, nor a digit, nor a slash, nor a token by itself
pub record IsOther (c : ℕ) : Type 0 where
  pub no_space : is_space c ≡ false
  pub no_slash : (c == 47) ≡ false
  pub no_digit : is_digit c ≡ false
  pub no_single : is_single c ≡ false

-- the kind of the token that the character c is, or that it is not a token by itself
abbrev pub IsPunctuation : ℕ → Option TokenKind → Type 0
IsPunctuation c (Some k) = (r : Text) → BeginsToken (c ∷ r) (kind_view k) r
IsPunctuation c None = is_single c ≡ false

-- the token k is between two places
pub record HandsOver (old : Here) (k : tokens.Token) (span : TokenSpan) (new : Here) : Type 0 where
  pub cuts : Cuts old.rest k new.rest
  pub start_rest : span.start.rest ≡ old.rest
  pub start_at : span.start.at ≡ old.at
  pub end_rest : span.end.rest ≡ new.rest
  pub end_at : span.end.at ≡ new.at

-- the token with its span
abbrev pub HandsOut : Here → Token → Here → Type 0
HandsOut old t new = HandsOver old (kind_view t.kind) t.at new

-- what a call returns
abbrev pub Lexed : Here → Result (Option Token) LexFailure → Here → Type 0
Lexed old (Ok (Some t)) new = HandsOut old t new
Lexed old (Ok None) new = old.rest ≡ []
Lexed old (Err Faulty) new = NoToken old.rest
Lexed old (Err Memory) new = Unit {0}

-- a token costs at most 24 steps for each byte, and at least one for each character; the end of the text costs one;
-- if no token begins here, each byte that was read costs at most 24, and the fault itself 24
abbrev pub LexCosts : Result (Option Token) LexFailure → Here → Here → Type 0
LexCosts (Ok (Some t)) old new = Costs 24 0 old new
LexCosts (Ok None) old new = Costs 24 1 old new
LexCosts (Err Faulty) old new = Costs 24 24 old new
LexCosts (Err Memory) old new = Unit {0}

-- a token is read alone, or is a run of spaces
abbrev pub ReadsAlone : Here → Result (Option Token) LexFailure → Here → Type 0
ReadsAlone old (Ok (Some t)) new = Alone old.rest (kind_view t.kind) new.rest
ReadsAlone old (Ok None) new = Unit {0}
ReadsAlone old (Err f) new = Unit {0}

-- what a call returns that returns common tokens apart; a bare string is as it is in the text
abbrev pub LexedNext : Here → Result NextToken LexFailure → Here → Type 0
LexedNext old (Ok (Spaces span)) new = HandsOver old tokens.space span new
LexedNext old (Ok (Lines span)) new = HandsOver old tokens.newline span new
LexedNext old (Ok (Word w span)) new = HandsOver old (tokens.string w) span new × (old.rest ≡ w ++ new.rest)
LexedNext old (Ok (Other t)) new = HandsOut old t new
LexedNext old (Ok End) new = old.rest ≡ []
LexedNext old (Err f) new = Lexed old (Err f) new

-- the same: a token is read alone, or is a run of spaces
abbrev pub AloneNext : Here → Result NextToken LexFailure → Here → Type 0
AloneNext old (Ok (Spaces span)) new = Alone old.rest tokens.space new.rest
AloneNext old (Ok (Lines span)) new = Alone old.rest tokens.newline new.rest
AloneNext old (Ok (Word w span)) new = Alone old.rest (tokens.string w) new.rest
AloneNext old (Ok (Other t)) new = Alone old.rest (kind_view t.kind) new.rest
AloneNext old (Ok End) new = Unit {0}
AloneNext old (Err f) new = Unit {0}

-- what is next, by what was read at the slash where the span begins
abbrev pub IsAfterSlash : SlashRead → TokenSpan → Result NextToken LexFailure → Type 0
IsAfterSlash Block span r = r ≡ Ok (Spaces span)
IsAfterSlash Line span r = r ≡ Ok (Lines span)
IsAfterSlash Dash span r = r ≡ Ok (Other (record { kind = Slashdash; at = span }))
IsAfterSlash Unclosed span r = r ≡ Err Faulty
IsAfterSlash NoSlash span r = r ≡ Err Faulty

-- the same cost
abbrev pub NextCosts : Result NextToken LexFailure → Here → Here → Type 0
NextCosts (Ok End) old new = Costs 24 1 old new
NextCosts (Ok n) old new = Costs 24 0 old new
NextCosts (Err f) old new = LexCosts (Err f) old new

-- a space, a line feed or an ASCII letter
abbrev pub begins_apart : ℕ → Bool
begins_apart c = (is_space c || c == 10) || is_ascii_alphabetic c

-- the spaces up to the first character that is none
abbrev pub IsRun : Text → Text → Type 0
IsRun s r = (starts is_space s ≡ true) × (starts is_space r ≡ false)

-- comments, and tokens that begin with a space, a line feed or an ASCII letter, are returned apart
abbrev pub ReturnsApart : Here → Result NextToken LexFailure → Here → Type 0
ReturnsApart old (Ok (Spaces span)) new = IsRun old.rest new.rest ⊎ BlockComment old.rest new.rest
ReturnsApart old (Ok (Lines span)) new = (starts (λ c. c == 10) old.rest ≡ true) ⊎ LineComment old.rest new.rest
ReturnsApart old (Ok (Word w span)) new = starts is_ascii_alphabetic old.rest ≡ true
ReturnsApart old (Ok (Other t)) new = (starts begins_apart old.rest ≡ false) × (begins_two 47 42 old.rest ≡ false) × (begins_two 47 47 old.rest ≡ false)
ReturnsApart old (Ok End) new = Unit {0}
ReturnsApart old (Err f) new = Unit {0}
