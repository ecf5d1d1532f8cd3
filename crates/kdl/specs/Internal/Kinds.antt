-- The kinds of tokens for a control, to which the value of a string makes no difference.
use Rattle.std.specs.Prelude.{◌≡◌, [], Option, Some, None, Result, Ok, Err}
use Rattle.kdl_text.specs.Chars.{Text}
use Rattle.kdl_syntax.specs.Tokens.{Token, string, NoToken}
use Rattle.kdl_syntax.specs.Internal.Handed.{Cuts, kind_view}
use Rattle.kdl_syntax.specs.declared.lexer.TokenKind.{TokenKind}
use Rattle.kdl_syntax.specs.declared.lexer.LexFailure.{LexFailure}
use Rattle.kdl_syntax.specs.declared.lexer.LexFailure.TheVariants.{Faulty, Memory}

-- the tokens are the same, or both are strings
abbrev pub IsLike : Token → Token → Type 0
IsLike (string v) (string w) = Unit {0}
IsLike j k = j ≡ k

-- a token like that of the kind begins the text s, before r; no token at the end of the text, or where it has a fault
abbrev pub ReadsNext : Text → Result (Option TokenKind) LexFailure → Text → Type 0
ReadsNext s (Ok (Some t)) r = (k : Token) × Cuts s k r × IsLike k (kind_view t)
ReadsNext s (Ok None) r = s ≡ []
ReadsNext s (Err Faulty) r = NoToken s
ReadsNext s (Err Memory) r = Unit {0}
