-- Only line-spaces, up to the end of a text.
use Rattle.std.specs.Prelude.{Bool, true, false, [], Result, Ok, Err}
use Rattle.kdl_text.specs.Chars.{Text, Star}
use Rattle.kdl_text.specs.Trivia.{LineSpace}
use Rattle.kdl_syntax.specs.declared.lexer.LexFailure.{LexFailure}
use Rattle.kdl_syntax.specs.declared.lexer.LexFailure.TheVariants.{Faulty, Memory}
use Rattle.kdl_syntax.specs.declared.lexer.TokenKind.{TokenKind}
use Rattle.kdl_syntax.specs.declared.lexer.TokenKind.TheVariants.{Space, Newline}

-- a token that is made of line-spaces
abbrev pub is_line_space : TokenKind → Bool
is_line_space Space = true
is_line_space Newline = true
is_line_space _ = false

-- whether the text t is only line-spaces; an allocation failure says nothing
abbrev pub AreLineSpaces : Text → Result (Unit {0}) LexFailure → Type 0
AreLineSpaces t (Ok _) = Star LineSpace t []
AreLineSpaces t (Err Faulty) = Star LineSpace t [] → ⊥
AreLineSpaces t (Err Memory) = Unit {0}
