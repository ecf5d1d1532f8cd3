-- What is left of a text that is read.
use Rattle.std.proofs.Common.{arith, ◌+◌, ◌<◌, length}
use Rattle.kdl_text.specs.Chars.{Text, Star, plus}
use Rattle.kdl_text.specs.Chars.Star.{none as no_star, more}
use Rattle.kdl_text.specs.Trivia.{NodeSpace}
use Rattle.kdl_syntax.specs.Tokens.{Token, t_space}
use Rattle.kdl_syntax.specs.Internal.Handed.{Cuts, one, spaces}
use Rattle.kdl_syntax.proofs.Lexing.TokenUnique.{token_shorter}

spaces_shorter : {s r : Text} → Star NodeSpace s r → length r < length s + 1
spaces_shorter no_star = omega arith
spaces_shorter (more n m) = omega (arith, token_shorter (t_space n), spaces_shorter m)

-- a token has a character
pub cut_shorter : {s r : Text} {k : Token} → Cuts s k r → length r < length s
cut_shorter (one t) = token_shorter t
cut_shorter (spaces (plus n m)) = omega (arith, token_shorter (t_space n), spaces_shorter m)
