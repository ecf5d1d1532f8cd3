-- Where no token begins before the end of the text, the text is no document.
use Rattle.std.proofs.Common.{◌≡◌, List, [], ◌∷◌, refl, sym, subst}
use Rattle.kdl_text.specs.Chars.{Text}
use Rattle.kdl_syntax.specs.Tokens.{Token, BeginsToken, Lexes, done, next}
use Rattle.kdl_syntax.proofs.Lexing.TokenUnique.{token_det, no_token}
use Rattle.kdl_grammar.specs.Data.{Nodes}
use Rattle.kdl_grammar.specs.Grammar.{IsDocument}
use Rattle.kdl_grammar.proofs.Reading.Erased.{lexed}

-- the text begins with these tokens, and the rest is r
pub data Begins : Text → List Token → Text → Type 0 where
  here : {s : Text} → Begins s [] s
  then : {s t r : Text} {k : Token} {ks : List Token} → BeginsToken s k t → Begins t ks r → Begins s (k ∷ ks) r

pub stuck : {s r : Text} {ks js : List Token} → Begins s ks r → (r ≡ [] → ⊥) → ((k : Token) (t : Text) → BeginsToken r k t → ⊥) → Lexes s js → ⊥
stuck here some none done = some refl
stuck here some none (next t l) = none _ _ t
stuck (then t b) some none done = no_token t
stuck (then t b) some none (next {ks = js} u l) = stuck b some none (subst (λ r. Lexes r js) (sym (token_det t u).0) l)

pub faulty : {s r : Text} {ks : List Token} → Begins s ks r → (r ≡ [] → ⊥) → ((k : Token) (t : Text) → BeginsToken r k t → ⊥) → (x : Nodes) → IsDocument s x → ⊥
faulty {s = s} b some none x d = stuck b some none (lexed s x d).1
