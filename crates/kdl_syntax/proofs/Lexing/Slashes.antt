-- What is next in a text at a slash, and at a letter, after a look.
use Rattle.std.proofs.Common.{◌≡◌, ℕ, [], ◌++◌, ◌∷◌, ◌==◌, true, false, refl, sym, ap, subst, ◌∙◌, arith, inr}
use Rattle.std.specs.Char.{is_ascii_alphabetic}
use Rattle.std.specs.Prelude.{Some, Result, Err}
use Rattle.kdl_text.specs.Chars.{Text, begins_two, starts, is_space}
use Rattle.kdl_text.specs.Bare.{BareString}
use Rattle.kdl_text.specs.Bare.BareString.{bare}
use Rattle.kdl_text.specs.Internal.Here.{Here, first, tail, looked}
use Rattle.kdl_text.specs.Internal.Reading.{Moves, Costs}
use Rattle.kdl_text.specs.Internal.TriviaReading.{PieceCosts, ReadsSlash, SlashCosts}
use Rattle.kdl_text.specs.Trivia.{BlockComment, LineComment}
use Rattle.kdl_text.specs.declared.trivia.SlashRead.{SlashRead}
use Rattle.kdl_text.specs.declared.trivia.SlashRead.TheVariants.{Block, Line, Dash, Unclosed, Other}
use Rattle.kdl_syntax.specs.Internal.Handed.{Alone, AloneNext, Cuts, one, HandsOver, Lexed, LexedNext, NextCosts, ReturnsApart, IsAfterSlash, begins_apart}
use Rattle.kdl_syntax.specs.Tokens.{Token, BeginsToken, NoToken, space, newline, slashdash}
use Rattle.kdl_syntax.specs.declared.lexer.LexFailure.{LexFailure}
use Rattle.kdl_syntax.specs.declared.lexer.LexFailure.TheVariants.{Faulty}
use Rattle.kdl_syntax.specs.declared.lexer.NextToken.{NextToken}
use Rattle.kdl_syntax.specs.declared.token_span.TokenSpan.{TokenSpan}
use Rattle.kdl_syntax.proofs.Lexing.TokenCost.{bare_costs, faulty_costs, first_is, no_token_costs, token_costs}
use Rattle.kdl_syntax.proofs.Lexing.TokenReads.{a_block_here, a_line_here, a_dash_here, letter_here, no_bare_here, no_digit_letter, no_slash_here, unclosed_here}

-- what costs at most 9 or 20 steps for each byte costs at most 22
nine : (a b : Here) → PieceCosts 9 a b → PieceCosts 22 a b
nine a b p = record { fewer = p.fewer; costs = record { most = omega (arith, p.costs.most, p.fewer); least = p.costs.least } }

twenty : (a b : Here) → PieceCosts 20 a b → PieceCosts 22 a b
twenty a b p = record { fewer = p.fewer; costs = record { most = omega (arith, p.costs.most, p.fewer); least = p.costs.least } }

slash_apart : (s r : Text) → s ≡ 47 ∷ 45 ∷ r → (starts begins_apart s ≡ false) × (begins_two 47 42 s ≡ false) × (begins_two 47 47 s ≡ false)
unfolding is_space
slash_apart s r e = rw e (refl, refl, refl)

module _ (a b e : Here) (l : b ≡ looked a) where
  here : b.rest ≡ a.rest
  here = ap (λ (h : Here). h.rest) l

  over : (k : Token) (span : TokenSpan) → span.start.rest ≡ a.rest → span.start.at ≡ a.at → span.end.rest ≡ e.rest → span.end.at ≡ e.at → Cuts b.rest k e.rest → HandsOver a k span e
  over k span s t u v c = record { cuts = subst (λ (z : Text). Cuts z k e.rest) here c; start_rest = s; start_at = t; end_rest = u; end_at = v }

  none : NoToken b.rest → Lexed a (Err Faulty) e
  none n = subst NoToken here n

  -- at a slash
  pub slash_next : (x : SlashRead) (span : TokenSpan) (r : Result NextToken LexFailure) → first b.rest ≡ Some 47 → ReadsSlash x b e → span.start.rest ≡ a.rest → span.start.at ≡ a.at → span.end.rest ≡ e.rest → span.end.at ≡ e.at → IsAfterSlash x span r → LexedNext a r e
  slash_next Block span r f h s t u v i = rw i (over space span s t u v (one (a_block_here b.rest e.rest h)))
  slash_next Line span r f h s t u v i = rw i (over newline span s t u v (one (a_line_here b.rest e.rest h)))
  slash_next Dash span r f h s t u v i = rw i (over slashdash span s t u v (one (a_dash_here b.rest e.rest h)))
  slash_next Unclosed span r f h s t u v i = rw i (none (unclosed_here b.rest e.rest f h.0))
  slash_next Other span r f h s t u v i = rw i (none (no_slash_here b.rest e.rest f h.0 h.1 h.2))

  read : (k : Token) → BeginsToken b.rest k e.rest → Alone a.rest k e.rest
  read k t = subst (λ (z : Text). Alone z k e.rest) here (Alone.token t)

  pub slash_alone : (x : SlashRead) (span : TokenSpan) (r : Result NextToken LexFailure) → ReadsSlash x b e → IsAfterSlash x span r → AloneNext a r e
  slash_alone Block span r h i = rw i (read space (a_block_here b.rest e.rest h))
  slash_alone Line span r h i = rw i (read newline (a_line_here b.rest e.rest h))
  slash_alone Dash span r h i = rw i (read slashdash (a_dash_here b.rest e.rest h))
  slash_alone Unclosed span r h i = rw i tt
  slash_alone Other span r h i = rw i tt

  pub slash_returned : (x : SlashRead) (span : TokenSpan) (r : Result NextToken LexFailure) → ReadsSlash x b e → IsAfterSlash x span r → ReturnsApart a r e
  slash_returned Block span r h i = rw i (inr (subst (λ (z : Text). BlockComment z e.rest) here ((h e.rest).1 refl)))
  slash_returned Line span r h i = rw i (inr (subst (λ (z : Text). LineComment z e.rest) here ((h e.rest).1 refl)))
  slash_returned Dash span r h i = rw i (slash_apart a.rest e.rest (sym here ∙ h))
  slash_returned Unclosed span r h i = rw i tt
  slash_returned Other span r h i = rw i tt

  pub slash_costs : (x : SlashRead) (span : TokenSpan) (r : Result NextToken LexFailure) → SlashCosts x b e → Moves b e → IsAfterSlash x span r → NextCosts r a e
  slash_costs Block span r p m i = rw i (token_costs a b e l (nine b e p))
  slash_costs Line span r p m i = rw i (token_costs a b e l (nine b e p))
  slash_costs Dash span r p m i = rw i (token_costs a b e l (nine b e p))
  slash_costs Unclosed span r p m i = rw i (no_token_costs a b e l m (faulty_costs 9 0 22 b e p.costs m (omega arith) (omega arith)))
  slash_costs Other span r p m i = rw i (no_token_costs a b e l m (faulty_costs 0 6 22 b e p m (omega arith) (omega arith)))

  -- at a letter
  pub word_costs : (w : Text) → BareString b.rest e.rest w → Moves b e → Costs 2 4 b e → Costs 24 0 a e
  word_costs w x m c = token_costs a b e l (twenty b e (bare_costs b e w x m c))

  pub no_word_next : (c : ℕ) → first b.rest ≡ Some c → is_ascii_alphabetic c ≡ true → ((r w : Text) → BareString b.rest r w → ⊥) → Lexed a (Err Faulty) e
  no_word_next c h k n = none (no_bare_here b.rest e.rest (letter_here c b.rest h k) (no_digit_letter c b.rest h k) n)

  pub no_word_costs : Moves b e → Costs 2 4 b e → Costs 24 24 a e
  no_word_costs m c = no_token_costs a b e l m (faulty_costs 2 4 22 b e c m (omega arith) (omega arith))

-- a bare string is as it is in the text
pub word_text : {s r w : Text} → BareString s r w → s ≡ w ++ r
word_text (bare e f g) = e

-- no comment begins where no slash is
pub no_comment : (c d : ℕ) (s : Text) → first s ≡ Some c → (c == 47) ≡ false → begins_two 47 d s ≡ false
no_comment c d s h n = rw (first_is s c h) (second (tail s))
  where
    second : (s : Text) → begins_two 47 d (c ∷ s) ≡ false
    second [] = rw n refl
    second (x ∷ s) = rw n refl
