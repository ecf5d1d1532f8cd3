-- The turns of the loop over the tokens of a front: their places are in the text, and what they cost.
use Rattle.std.proofs.Common.{◌≡◌, ℕ, ◌+◌, ◌*◌, ◌<◌, ◌≤◌, List, [], ◌++◌, length, sym, ap, ◌∙◌, arith}
use Rattle.std.specs.Str.{chars, IsUtf8}
use Rattle.kdl_text.specs.Chars.{Text, Star, plus}
use Rattle.kdl_text.specs.Chars.Star.{none as no_star, more}
use Rattle.kdl_text.specs.Internal.Here.{Here, Position}
use Rattle.kdl_text.specs.Internal.Reading.{Moves, Costs}
use Rattle.kdl_text.specs.Spans.{bytes, raise}
use Rattle.kdl_text.specs.Trivia.{NodeSpace}
use Rattle.kdl_text.proofs.Looking.MovesJoin.{moves_then}
use Rattle.kdl_text.proofs.Looking.Texts.{bytes-chars}
use Rattle.kdl_syntax.specs.Internal.Handed.{Cuts, one, spaces, HandsOut}
use Rattle.kdl_syntax.specs.Tokens.{Token, t_space}
use Rattle.kdl_syntax.specs.declared.lexer.Token.{Token as CodeToken}
use Rattle.kdl_syntax.proofs.Lexing.TokenUnique.{token_shorter}
use Rattle.kdl_diagnostics.specs.Internal.Reading.{LiesIn}

-- the lexer has gone over tokens of the text
pub record Fronting (old new : Here) : Type 0 where
  pub moves : Moves old new
  pub most : new.steps + 24 * bytes new.rest ≤ old.steps + 24 * bytes old.rest + 1

pub front_begins : (a b : Here) → Moves a b → Costs 24 1 a b → Fronting a b
front_begins a b m k = record { moves = m; most = omega (arith, k.most) }

pub front_goes_on : (f a b : Here) → Fronting f a → Moves a b → Costs 24 0 a b → Fronting f b
front_goes_on f a b x m k = record { moves = moves_then x.moves m; most = omega (arith, x.most, k.most) }

pub front_counts : (f a b : Here) → Fronting f a → Moves a b → raise f.steps 0 ≤ raise b.steps 0
front_counts f a b x m = omega (arith, x.moves.counts, m.counts)

-- where the text ends, and where no token begins
pub front_ends : (f a b : Here) (c : ℕ) → Fronting f a → Costs 24 c a b → c ≤ 24 → b.steps ≤ f.steps + (24 * bytes f.rest + 25)
front_ends f a b c x k e = omega (arith, x.most, k.most, e)

-- a turn comes nearer to the end
spaces_shorter : {s r : Text} → Star NodeSpace s r → length r ≤ length s
spaces_shorter no_star = omega arith
spaces_shorter (more n m) = omega (arith, token_shorter (t_space n), spaces_shorter m)

pub cut_shorter : {s r : Text} {k : Token} → Cuts s k r → length r < length s
cut_shorter (one t) = token_shorter t
cut_shorter (spaces (plus n m)) = omega (arith, token_shorter (t_space n), spaces_shorter m)

pub nearer : (a b : Here) (k : CodeToken) → HandsOut a k b → length b.rest < length a.rest
nearer a b k h = cut_shorter h.cuts

-- the places of a token
pub front_lies : (text : Text) (f a : Here) (place : Position) → Fronting f a → text ≡ f.rest → place.rest ≡ a.rest → LiesIn text place
front_lies text f a place x e n = (x.moves.piece.0, e ∙ x.moves.piece.1 ∙ ap (λ (t : Text). x.moves.piece.0 ++ t) (sym n))

pub token_lies : (text : Text) (f a b : Here) (k : CodeToken) → Fronting f a → text ≡ f.rest → HandsOut a k b → LiesIn text k.at.start
token_lies text f a b k x e h = front_lies text f a k.at.start x e h.start_rest

pub token_end_lies : (text : Text) (f a b : Here) (k : CodeToken) → Fronting f b → text ≡ f.rest → HandsOut a k b → LiesIn text k.at.end
token_end_lies text f a b k x e h = front_lies text f b k.at.end x e h.end_rest

-- the steps over a whole text
pub front_bounded : (text : List ℕ) (a b : Here) (before after : ℕ) → IsUtf8 text → b.steps ≤ a.steps + (24 * bytes a.rest + 25) → a ≡ record { text = chars text; rest = chars text; at = 0; steps = before } → after ≡ b.steps → after ≤ before + (24 * length text + 25)
front_bounded text a b before after u x e g = omega (arith, x, ap (λ (z : Here). bytes z.rest) e, ap (λ (z : Here). z.steps) e, bytes-chars text u, g)

-- a token begins before the end of a text
pub begun : (a b : Here) (k : CodeToken) → HandsOut a k b → a.rest ≡ [] → ⊥
begun a b k h e = omega (arith, cut_shorter h.cuts, ap length e)
