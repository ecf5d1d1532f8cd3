-- What the turns of the loop over the tokens take, and what an item takes.
use Rattle.std.proofs.Common.{◌≡◌, ℕ, ◌+◌, ◌*◌, ◌<◌, ◌≤◌, length, [], Ok, Err, ap, arith, length-append}
use Rattle.kdl_text.specs.Chars.{Text, Star, plus}
use Rattle.kdl_text.specs.Chars.Star.{none as no_star, more}
use Rattle.kdl_text.specs.Internal.Here.{Here, Position, Ahead}
use Rattle.kdl_text.specs.Trivia.{NodeSpace}
use Rattle.kdl_text.specs.Spans.{bytes, raise}
use Rattle.kdl_text.specs.Internal.Reading.{Moves, Costs}
use Rattle.kdl_text.proofs.Looking.MovesJoin.{bytes-append}
use Rattle.kdl_text.proofs.Looking.Runs.{length-bytes}
use Rattle.kdl_entry.specs.Internal.Counted.{Recounted, Sliced}
use Rattle.kdl_syntax.specs.Internal.Handed.{Cuts, one, spaces, HandsOver}
use Rattle.kdl_syntax.specs.Tokens.{Token, t_space}
use Rattle.kdl_syntax.specs.Internal.Order.{IsEndOf}
use Rattle.kdl_syntax.proofs.Order.{ahead}
use Rattle.kdl_syntax.proofs.Lexing.TokenUnique.{token_shorter}
use Rattle.kdl_syntax.specs.declared.token_span.TokenSpan.{TokenSpan}
use Rattle.kdl_entry.proofs.Slicing.SliceCost.{ahead_fewer}
use Rattle.kdl_parser.specs.Internal.Counted.{SlicedOn, ReadOn, ReadThrough}
use Rattle.kdl_syntax.specs.declared.lexer.LexFailure.{LexFailure}
use Rattle.kdl_syntax.specs.declared.lexer.LexFailure.TheVariants.{Faulty, Memory}

-- a turn comes nearer to the end
spaces_shorter : {s r : Text} → Star NodeSpace s r → length r ≤ length s
spaces_shorter no_star = omega arith
spaces_shorter (more n m) = omega (arith, token_shorter (t_space n), spaces_shorter m)

pub cut_shorter : {s r : Text} {k : Token} → Cuts s k r → length r < length s
cut_shorter (one t) = token_shorter t
cut_shorter (spaces (plus n m)) = omega (arith, token_shorter (t_space n), spaces_shorter m)

pub nearer : (before mid : Here) (k : Token) (ts : TokenSpan) → HandsOver before k ts mid → length mid.rest < length before.rest
nearer before mid k ts h = cut_shorter h.cuts

-- from the start to here, where n bytes are not sliced yet
pub record Counting (start here : Here) (n : ℕ) : Type 0 where
  pub least : raise start.steps (length start.rest) ≤ raise here.steps (length here.rest)
  pub most : here.steps + 25 * bytes here.rest + n ≤ start.steps + 26 * bytes start.rest
  pub counts : raise start.steps 0 ≤ raise here.steps 0

pub counting_starts : (here : Here) (n : ℕ) → n ≡ bytes here.rest → Counting here here n
counting_starts here n e = record { least = omega arith; most = omega (arith, e); counts = omega arith }

-- a token, and what the builder slices at it
pub counting_goes_on : (start before mid after : Here) (k : Token) (ts : TokenSpan) (m n : ℕ) → Counting start before m → HandsOver before k ts mid → Moves before mid → Costs 24 0 before mid → Recounted mid after → Sliced (m + 1) n mid.steps after.steps
    → Counting start after n
counting_goes_on start before mid after k ts m n g h v c r d =
    let less = cut_shorter h.cuts in
    let more : bytes mid.rest + 1 ≤ bytes before.rest = omega (arith, less, ap bytes v.piece.1, bytes-append v.piece.0 mid.rest, length-bytes v.piece.0, ap length v.piece.1, length-append v.piece.0 mid.rest) in
    record {
      least = omega (arith, g.least, c.least, r.counts, ap length r.rest);
      most = omega (arith, g.most, c.most, d.most, more, ap bytes r.rest);
      counts = omega (arith, g.counts, v.counts, r.counts);
    }

-- the text was read to its end: the builder's result, and what is returned for it
pub counting_ends : {A : Type 0} (x : A) (start before mid after : Here) (m : ℕ) → Counting start before m → before.rest ≡ [] → Moves before mid → Costs 24 1 before mid → Recounted mid after → SlicedOn {A = A} (Ok x) m 0 mid.steps after.steps
    → ReadThrough start after.steps
counting_ends x start before mid after m g e v c r d = record {
  least = omega (arith, g.least, v.counts, r.counts, ap length e);
  most = omega (arith, g.most, c.most, d.most, ap bytes e);
}

-- a token that is not taken, or an end that may not be there
pub counting_fails : (A B : Type 0) (start before mid : Here) (j m n k : ℕ) (e : LexFailure) → m ≤ n + 1 → Counting start before n → Costs 24 1 before mid → SlicedOn {A = A} (Err e) m k mid.steps j → ReadOn {A = B} (Err e) start j
counting_fails A B start before mid j m n k Faulty u g c d = omega (arith, g.most, c.most, d.most, u)
counting_fails A B start before mid j m n k Memory u g c d = tt

-- what is ahead has fewer bytes
pub fewer : (from to : Position) → Ahead from to → bytes to.rest ≤ bytes from.rest
fewer from to a = ahead_fewer from to a

-- what follows a token has fewer bytes than what follows its start
pub token_fewer : (from to : Position) → IsEndOf from.rest to.rest → bytes to.rest ≤ bytes from.rest
token_fewer from to e = fewer from to (ahead from to e)
