-- What slices take.
use Rattle.std.proofs.Common.{◌≡◌, ℕ, ◌+◌, ◌≤◌, ◌++◌, ap, arith, ◌∙◌}
use Rattle.kdl_text.specs.Chars.{Text}
use Rattle.kdl_text.specs.Internal.Here.{Position, Ahead}
use Rattle.kdl_text.specs.Spans.{bytes, raise}
use Rattle.kdl_text.proofs.Looking.MovesJoin.{bytes-append}
use Rattle.kdl_syntax.specs.Internal.Order.{IsEndOf}
use Rattle.kdl_syntax.proofs.Order.{ahead}
use Rattle.kdl_entry.specs.Internal.Counted.{Sliced}

-- a slice
pub piece_sliced : (p s r : Text) (old new : ℕ) → s ≡ p ++ r → new ≡ raise old (bytes p) → Sliced (bytes s) (bytes r) old new
piece_sliced p s r old new e f = record { most = omega (arith, ap bytes e, bytes-append p r, f) }

-- the bytes of a piece and of what follows it
pub piece_bytes : (p s r : Text) → s ≡ p ++ r → bytes s ≡ bytes p + bytes r
piece_bytes p s r e = ap bytes e ∙ bytes-append p r

-- what is ahead has fewer bytes
pub ahead_fewer : (from to : Position) → Ahead from to → bytes to.rest ≤ bytes from.rest
ahead_fewer from to (p, e) = omega (arith, ap bytes e, bytes-append p to.rest)

-- what follows a token has fewer bytes than what follows its start
pub token_fewer : (from to : Position) → IsEndOf from.rest to.rest → bytes to.rest ≤ bytes from.rest
token_fewer from to e = ahead_fewer from to (ahead from to e)
