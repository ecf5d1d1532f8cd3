-- A cursor that is back where it was, with steps counted.
use Rattle.std.proofs.Common.{ℕ, ◌+◌, ◌≤◌, [], ap, sym, ◌∙◌, arith}
use Rattle.kdl_text.specs.Internal.Here.{Here, Returned}
use Rattle.kdl_text.specs.Internal.Reading.{Moves}
use Rattle.kdl_text.specs.Spans.{bytes}
use Rattle.kdl_text.proofs.Looking.MovesJoin.{moves_then, moves_one, moves_two, moves_stayed, stayed_looked, took_from, fewer_bytes}
use Rattle.kdl_text.proofs.Looking.SliceCost.{moves_ran}

pub moves_returned : {k : ℕ} {a b : Here} → Returned k a b → Moves a b
moves_returned r = record { piece = ([], sym r.rest); at = omega (arith, r.at, ap bytes r.rest); counts = r.counts; same = r.same }

pub returned_less : (j k : ℕ) (a b : Here) → j ≤ k → Returned j a b → Returned k a b
returned_less j k a b h r = record { rest = r.rest; at = r.at; most = omega (arith, r.most, h); counts = r.counts; same = r.same }

pub returned_then : (j k : ℕ) (a b e : Here) → Returned j a b → Returned k b e → Returned (j + k) a e
returned_then j k a b e r s = record {
  rest = s.rest ∙ r.rest;
  at = s.at ∙ r.at;
  most = omega (arith, r.most, s.most);
  counts = omega (arith, r.counts, s.counts);
  same = s.same ∙ r.same;
}

-- what a cursor did, one call after another
pub ruleset advancing = (moves_then, moves_one, moves_two, moves_stayed, moves_ran, moves_returned, stayed_looked, took_from, fewer_bytes)
