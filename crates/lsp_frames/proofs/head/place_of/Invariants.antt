-- The part is at no earlier place.
use Rattle.std.proofs.Common.{◌≡◌, ℕ, ◌<◌, false, nat_eq, drop}
use Rattle.std.specs.List.{starts_with}
use Rattle.lsp_frames.proofs.head.place_of.Given as goal

abbrev pub invariant-loop-place : goal.invariant-loop-place
invariant-loop-place l = (k : ℕ) → k < l.place → starts_with nat_eq (drop k l.bytes) l.part ≡ false
