use Rattle.kdl_parts.proofs.Common.{◌≡◌, ◌<◌, length, take, has_name, last_place}
use Rattle.std.proofs.Common.{IfSome}
use Rattle.kdl_parts.proofs.places.last_property.Given as goal

abbrev pub invariant-loop-i : goal.invariant-loop-i
invariant-loop-i l = (l.found ≡ last_place (has_name l.name) (take l.i l.entries)) × IfSome l.found (λ k. k < length l.entries)
