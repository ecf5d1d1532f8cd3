use Rattle.kdl_parts.proofs.Common.{◌≡◌, drop, is_argument}
use Rattle.kdl_parts.specs.EntryLists.{nth_place}
use Rattle.kdl_parts.proofs.EntryLookups.{after}
use Rattle.kdl_parts.proofs.places.nth_argument.Given as goal

abbrev pub invariant-loop-i : goal.invariant-loop-i
invariant-loop-i l = after l.i (nth_place is_argument (drop l.i l.entries) l.left) ≡ nth_place is_argument l.entries l.n
