use Rattle.std.proofs.Common.{◌≡◌, drop}
use Rattle.kdl.specs.Words.{is_argument}
use Rattle.kdl_parts.specs.EntryLists.{nth_place}
use Rattle.kdl_parts.proofs.EntryLookups.{after}
use Rattle.kdl_path.proofs.locate.nth_argument.Given as goal

-- the argument that is sought is among the rest
abbrev pub invariant-loop-i : goal.invariant-loop-i
invariant-loop-i l = after l.i (nth_place is_argument (drop l.i l.entries) l.left) ≡ nth_place is_argument l.entries l.number
