use Rattle.std.proofs.Common.{◌≡◌, drop}
use Rattle.kdl.specs.Words.{is_node_named}
use Rattle.kdl_parts.specs.EntryLists.{nth_place}
use Rattle.kdl_parts.proofs.EntryLookups.{after}
use Rattle.kdl_path.proofs.locate.nth_named.Given as goal

-- the node that is sought is among the rest
abbrev pub invariant-loop-i : goal.invariant-loop-i
invariant-loop-i l = after l.i (nth_place (is_node_named l.name) (drop l.i l.nodes) l.left) ≡ nth_place (is_node_named l.name) l.nodes l.number
