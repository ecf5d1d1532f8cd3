use Rattle.std.proofs.Common.{◌≡◌, ◌++◌, ◌||◌, map, take, drop, false}
use Rattle.kdl.specs.Tree.{node_says}
use Rattle.kdl_query.specs.Internal.Parts.{ends, part_says, visited}
use Rattle.kdl_query.proofs.part.visit.Given as goal

abbrev pub invariant-loop-part : goal.invariant-loop-part
invariant-loop-part l = record {
  parts : map part_says (take l.part-index l.parts) ++ visited (node_says l.node) l.before (map part_says (drop l.part-index l.parts)) ≡ visited (node_says l.node) false (map part_says l.fn.parts);
  ends : (l.is_selected || ends (node_says l.node) l.before (map part_says (drop l.part-index l.parts))) ≡ ends (node_says l.node) false (map part_says l.fn.parts);
}
