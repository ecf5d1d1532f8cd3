use Rattle.std.proofs.Common.{◌≡◌, length, map}
use Rattle.kdl.specs.Words.{node_says}
use Rattle.c_calls.specs.Flat.{listed}
use Rattle.c_calls.specs.Rows.{AreWithin}
use Rattle.c_calls.proofs.FlatTree.{SoFar, items_left, stack}
use Rattle.c_calls.proofs.tree.put_nodes.Given as goal

-- the rows so far have their texts in the strings so far, and say the items so far
abbrev pub invariant-left : goal.invariant-left
invariant-left l = record {
  within : AreWithin l.fn.rows l.fn.count l.fn.strings l.fn.used → AreWithin l.rows l.count l.strings l.used;
  says : l.fn.count ≡ 0 → l.fn.used ≡ 0 → SoFar l.rows l.count l.strings l.used (map node_says l.rest) (stack l.above.items) (listed (map node_says l.nodes));
}

-- the items that are left
abbrev pub decreases-left : goal.decreases-left
decreases-left l = length (items_left (map node_says l.rest) (stack l.above.items))
