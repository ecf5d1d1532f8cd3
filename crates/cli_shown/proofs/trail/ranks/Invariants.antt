use Rattle.std.proofs.Common.{◌≡◌, ◌<◌, ℕ, List, Some, length, slice_get, string_bytes, take}
use Rattle.std.specs.BTreeMap as tree
use Rattle.std.specs.Cmp.Lexicographic.{slice_cmp}
use Rattle.std.specs.List.{filter}
use Rattle.std.specs.Ordering.{nat_cmp}
use Rattle.std.specs.Option.{unwrap_or}
use Rattle.kdl.specs.Words.{is_node_named}
use Rattle.kdl.specs.declared.node.KdlNode.{KdlNode, out-KdlNode}
use Rattle.cli_shown.proofs.trail.ranks.Given as goal

-- the names so far are counted, and the nodes so far have their ranks
abbrev pub invariant-loop-node : goal.invariant-loop-node
invariant-loop-node l = record {
  len : length l.ranks.items ≡ l.node-index;
  counts : (q : List ℕ) → unwrap_or (tree.get_by (λ k. slice_cmp nat_cmp q k.now) l.counts) 0 ≡ length (filter (is_node_named q) (take l.node-index l.nodes));
  ranks : (j : ℕ) (n : KdlNode) → j < l.node-index → slice_get l.nodes j ≡ Some n → slice_get l.ranks.items j ≡ Some (length (filter (is_node_named (string_bytes (out-KdlNode n).name.value)) (take j l.nodes)));
}
