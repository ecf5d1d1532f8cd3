use Rattle.std.proofs.Common.{[], ◌∷◌, ◌++◌, length}
use Rattle.kdl.specs.Words.{EntryReadsBack, entry_data, entry_tree}
use Rattle.kdl_path.specs.Edits.{node_with_entry}
use Rattle.kdl_path.specs.Internal.Made.{IsNewNode}
use Rattle.kdl_path.proofs.create.new_node.Given as goal

-- the node is that of the steps after those that are left
abbrev pub invariant-steps : goal.invariant-steps
invariant-steps l = record {
  made : EntryReadsBack l.fn.entry → IsNewNode l.left (l.fn.above ++ (l.fn.last ∷ [])) (node_with_entry (entry_data (entry_tree l.fn.entry))) l.node;
}

abbrev pub decreases-steps : goal.decreases-steps
decreases-steps l = length l.left
