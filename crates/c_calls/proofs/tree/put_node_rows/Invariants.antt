use Rattle.std.proofs.Common.{◌++◌, ◌∷◌, List, map, take}
use Rattle.kdl.specs.Words.{entry_data, entry_tree, node_says}
use Rattle.c_calls.specs.Flat.{Item, RowsSay, entry_item, node_item}
use Rattle.c_calls.specs.Rows.{AreWithin}
use Rattle.c_calls.proofs.tree.put_node_rows.Given as goal

-- the rows so far have their texts in the strings so far, and say the node and the entries so far
abbrev pub invariant-loop-entry : goal.invariant-loop-entry
invariant-loop-entry l = record {
  within : AreWithin l.fn.rows l.fn.count l.fn.strings l.fn.used → AreWithin l.rows l.count l.strings l.used;
  says : (items : List Item) → RowsSay l.fn.rows l.fn.count l.fn.strings l.fn.used items
      → RowsSay l.rows l.count l.strings l.used (items ++ node_item (node_says l.node) ∷ map entry_item (map (λ e. entry_data (entry_tree e)) (take l.entry-index l.entries)));
}
