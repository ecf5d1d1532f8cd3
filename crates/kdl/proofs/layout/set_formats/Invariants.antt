use Rattle.kdl.proofs.Common.{◌≡◌, length, map, into_iter_items, with_formats, node_tree, node_format_tree}
use Rattle.std.specs.Vec.Iter.{into_iter_len}
use Rattle.kdl.proofs.LayingOut.Lines.{formats_from}
use Rattle.kdl.proofs.layout.set_formats.Given as goal

abbrev pub invariant-loop-node : goal.invariant-loop-node
invariant-loop-node l =
    (formats_from l.node-index (map node_format_tree (into_iter_items l.formats)) (map node_tree l.node-items)
    ≡ with_formats (map node_format_tree (into_iter_items l.initial.formats)) (map node_tree l.initial.node-items))
    × (into_iter_len l.formats ≡ length (into_iter_items l.formats))
