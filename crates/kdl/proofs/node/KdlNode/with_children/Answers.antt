use Rattle.kdl.proofs.Common.{rules, ◌∙◌, refl, out-KdlNode}
use Rattle.kdl.proofs.Trees.{node_tree_roll, entries_cloned, same_node}
use Rattle.kdl.proofs.node.KdlNode.with_children.Goals as goal

pub returns : goal.returns
returns c =
    let n = out-KdlNode c.args.self.now in
    node_tree_roll _
    ∙ same_node (record { ty = c.in_ok-ty.ty; name = c.in_ok-name.name; entries = c.in_ok-entries.entries; children = c.args.children; format = c.in_ok-format.format; span = n.span }) (record n { children = c.args.children }) (search rules) c.in_ok-name.ensures.cases
    (entries_cloned n.entries.items c.in_ok-entries.entries.items (search rules)) (search rules) refl refl
