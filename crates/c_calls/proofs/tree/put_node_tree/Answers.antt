use Rattle.std.proofs.Common.{List, ap, map}
use Rattle.std.specs.Prelude.{OnOk}
use mathlib.Core.Path.{subst}
use Rattle.kdl.specs.Words.{node_says}
use Rattle.c_calls.specs.Flat.{Item, RowsSay}
use Rattle.c_calls.proofs.FlatTree.{of_node}
use Rattle.c_calls.proofs.tree.put_node_tree.Goals as goal

pub returns-clause-says : goal.returns-clause-says
returns-clause-says c = λ k u.
    let p = c.put_nodes in
    subst (λ (is : List Item). OnOk p.result (RowsSay p.new.rows p.new.count p.new.strings p.new.used is))
    (of_node (map node_says c.from_ref.result.now) (node_says c.args.node.now) (ap (map node_says) c.from_ref.ensures.value)) (p.ensures.says k u)
