use Rattle.std.proofs.Common.{List, map}
use Rattle.std.specs.Prelude.{OnOk}
use mathlib.Core.Path.{subst}
use Rattle.kdl.specs.Words.{document_says, node_says}
use Rattle.c_calls.specs.Flat.{Item, RowsSay}
use Rattle.c_calls.proofs.FlatTree.{of_document}
use Rattle.c_calls.proofs.tree.put_tree.Goals as goal

pub returns-clause-says : goal.returns-clause-says
returns-clause-says c = λ k u.
    let p = c.put_nodes in
    subst (λ (is : List Item). OnOk p.result (RowsSay p.new.rows p.new.count p.new.strings p.new.used is))
    (of_document (map node_says c.nodes.result.now) (document_says c.args.document.now) c.nodes.ensures.said) (p.ensures.says k u)
