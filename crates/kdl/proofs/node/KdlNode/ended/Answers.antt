use Rattle.kdl.proofs.Common.{node_format_of, IfOk, List, is_some, map, subst, entry_tree, KdlEntry, node_texts, IsNodeEnded, block_if, printed_format}
use Rattle.kdl.proofs.Putting.Exact.{ends_exactly_ok}
use Rattle.kdl.specs.declared.node.KdlNode.{out-KdlNode}
use Rattle.kdl.proofs.node.KdlNode.ended.Goals as goal

pub returns : goal.returns
returns c =
    let n = c.args.self.now in
    let P : List KdlEntry → Type 0 = λ es.
    IfOk c.ended_format.result (λ o. IsNodeEnded c.args.rest (block_if (is_some (out-KdlNode n).children)) (node_texts (node_format_of n)) (printed_format (map entry_tree es)) (node_texts o)) in
    let x = ends_exactly_ok c.ended_format.result c.args.rest n (subst P c.deref.ensures.value c.ended_format.ensures.exact) c.ended_format.ensures.reads c.ended_format.ensures.last in
    record { reads = x.0; exact = x.1 }
