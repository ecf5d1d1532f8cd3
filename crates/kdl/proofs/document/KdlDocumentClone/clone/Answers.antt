use Rattle.kdl.proofs.Common.{ap, ◌∙◌, sym, map, option_map, document, listed_nodes, document_format_tree, node_tree, out-KdlDocument}
use Rattle.kdl.proofs.Trees.{document_tree_out}
use Rattle.kdl.proofs.document.KdlDocumentClone.clone.Goals as goal

pub returns : goal.returns
returns c =
    let d = out-KdlDocument c.args.self.now in
    record {
      cases = c.in_ok-copy.ensures
          ∙ ap (λ ns. document (option_map document_format_tree d.format) d.span (listed_nodes ns)) (c.in_ok-nodes.ensures ∙ ap (map node_tree) c.deref.ensures.value)
          ∙ sym (document_tree_out c.args.self.now);
    }
