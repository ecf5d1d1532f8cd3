use Rattle.kdl.proofs.Common.{rules, option_map, map, ap, subst, ◌∙◌, on_ok_weaker, settings, document_format_tree, NodesAreSpaced, StayAs, node_tree, nodes_tree, the_lemmas, out-KdlDocument, out-roll-KdlDocument, bare_node}
use Rattle.kdl.proofs.LayingOut.PartsSpaced.{same_content, laid_content, nodes_fit, fitting_document}
use Rattle.kdl.proofs.LayingOut.StaysReading.{document_stays}
use Rattle.kdl.proofs.document.KdlDocument.lay_out.Goals as goal

pub returns : goal.returns
returns c =
    let d = out-KdlDocument c.args.self.now in
    let l = c.args.layout.now in
    let level = l.config.indent_level in
    let first = c.in_ok-first.first in
    let fields = record d { format = c.lay_out_content.new.format } in
    let new = c.lay_out_nodes.new.nodes in
    let format = option_map document_format_tree c.lay_out_content.new.format in
    let content = c.in_ok-first.ensures.spaced (nodes_tree d.nodes.items) (search (rules, the_lemmas)) (search (rules, the_lemmas)) in
    record {
      kept = same_content _ c.args.self.now (search (rules, the_lemmas)) new (search (rules, the_lemmas))
          (c.lay_out_nodes.ensures.kept ∙ ap (λ x. map bare_node (map node_tree x.nodes.items)) (out-roll-KdlDocument fields));
      reads_back = λ ok. document_stays l ok level first c.args.self.now _ (search (rules, the_lemmas)) new (search (rules, the_lemmas)) format (search (rules, the_lemmas)) content
          (subst (λ x. StayAs (settings l.config) (map node_tree x.nodes.items) (map node_tree new.items)) (out-roll-KdlDocument fields) (c.lay_out_nodes.ensures.stays ok));
      spaced = on_ok_weaker c.lay_out_nodes.result
          (λ h. let laid = subst (λ x. NodesAreSpaced l level first (map node_tree x.nodes.items) (map node_tree new.items)) (out-roll-KdlDocument fields) h in (
            laid_content _ c.args.self.now (search (rules, the_lemmas)) new (search (rules, the_lemmas)) l level first format (search (rules, the_lemmas)) content laid,
            fitting_document c.args.self.now (nodes_fit l level first (map node_tree d.nodes.items) (map node_tree new.items) laid),
          ))
          c.lay_out_nodes.ensures.spaced;
    }
