use Rattle.kdl.proofs.Common.{rules, sym, subst, ap, ◌∙◌, map, NodeStays, braces_of, lined, with_braces, child_nodes, nodes_in, node_tree, out-KdlNode, roll-KdlNode, out-roll-KdlNode, at_start, settings, bare_node}
use Rattle.kdl.proofs.LayingOut.BlockSteps.{node_is, node_below, filled_below, laid_below, bare_enclosed, bare_filled}
use Rattle.kdl.proofs.LayingOut.StaysReading.{below_stays}
use Rattle.kdl.proofs.node.KdlNode.lay_out.Goals as goal

pub returns-in_err-first-clause-stays : goal.returns-in_err-first-clause-stays
returns-in_err-first-clause-stays c ok = c.lay_out_own.ensures.stays ok (search rules)

pub returns-in_err-lay_out_below-clause-kept : goal.returns-in_err-lay_out_below-clause-kept
returns-in_err-lay_out_below-clause-kept c =
    let n = c.lay_out_own.new.self in
    let o = c.lay_out_below.new.children in
    let fields = record (out-KdlNode n) { children = o } in
    ap bare_node (node_below n (roll-KdlNode fields) o (out-roll-KdlNode fields) c.lay_out_below.ensures.block)
    ∙ bare_filled n (map node_tree (nodes_in o)) (map node_tree (child_nodes n)) c.lay_out_below.ensures.kept
    ∙ sym (ap bare_node (node_is n))
    ∙ c.lay_out_own.ensures.kept

pub returns-in_err-lay_out_below-clause-stays : goal.returns-in_err-lay_out_below-clause-stays
returns-in_err-lay_out_below-clause-stays c ok P x =
    let n = c.lay_out_own.new.self in
    let o = c.lay_out_below.new.children in
    let fields = record (out-KdlNode n) { children = o } in
    below_stays (settings c.args.layout.now.config) n (roll-KdlNode fields) o (node_below n (roll-KdlNode fields) o (out-roll-KdlNode fields) c.lay_out_below.ensures.block) (c.lay_out_below.ensures.stays ok) P
    (c.lay_out_own.ensures.stays ok (search rules) P x)

pub returns : goal.returns
returns c =
    let l = c.args.layout.now in
    let s = settings l.config in
    let n = c.lay_out_own.new.self in
    let o = c.lay_out_below.new.children in
    let fields = record (out-KdlNode n) { children = o } in
    let n1 = roll-KdlNode fields in
    let g = c.in_ok-first.around in
    let below = node_below n n1 o (out-roll-KdlNode fields) c.lay_out_below.ensures.block in
    let tree = c.set_around.ensures ∙ ap (with_braces (braces_of g)) (filled_below n n1 o (lined g) (out-roll-KdlNode fields) c.lay_out_below.ensures.block) in
    let laid = laid_below l c.args.level at_start c.in_ok-first.first g c.args.self.now n c.set_around.new.self o tree c.lay_out_own.ensures.block (c.in_ok-first.ensures.spaced (search rules)).1 c.in_ok-lay_out_below.ensures.spaced in
    record {
      kept = ap bare_node c.set_around.ensures
          ∙ bare_enclosed g n1 (map node_tree (child_nodes n1))
          ∙ sym (ap bare_node (node_is n1))
          ∙ ap bare_node below
          ∙ bare_filled n (map node_tree (nodes_in o)) (map node_tree (child_nodes n)) c.lay_out_below.ensures.kept
          ∙ sym (ap bare_node (node_is n))
          ∙ c.lay_out_own.ensures.kept;
      stays = λ ok P x. laid.1 ok P (subst (NodeStays s P) below (below_stays s n n1 o below (c.lay_out_below.ensures.stays ok) P (c.lay_out_own.ensures.stays ok (search rules) P x)));
      spaced = laid.0;
    }
