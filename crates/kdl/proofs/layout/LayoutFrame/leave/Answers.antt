use Rattle.kdl.proofs.Common.{rules, subst, ◌+◌, ◌++◌, ◌∷◌, [], ap, ◌∙◌, ◌≡◌, map, with_item, settings, bare_node, GoesOn, StayAs, StepStays, braces_of, enclosed, lined, whole, with_braces, node_tree, LayoutFrame, List}
use Rattle.kdl.proofs.LayingOut.BlockSteps.{filled_exchanged, end_bare, end_whole_none, end_goes_on_there, end_goes_on_none}
use Rattle.kdl.proofs.LayingOut.StaysReading.{end_stays, stay_same}
use Rattle.kdl.proofs.layout.LayoutFrame.leave.Goals as goal

pub returns-in-Some : goal.returns-in-Some
returns-in-Some c =
    let r = c.replace-done in
    let o = r.new.dest in
    let e = r.ensures in
    let n = c.in-Some.node.now in
    let m = c.set_around.new.self in
    let b : LayoutFrame = record { nodes = with_item o.nodes o.at m; at = o.at + 1; level = o.level; before = o.before; next = o.next; around = c.take-around.new.self } in
    let taken : c.take-around.result ≡ o.around = search rules in
    let tree = c.set_around.ensures
    ∙ ap (with_braces (braces_of c.take-around.result)) (filled_exchanged n c.exchange_nodes.new.self r.result.nodes (lined c.take-around.result) c.exchange_nodes.ensures.has)
    ∙ ap (λ g. enclosed g n (map node_tree r.result.nodes.items)) taken in
    record {
      kept = λ above. end_bare above o r.result b n m (search rules) (search rules) tree (search rules)
          ∙ ap (λ z. map bare_node (whole (above ++ z ∷ []) r.result)) e.after
          ∙ ap (λ i. map bare_node (whole (above ++ c.args.outer ∷ []) i)) e.value;
      goes_on = λ all s above. subst (λ i. GoesOn s (above ++ c.args.outer ∷ []) i above b) e.value
          (subst (λ z. GoesOn s (above ++ z ∷ []) r.result above b) e.after
          (end_goes_on_there above o r.result b n m (search rules) (search rules) tree (search rules) (search rules) (search rules) (search rules) (search rules) (search rules) s));
      stays = λ all l ok above. subst (λ i. StepStays l (above ++ c.args.outer ∷ []) i above b) e.value
          (subst (λ z. StepStays l (above ++ z ∷ []) r.result above b) e.after
          (end_stays l ok above o r.result b n m (search rules) (search rules) tree (search rules) (search rules)));
    }

pub returns-in_default : goal.returns-in_default
returns-in_default c =
    let r = c.replace-done in
    let o = r.new.dest in
    let e = r.ensures in
    let o' = record o { around = c.take-around.new.self } in
    let same : (above : List LayoutFrame) → whole above o' ≡ whole (above ++ c.args.outer ∷ []) c.args.self.now = λ above. end_whole_none above o r.result o' (search rules) (search rules)
    ∙ ap (λ z. whole (above ++ z ∷ []) r.result) e.after
    ∙ ap (λ i. whole (above ++ c.args.outer ∷ []) i) e.value in
    record {
      kept = λ above. ap (map bare_node) (same above);
      goes_on = λ all s above. subst (λ i. GoesOn s (above ++ c.args.outer ∷ []) i above o') e.value
          (subst (λ z. GoesOn s (above ++ z ∷ []) r.result above o') e.after
          (end_goes_on_none above o r.result o' (search rules) (search rules) (search rules) (search rules) (search rules) (search rules) s));
      stays = λ all l ok above level x olds u. subst (λ z. StayAs (settings l.config) z (whole above o')) (same above) (stay_same (settings l.config) (whole above o'));
    }
