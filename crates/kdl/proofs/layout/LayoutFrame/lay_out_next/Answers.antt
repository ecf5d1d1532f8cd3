use Rattle.kdl.proofs.Common.{rules, sym, subst, ◌≡◌, ◌++◌, ◌∷◌, [], ap, ◌∙◌, ◌+◌, Option, map, chars, with_item, indentation, settings, bare_node, child_nodes, Around, text_of, GoesOn, NodeStays, StayAs, whole, node_tree, LayoutFrame, Before}
use Rattle.kdl.proofs.LayingOut.BlockSteps.{Own, bare_next, bare_enclosed, line_goes_on, line_is_laid, node_is, open_block}
use Rattle.kdl.proofs.LayingOut.StaysReading.{next_stays}
use Rattle.kdl.proofs.layout.LayoutFrame.lay_out_next.Goals as goal

pub returns-in_err-following-clause-stays : goal.returns-in_err-following-clause-stays
returns-in_err-following-clause-stays c ok level x olds u =
    let l = c.args.layout.now in
    let b = c.args.self.now in
    let b' : LayoutFrame = record { nodes = with_item b.nodes b.at c.lay_out_own.new.self; at = b.at; level = b.level; before = b.before; next = b.next; around = b.around } in
    let is : chars c.as_str.result.now ≡ text_of b.before = search rules in
    next_stays l c.args.above.now.items b b' c.index_mut-node.result.now c.lay_out_own.new.self (search rules) (search rules) (search rules)
    (λ k h. c.lay_out_own.ensures.stays ok (is ∙ h.1 ∙ ap (indentation (settings l.config)) (sym h.0))) level x olds u

pub returns-in_err-following-clause-kept : goal.returns-in_err-following-clause-kept
returns-in_err-following-clause-kept c =
    let b = c.args.self.now in
    let b' : LayoutFrame = record { nodes = with_item b.nodes b.at c.lay_out_own.new.self; at = b.at; level = b.level; before = b.before; next = b.next; around = b.around } in
    bare_next c.args.above.now.items b b' c.index_mut-node.result.now c.lay_out_own.new.self (search rules) (search rules) c.lay_out_own.ensures.kept (search rules)

pub returns-then-not-has_nodes : goal.returns-then-not-has_nodes
returns-then-not-has_nodes c =
    let l = c.args.layout.now in
    let s = settings l.config in
    let b = c.args.self.now in
    let n = c.index_mut-node.result.now in
    let m = c.lay_out_own.new.self in
    let m' = c.set_around.new.self in
    let g = c.in_ok-following.texts in
    let b' : LayoutFrame = record { nodes = with_item b.nodes b.at m'; at = b.at + 1; level = b.level; before = b.before; next = c.in_ok-following.following; around = b.around } in
    let is : chars c.as_str.result.now ≡ text_of b.before = search rules in
    record {
      stays = λ ok level x olds u. next_stays l c.args.above.now.items b b' n m' (search rules) (search rules) (search rules)
          (λ k h P y.
          let e = is ∙ h.1 ∙ ap (indentation s) (sym h.0) in
          let laid = line_is_laid l b c.in_ok-following.following c.in_ok-following.first g n m c.lay_out_own.ensures.block (λ h. search rules) b.level (c.in_ok-following.ensures.spaced e) in
          subst (NodeStays s P) (sym c.set_around.ensures) (laid.1 ok P (c.lay_out_own.ensures.stays ok e P y)))
          level x olds u;
      kept = bare_next c.args.above.now.items b b' n m' (search rules) (search rules)
          (ap bare_node c.set_around.ensures ∙ bare_enclosed g m (map node_tree (child_nodes m)) ∙ sym (ap bare_node (node_is m)) ∙ c.lay_out_own.ensures.kept) (search rules);
      goes_on = line_goes_on l c.args.above.now.items b b' c.in_ok-following.first g n m m' (search rules) (search rules) (search rules) (search rules) (search rules) (search rules)
          c.lay_out_own.ensures.block (λ h. search rules) c.set_around.ensures (λ e. c.in_ok-following.ensures.spaced (is ∙ e));
    }

pub returns-in_err-level-clause-stays : goal.returns-in_err-level-clause-stays
returns-in_err-level-clause-stays c ok level x olds u =
    let l = c.args.layout.now in
    let b = c.args.self.now in
    let b1 : LayoutFrame = record { nodes = with_item b.nodes b.at c.lay_out_own.new.self; at = b.at; level = b.level; before = b.before; next = c.in_ok-following.following; around = c.in_ok-following.texts } in
    let above : c.next_level.new.above.items ≡ c.args.above.now.items = search rules in
    let is : chars c.as_str.result.now ≡ text_of b.before = search rules in
    subst (λ z. StayAs (settings l.config) (whole c.args.above.now.items b) (whole z b1)) (sym above)
    (next_stays l c.args.above.now.items b b1 c.index_mut-node.result.now c.lay_out_own.new.self (search rules) (search rules) (search rules)
    (λ k h. c.lay_out_own.ensures.stays ok (is ∙ h.1 ∙ ap (indentation (settings l.config)) (sym h.0))) level x olds u)

pub returns-in_err-level-clause-kept : goal.returns-in_err-level-clause-kept
returns-in_err-level-clause-kept c =
    let b = c.args.self.now in
    let b1 : LayoutFrame = record { nodes = with_item b.nodes b.at c.lay_out_own.new.self; at = b.at; level = b.level; before = b.before; next = c.in_ok-following.following; around = c.in_ok-following.texts } in
    let above : c.next_level.new.above.items ≡ c.args.above.now.items = search rules in
    ap (λ z. map bare_node (whole z b1)) above
    ∙ bare_next c.args.above.now.items b b1 c.index_mut-node.result.now c.lay_out_own.new.self (search rules) (search rules) c.lay_out_own.ensures.kept (search rules)

pub returns : goal.returns
returns c =
    let l = c.args.layout.now in
    let s = settings l.config in
    let above = c.args.above.now.items in
    let b = c.args.self.now in
    let b1 : LayoutFrame = record { nodes = with_item b.nodes b.at c.lay_out_own.new.self; at = b.at; level = b.level; before = b.before; next = c.in_ok-following.following; around = c.in_ok-following.texts } in
    let outer = c.replace-outer.result in
    let inner = c.replace-outer.new.dest in
    let n = c.index_mut-node.result.now in
    let m = c.lay_out_own.new.self in
    let pushed : c.push_reserved.new.self.items ≡ above ++ outer ∷ [] = search rules in
    let is : chars c.as_str.result.now ≡ text_of b.before = search rules in
    let next : c.in_ok-following.following ≡ outer.next = search rules in
    let around : c.in_ok-following.texts ≡ outer.around = search rules in
    let first : c.in_ok-following.first ≡ inner.next = search rules in
    let level : c.in_ok-level.level ≡ inner.level = search rules in
    let before : c.in_ok-level.before ≡ inner.before = search rules in
    let inside = open_block l above b b1 outer inner n m c.index_mut.result.now c.exchange_nodes-nodes.new.self c.new.result c.exchange_nodes-nodes.result
    (search rules) (search rules) (search rules) (search rules) (search rules) (search rules) (search rules) c.lay_out_own.ensures.block (search rules) c.exchange_nodes-nodes.ensures.had c.exchange_nodes-nodes.ensures.has (search rules) (search rules) (search rules) (search rules) (search rules) in
    record {
      stays = λ ok level x olds u. subst (λ z. StayAs s (whole above b) (whole z inner)) (sym pushed)
          (subst (λ z. StayAs s (whole above b) z) (sym inside.all)
          (next_stays l above b (record b { nodes = with_item b.nodes b.at m }) n m (search rules) (search rules) (search rules)
          (λ k h. c.lay_out_own.ensures.stays ok (is ∙ h.1 ∙ ap (indentation s) (sym h.0))) level x olds u));
      kept = ap (λ z. map bare_node (whole z inner)) pushed ∙ inside.bare c.lay_out_own.ensures.kept;
      goes_on = subst (λ z. GoesOn l above b z inner) (sym pushed)
          (inside.goes_on (search rules) (search rules) (λ e. sym (ap text_of before) ∙ c.in_ok-level.ensures.before e ∙ ap (indentation s) level)
          (λ e. subst (λ (x : Before). Own l b.level b x inner.next outer.around n m) next
          (subst (λ (x : Before). Own l b.level b c.in_ok-following.following x outer.around n m) first
          (subst (λ (x : Option Around). Own l b.level b c.in_ok-following.following c.in_ok-following.first x n m) around (c.in_ok-following.ensures.spaced (is ∙ e))))));
    }
