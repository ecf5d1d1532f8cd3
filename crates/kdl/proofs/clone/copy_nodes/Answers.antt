use Rattle.kdl.proofs.Common.{rules, arith, sym, ◌≡◌, ◌∙◌, ap, [], ◌∷◌, ◌++◌, map, List, Some, None, append-nil, CopyFrame, outermost, count_left, node_tree, out-KdlNode, KdlNode}
use Rattle.kdl.proofs.CopyingLoop.{none_copied, line_made, block_opened, block_closed}
use Rattle.kdl.proofs.NodeCounts.{line_counted, block_counted, end_counted}
use Rattle.kdl.proofs.Printing.PrintingLoop.{none_left_is}
use Rattle.kdl.proofs.clone.copy_nodes.Goals as goal

-- the nodes after that of an open block
abbrev following : CopyFrame → List KdlNode
following o = o.0.following.now

pub left-init : goal.left-init
left-init c =
    ap (λ os. outermost os (map node_tree c.in_ok-made.made.items ++ map node_tree c.args.nodes.now)) c.new-above.ensures.items
    ∙ ap (λ ns. map node_tree ns ++ map node_tree c.args.nodes.now) c.in_ok-made.ensures.items

pub left-smaller-in-Some-children : goal.left-smaller-in-Some-children
left-smaller-in-Some-children c =
    let o : CopyFrame = (record { node = c.in-Some.node; block = c.in-Some-children.block; following = c.in-Some.following }, c.replace-before.result) in
    let first : c.left.rest.now ≡ c.in-Some.node.now ∷ c.in-Some.following.now = search rules in
    let has : (out-KdlNode c.in-Some.node.now).children ≡ Some c.in-Some-children.block.now = search rules in
    let pushed : c.push.new.self.items ≡ c.left.above.items ++ o ∷ [] = search rules in
    omega (arith, block_counted following c.in-Some.node.now c.in-Some-children.block.now o c.left.above.items has, ap (λ r. count_left following r c.left.above.items) first, ap (count_left following c.nodes-rest.result.now) pushed, ap (λ r. count_left following r (c.left.above.items ++ o ∷ [])) c.nodes-rest.ensures.value)

pub left-preserved-in-Some-children : goal.left-preserved-in-Some-children
left-preserved-in-Some-children c =
    let o : CopyFrame = (record { node = c.in-Some.node; block = c.in-Some-children.block; following = c.in-Some.following }, c.replace-before.result) in
    let above = c.left.above.items in
    let first : c.left.rest.now ≡ c.in-Some.node.now ∷ c.in-Some.following.now = search rules in
    let has : (out-KdlNode c.in-Some.node.now).children ≡ Some c.in-Some-children.block.now = search rules in
    let pushed : c.push.new.self.items ≡ above ++ o ∷ [] = search rules in
    let before : c.replace-before.result ≡ c.left.made = search rules in
    let made : c.replace-before.new.dest.items ≡ [] = search rules in
    ap (λ os. outermost os (map node_tree c.replace-before.new.dest.items ++ map node_tree c.nodes-rest.result.now)) pushed
    ∙ ap (λ ns. outermost (above ++ o ∷ []) (map node_tree ns ++ map node_tree c.nodes-rest.result.now)) made
    ∙ ap (λ ns. outermost (above ++ o ∷ []) (map node_tree ns)) c.nodes-rest.ensures.value
    ∙ block_opened o above has
    ∙ ap (λ b. outermost above (map node_tree b.items ++ (node_tree c.in-Some.node.now ∷ map node_tree c.in-Some.following.now))) before
    ∙ ap (λ r. outermost above (map node_tree c.left.made.items ++ map node_tree r)) (sym first)
    ∙ c.left.invariant

pub left-smaller-in_default-children : goal.left-smaller-in_default-children
left-smaller-in_default-children c =
    let first : c.left.rest.now ≡ c.in-Some.node.now ∷ c.in-Some.following.now = search rules in
    omega (arith, line_counted following c.in-Some.node.now c.in-Some.following.now c.left.above.items, ap (λ r. count_left following r c.left.above.items) first)

pub left-preserved-in_default-children : goal.left-preserved-in_default-children
left-preserved-in_default-children c =
    let above = c.left.above.items in
    let n = c.in-Some.node.now in
    let first : c.left.rest.now ≡ n ∷ c.in-Some.following.now = search rules in
    let has : (out-KdlNode n).children ≡ None = search rules in
    let made : c.push-in_default-children.new.self.items ≡ c.left.made.items ++ c.in_ok-with_children.field-0 ∷ [] = search rules in
    ap (outermost above) (line_made c.left.made.items c.push-in_default-children.new.self.items n c.in_ok-with_children.field-0 (map node_tree c.in-Some.following.now) made (c.in_ok-with_children.ensures ∙ none_copied n has))
    ∙ ap (λ r. outermost above (map node_tree c.left.made.items ++ map node_tree r)) (sym first)
    ∙ c.left.invariant

pub returns-in_default-pop : goal.returns-in_default-pop
returns-in_default-pop c =
    let none_left = none_left_is c.left.rest.now c.in_default.ensures.cases in
    let none_above : c.left.above.items ≡ [] = search rules in
    sym (append-nil (map node_tree c.left.made.items))
    ∙ ap (λ r. map node_tree c.left.made.items ++ map node_tree r) (sym none_left)
    ∙ ap (λ os. outermost os (map node_tree c.left.made.items ++ map node_tree c.left.rest.now)) (sym none_above)
    ∙ c.left.invariant

pub left-smaller : goal.left-smaller
left-smaller c =
    let o : CopyFrame = (c.in-Some-pop.open, c.in-Some-pop.before) in
    let above = c.left.above in
    let before : above.items ≡ c.pop.new.self.items ++ o ∷ [] = search rules in
    let none_left = none_left_is c.left.rest.now c.in_default.ensures.cases in
    omega (arith, end_counted following o c.pop.new.self.items, ap (λ r. count_left following r above.items) none_left, ap (count_left following []) before)

pub left-preserved : goal.left-preserved
left-preserved c =
    let o : CopyFrame = (c.in-Some-pop.open, c.in-Some-pop.before) in
    let above = c.left.above.items in
    let before : above ≡ c.pop.new.self.items ++ o ∷ [] = search rules in
    let none_left = none_left_is c.left.rest.now c.in_default.ensures.cases in
    block_closed o c.pop.new.self.items c.left.made.items c.in_ok-made-2.made.items c.in_ok-made-2.ensures
    ∙ ap (λ os. outermost os (map node_tree c.left.made.items)) (sym before)
    ∙ ap (outermost above) (sym (append-nil (map node_tree c.left.made.items)))
    ∙ ap (λ r. outermost above (map node_tree c.left.made.items ++ map node_tree r)) (sym none_left)
    ∙ c.left.invariant
