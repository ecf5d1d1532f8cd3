use Rattle.kdl.proofs.Common.{rules, arith, refl, sym, ◌≡◌, ◌∙◌, ap, [], ◌∷◌, ◌++◌, length, List, Some, None, append-nil, encode_utf8_all, print_nodes, count_left, opening, print_left, nodes_tree, out-KdlDocument, out-KdlNode, KdlNode, NodeFrame}
use Rattle.std.specs.Result.{IsOk}
use Rattle.kdl.proofs.Printing.PrintingLoop.{line_left, block_left, end_left, written_more, none_left_is}
use Rattle.kdl.proofs.NodeCounts.{line_counted, block_counted, end_counted}
use Rattle.kdl.proofs.print.write_nodes.Goals as goal

-- the nodes after that of an open block
abbrev following : NodeFrame → List KdlNode
following o = o.following.now

pub left-init : goal.left-init
left-init g c = λ plain. (
  [],
  record { wrote = record { parts = []; calls = refl; whole = refl }; plain = plain },
  ap (λ os. encode_utf8_all (print_left c.args.nodes.now os)) c.new-above.ensures.items ∙ ap encode_utf8_all (append-nil (print_nodes (nodes_tree c.args.nodes.now) 0)),
)

pub left-smaller-in-Some-children : goal.left-smaller-in-Some-children
left-smaller-in-Some-children g c =
    let o : NodeFrame = record { node = c.in-Some.node; block = c.in-Some-children.block; following = c.in-Some.following } in
    let first : c.left.rest.now ≡ c.in-Some.node.now ∷ c.in-Some.following.now = search rules in
    let has : (out-KdlNode c.in-Some.node.now).children ≡ Some c.in-Some-children.block.now = search rules in
    let pushed : c.push.new.self.items ≡ c.left.above.items ++ o ∷ [] = search rules in
    omega (arith, block_counted following c.in-Some.node.now c.in-Some-children.block.now o c.left.above.items has, ap (λ r. count_left following r c.left.above.items) first, ap (count_left following c.nodes-rest.result.now) pushed, ap (λ r. count_left following r (c.left.above.items ++ o ∷ [])) c.nodes-rest.ensures.value)

pub left-preserved-in-Some-children : goal.left-preserved-in-Some-children
left-preserved-in-Some-children g c = λ plain.
    let p = c.left.invariant plain in
    let o : NodeFrame = record { node = c.in-Some.node; block = c.in-Some-children.block; following = c.in-Some.following } in
    let above = c.left.above in
    let first : c.left.rest.now ≡ c.in-Some.node.now ∷ c.in-Some.following.now = search rules in
    let has : (out-KdlNode c.in-Some.node.now).children ≡ Some c.in-Some-children.block.now = search rules in
    let done : IsOk c.write_opening.result = search rules in
    let pushed : c.push.new.self.items ≡ above.items ++ o ∷ [] = search rules in
    let at : c.len.result ≡ length above.items = search rules in
    written_more _ _ _ _ p.0 _ _ _ _ p.1 p.2 (c.write_opening.ensures p.1.plain done)
    (ap (λ r. opening o.node.now o.block.now c.len.result ++ print_left r c.push.new.self.items) c.nodes-rest.ensures.value
    ∙ ap (λ os. opening o.node.now o.block.now c.len.result ++ print_left (out-KdlDocument o.block.now).nodes.items os) pushed
    ∙ block_left o above.items c.len.result at has
    ∙ ap (λ r. print_left r above.items) (sym first))

pub left-smaller-in_default-children : goal.left-smaller-in_default-children
left-smaller-in_default-children g c =
    let first : c.left.rest.now ≡ c.in-Some.node.now ∷ c.in-Some.following.now = search rules in
    omega (arith, line_counted following c.in-Some.node.now c.in-Some.following.now c.left.above.items, ap (λ r. count_left following r c.left.above.items) first)

pub left-preserved-in_default-children : goal.left-preserved-in_default-children
left-preserved-in_default-children g c = λ plain.
    let p = c.left.invariant plain in
    let above = c.left.above in
    let n = c.in-Some.node.now in
    let first : c.left.rest.now ≡ n ∷ c.in-Some.following.now = search rules in
    let has : (out-KdlNode n).children ≡ None = search rules in
    let done : IsOk c.write_line.result = search rules in
    let at : c.len-in_default-children.result ≡ length above.items = search rules in
    written_more _ _ _ _ p.0 _ _ _ _ p.1 p.2 (c.write_line.ensures p.1.plain done)
    (line_left n c.in-Some.following.now above.items c.len-in_default-children.result at has ∙ ap (λ r. print_left r above.items) (sym first))

pub returns-in_default-pop : goal.returns-in_default-pop
returns-in_default-pop g c = λ plain fine.
    let p = c.left.invariant plain in
    let none_left = none_left_is c.left.rest.now c.in_default.ensures.cases in
    let none_above : c.left.above.items ≡ [] = search rules in
    let left : print_left c.left.rest.now c.left.above.items ≡ [] = ap (λ r. print_left r c.left.above.items) none_left ∙ ap (print_left []) none_above in
    let all = sym (append-nil p.0) ∙ ap (λ t. p.0 ++ encode_utf8_all t) (sym left) ∙ p.2 in
    rw (sym all) p.1

pub left-smaller : goal.left-smaller
left-smaller g c =
    let o = c.in-Some-pop.open in
    let above = c.left.above in
    let before : above.items ≡ c.pop.new.self.items ++ o ∷ [] = search rules in
    let none_left = none_left_is c.left.rest.now c.in_default.ensures.cases in
    omega (arith, end_counted following o c.pop.new.self.items, ap (λ r. count_left following r above.items) none_left, ap (count_left following []) before)

pub left-preserved : goal.left-preserved
left-preserved g c = λ plain.
    let p = c.left.invariant plain in
    let o = c.in-Some-pop.open in
    let above = c.left.above in
    let before : above.items ≡ c.pop.new.self.items ++ o ∷ [] = search rules in
    let none_left = none_left_is c.left.rest.now c.in_default.ensures.cases in
    let done : IsOk c.write_closing.result = search rules in
    let at : c.len-in_default.result ≡ length c.pop.new.self.items = search rules in
    written_more _ _ _ _ p.0 _ _ _ _ p.1 p.2 (c.write_closing.ensures p.1.plain done)
    (end_left o c.pop.new.self.items c.len-in_default.result at ∙ ap (print_left []) (sym before) ∙ ap (λ r. print_left r above.items) (sym none_left))
