use Rattle.std.proofs.Common.{rules, arith, refl, ap, sym, ◌≡◌, ◌++◌, ◌∷◌, [], List, None, Some, length, map}
use mathlib.Core.Path.{subst}
use Rattle.kdl.specs.Words.{NodeData, document_says, node_says, said_children}
use Rattle.kdl.specs.declared.node.KdlNode.{KdlNode}
use Rattle.c_calls.specs.Flat.{end_item, listed}
use Rattle.c_calls.proofs.FlatSteps.{said_more}
use Rattle.c_calls.proofs.FlatTree.{SoFar, empty, fewer_in, fewer_on, fewer_out, items_left, stack, stack_push, start, step_in, step_on, step_out}
use Rattle.c_calls.proofs.SaysSteps.{grown_none}
use Rattle.c_calls.proofs.RowSteps.{pushed, wider}
use Rattle.c_calls.proofs.tree.put_nodes.Goals as goal

pub left-init : goal.left-init
left-init c = record {
  within = λ old. old;
  says = λ k u. start c.args.rows.now c.args.count.now c.args.strings.now c.args.used.now (map node_says c.args.nodes.now) (stack c.new-above.result.items) k (ap stack c.new-above.ensures.items);
}

-- into the block of a node
pub left-smaller-in_ok-push-in-Some-children : goal.left-smaller-in_ok-push-in-Some-children
left-smaller-in_ok-push-in-Some-children c =
    let l = c.left in
    let n = node_says c.in-Some.node.now in
    let b = map node_says c.in-Some.after.now in
    let kids = map node_says c.nodes-rest.result.now in
    let x = document_says c.in-Some-children.block.now in
    let split : l.rest.now ≡ c.in-Some.node.now ∷ c.in-Some.after.now = search rules in
    let has : said_children n ≡ Some x = search rules in
    let more : c.push.new.self.items ≡ l.above.items ++ c.in-Some.after ∷ [] = search rules in
    omega (
      arith,
      fewer_in n b kids (stack l.above.items) x has c.nodes-rest.ensures.said,
      ap (λ z. length (items_left kids z)) (stack_push l.above.items c.push.new.self.items c.in-Some.after more),
      ap (λ z. length (items_left (map node_says z) (stack l.above.items))) split,
    )

pub left-preserved-in_ok-push-in-Some-children : goal.left-preserved-in_ok-push-in-Some-children
left-preserved-in_ok-push-in-Some-children c = record {
  within = λ old. c.in_ok-put_node_rows.ensures.within (c.left.invariant.within old);
  says = λ k u.
      let l = c.left in
      let p = c.put_node_rows.new in
      let all = listed (map node_says c.args.nodes.now) in
      let n = node_says c.in-Some.node.now in
      let b = map node_says c.in-Some.after.now in
      let kids = map node_says c.nodes-rest.result.now in
      let x = document_says c.in-Some-children.block.now in
      let split : l.rest.now ≡ c.in-Some.node.now ∷ c.in-Some.after.now = search rules in
      let has : said_children n ≡ Some x = search rules in
      let more : c.push.new.self.items ≡ l.above.items ++ c.in-Some.after ∷ [] = search rules in
      let at = subst (λ (z : List KdlNode). SoFar l.rows l.count l.strings l.used (map node_says z) (stack l.above.items) all) split (l.invariant.says k u) in
      subst (λ (z : List (List NodeData)). SoFar p.rows p.count p.strings p.used kids z all) (sym (stack_push l.above.items c.push.new.self.items c.in-Some.after more))
      (step_in l.rows p.rows l.count p.count l.strings p.strings l.used p.used n b kids (stack l.above.items) x all at has c.nodes-rest.ensures.said c.in_ok-put_node_rows.ensures.says);
}

-- past a node without a block
pub left-smaller-in-None : goal.left-smaller-in-None
left-smaller-in-None c =
    let l = c.left in
    let n = node_says c.in-Some.node.now in
    let b = map node_says c.in-Some.after.now in
    let split : l.rest.now ≡ c.in-Some.node.now ∷ c.in-Some.after.now = search rules in
    let has : said_children n ≡ None = search rules in
    omega (arith, fewer_on n b (stack l.above.items) has, ap (λ z. length (items_left (map node_says z) (stack l.above.items))) split)

pub left-preserved-in-None : goal.left-preserved-in-None
left-preserved-in-None c = record {
  within = λ old. c.in_ok-put_node_rows.ensures.within (c.left.invariant.within old);
  says = λ k u.
      let l = c.left in
      let p = c.put_node_rows.new in
      let all = listed (map node_says c.args.nodes.now) in
      let n = node_says c.in-Some.node.now in
      let b = map node_says c.in-Some.after.now in
      let split : l.rest.now ≡ c.in-Some.node.now ∷ c.in-Some.after.now = search rules in
      let has : said_children n ≡ None = search rules in
      let at = subst (λ (z : List KdlNode). SoFar l.rows l.count l.strings l.used (map node_says z) (stack l.above.items) all) split (l.invariant.says k u) in
      step_on l.rows p.rows l.count p.count l.strings p.strings l.used p.used n b (stack l.above.items) all at has c.in_ok-put_node_rows.ensures.says;
}

-- out of a block
pub left-smaller : goal.left-smaller
left-smaller c =
    let l = c.left in
    let b = map node_says c.in-Some-pop.after.now in
    let none : length l.rest.now ≡ 0 = search rules in
    let less : l.above.items ≡ c.pop.new.self.items ++ c.in-Some-pop.after ∷ [] = search rules in
    omega (
      arith,
      fewer_out b (stack c.pop.new.self.items),
      ap (λ z. length (items_left (map node_says z) (stack l.above.items))) (empty l.rest.now none),
      ap (λ z. length (items_left [] z)) (stack_push c.pop.new.self.items l.above.items c.in-Some-pop.after less),
    )

pub left-preserved : goal.left-preserved
left-preserved c =
    let l = c.left in
    let r = c.put_row in
    let rs : length r.new.rows ≡ length l.rows = search rules in
    record {
      within = λ old. pushed l.rows r.new.rows l.count r.new.count c.end_row.result l.strings l.strings l.used l.used (l.invariant.within old) refl (omega arith)
          (λ _. wider 0 l.used (omega arith) c.end_row.result c.end_row.ensures.within) rs r.ensures.counted r.ensures.written;
      says = λ k u.
          let all = listed (map node_says c.args.nodes.now) in
          let b = map node_says c.in-Some-pop.after.now in
          let none : length l.rest.now ≡ 0 = search rules in
          let less : l.above.items ≡ c.pop.new.self.items ++ c.in-Some-pop.after ∷ [] = search rules in
          let past = subst (λ (z : List KdlNode). SoFar l.rows l.count l.strings l.used (map node_says z) (stack l.above.items) all) (empty l.rest.now none) (l.invariant.says k u) in
          let at = subst (λ (z : List (List NodeData)). SoFar l.rows l.count l.strings l.used [] z all) (stack_push c.pop.new.self.items l.above.items c.in-Some-pop.after less) past in
          step_out l.rows r.new.rows l.count r.new.count l.strings l.used b (stack c.pop.new.self.items) all at
          (λ items old. said_more l.rows r.new.rows l.count r.new.count c.end_row.result l.strings l.strings l.used l.used items end_item old refl (omega arith) (grown_none l.strings l.used) (λ _. c.end_row.ensures.kind) rs r.ensures.counted r.ensures.written);
    }
