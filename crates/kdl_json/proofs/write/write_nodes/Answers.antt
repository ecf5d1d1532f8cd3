-- A walk over the nodes.
use Rattle.std.proofs.Common.{◌≡◌, ◌++◌, ◌∷◌, [], List, None, Some, arith, rules, ap, length, map, subst, sym}
use Rattle.std.specs.Prelude.{codes}
use Rattle.json.specs.Token.{begin_array, end_array, end_object, key}
use Rattle.kdl_grammar.specs.Data.{Node}
use Rattle.kdl.specs.Said.{said_children}
use Rattle.kdl.specs.Tree.{document_says, node_says}
use Rattle.kdl.specs.declared.node.KdlNode.{KdlNode}
use Rattle.kdl_json.specs.Heads.{head_of}
use Rattle.kdl_json.proofs.Appending.{Appended, and_part, and_token, nothing}
use Rattle.kdl_json.proofs.Walking.{Walked, empty, fewer_in, fewer_on, fewer_out, stack, stack_push, tokens_left, walk_begins, walk_in, walk_on, walk_out, walked_fit}
use Rattle.kdl_json.proofs.write.write_nodes.Goals as goal

pub left-init : goal.left-init
left-init c = walk_begins c.args.out.now (map node_says c.nodes-rest.result.now) (stack c.new-above.result.items) (document_says c.args.document.now) c.nodes-rest.ensures.said (ap stack c.new-above.ensures.items)

-- into the block of a node
pub left-smaller-in_ok-push-in-Some-children : goal.left-smaller-in_ok-push-in-Some-children
left-smaller-in_ok-push-in-Some-children c =
    let l = c.left in
    let n = node_says c.in-Some.node.now in
    let b = map node_says c.in-Some.after.now in
    let kids = map node_says c.nodes-rest-in-Some-children.result.now in
    let z = document_says c.in-Some-children.block.now in
    let split : l.rest.now ≡ c.in-Some.node.now ∷ c.in-Some.after.now = search rules in
    let has : said_children n ≡ Some z = search rules in
    let more : c.push.new.self.items ≡ l.above.items ++ c.in-Some.after ∷ [] = search rules in
    omega (
      arith,
      fewer_in n b kids (stack l.above.items) z has c.nodes-rest-in-Some-children.ensures.said,
      ap (λ r. length (tokens_left kids r)) (stack_push l.above.items c.push.new.self.items c.in-Some.after more),
      ap (λ r. length (tokens_left (map node_says r) (stack l.above.items))) split,
    )

pub left-preserved-in_ok-push-in-Some-children : goal.left-preserved-in_ok-push-in-Some-children
left-preserved-in_ok-push-in-Some-children c =
    let start = c.args.out.now in
    let l = c.left in
    let x = document_says c.args.document.now in
    let n = node_says c.in-Some.node.now in
    let b = map node_says c.in-Some.after.now in
    let kids = map node_says c.nodes-rest-in-Some-children.result.now in
    let z = document_says c.in-Some-children.block.now in
    let split : l.rest.now ≡ c.in-Some.node.now ∷ c.in-Some.after.now = search rules in
    let has : said_children n ≡ Some z = search rules in
    let more : c.push.new.self.items ≡ l.above.items ++ c.in-Some.after ∷ [] = search rules in
    let at = subst (λ (ns : List KdlNode). Walked start l.out (map node_says ns) (stack l.above.items) x) split l.invariant in
    let wh = c.in_ok-write_head.ensures in
    let wb = c.in_ok-write_block-in-Some-children.ensures in
    let h : Appended l.out c.write_head.new.out (head_of n) = record { before = wh.written.before; tokens = wh.written.tokens } in
    let a = and_part l.out c.write_head.new.out c.write_block.new.out (head_of n) (λ ts. key (codes "children") ∷ begin_array ∷ ts) h wb.before wb.tokens in
    subst (λ (bs : List (List Node)). Walked start c.write_block.new.out kids bs x) (sym (stack_push l.above.items c.push.new.self.items c.in-Some.after more))
    (walk_in start l.out c.write_block.new.out n b kids (stack l.above.items) z x at has c.nodes-rest-in-Some-children.ensures.said wh.fit a)

-- past a node without a block
pub left-smaller-in_ok-end_object-in-None : goal.left-smaller-in_ok-end_object-in-None
left-smaller-in_ok-end_object-in-None c =
    let l = c.left in
    let n = node_says c.in-Some.node.now in
    let b = map node_says c.in-Some.after.now in
    let split : l.rest.now ≡ c.in-Some.node.now ∷ c.in-Some.after.now = search rules in
    let has : said_children n ≡ None = search rules in
    omega (arith, fewer_on n b (stack l.above.items) has, ap (λ r. length (tokens_left (map node_says r) (stack l.above.items))) split)

pub left-preserved-in_ok-end_object-in-None : goal.left-preserved-in_ok-end_object-in-None
left-preserved-in_ok-end_object-in-None c =
    let start = c.args.out.now in
    let l = c.left in
    let x = document_says c.args.document.now in
    let n = node_says c.in-Some.node.now in
    let b = map node_says c.in-Some.after.now in
    let split : l.rest.now ≡ c.in-Some.node.now ∷ c.in-Some.after.now = search rules in
    let has : said_children n ≡ None = search rules in
    let at = subst (λ (ns : List KdlNode). Walked start l.out (map node_says ns) (stack l.above.items) x) split l.invariant in
    let wh = c.in_ok-write_head.ensures in
    let we = c.in_ok-end_object-in-None.ensures in
    let h : Appended l.out c.write_head.new.out (head_of n) = record { before = wh.written.before; tokens = wh.written.tokens } in
    let a = and_token l.out c.write_head.new.out c.end_object.new.self (head_of n) end_object h we.room.0 we.ok in
    walk_on start l.out c.end_object.new.self n b (stack l.above.items) x at has wh.fit a

-- out of a block
pub left-smaller : goal.left-smaller
left-smaller c =
    let l = c.left in
    let b = map node_says c.in-Some-pop.after.now in
    let none : length l.rest.now ≡ 0 = search rules in
    let less : l.above.items ≡ c.pop.new.self.items ++ c.in-Some-pop.after ∷ [] = search rules in
    omega (
      arith,
      fewer_out b (stack c.pop.new.self.items),
      ap (λ r. length (tokens_left (map node_says r) (stack l.above.items))) (empty l.rest.now none),
      ap (λ r. length (tokens_left [] r)) (stack_push c.pop.new.self.items l.above.items c.in-Some-pop.after less),
    )

pub left-preserved : goal.left-preserved
left-preserved c =
    let start = c.args.out.now in
    let l = c.left in
    let x = document_says c.args.document.now in
    let b = map node_says c.in-Some-pop.after.now in
    let none : length l.rest.now ≡ 0 = search rules in
    let less : l.above.items ≡ c.pop.new.self.items ++ c.in-Some-pop.after ∷ [] = search rules in
    let past = subst (λ (ns : List KdlNode). Walked start l.out (map node_says ns) (stack l.above.items) x) (empty l.rest.now none) l.invariant in
    let at = subst (λ (bs : List (List Node)). Walked start l.out [] bs x) (stack_push c.pop.new.self.items l.above.items c.in-Some-pop.after less) past in
    let wa = c.in_ok-end_array.ensures in
    let wo = c.in_ok-end_object.ensures in
    let e = c.end_object-in_default.new.self in
    let a = and_token l.out c.end_array.new.self e (λ ts. end_array ∷ ts) end_object
    (and_token l.out l.out c.end_array.new.self (λ ts. ts) end_array (nothing l.out) wa.room.0 wa.ok) wo.room.0 wo.ok in
    walk_out start l.out e b (stack c.pop.new.self.items) x at a

pub returns-in_default-pop-clause-fit : goal.returns-in_default-pop-clause-fit
returns-in_default-pop-clause-fit c =
    let start = c.args.out.now in
    let l = c.left in
    let x = document_says c.args.document.now in
    let none : length l.rest.now ≡ 0 = search rules in
    let gone : length l.above.items ≡ 0 = search rules in
    walked_fit start l.out x
    (subst (λ (bs : List (List Node)). Walked start l.out [] bs x) (ap stack (empty l.above.items gone))
    (subst (λ (ns : List KdlNode). Walked start l.out (map node_says ns) (stack l.above.items) x) (empty l.rest.now none) l.invariant))
