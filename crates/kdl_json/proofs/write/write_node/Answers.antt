-- A node, with its block or without one.
use Rattle.std.proofs.Common.{◌≡◌, ◌∷◌, None, Some, rules}
use Rattle.std.specs.Prelude.{codes}
use Rattle.json.specs.Token.{begin_array, end_array, end_object, key}
use Rattle.kdl.specs.Said.{said_children}
use Rattle.kdl.specs.Tree.{document_says, node_says}
use Rattle.kdl_json.specs.Form.{nodes_tokens}
use Rattle.kdl_json.specs.Heads.{head_of}
use Rattle.kdl_json.proofs.Appending.{Appended, and_part, append_same, last_token}
use Rattle.kdl_json.proofs.Walking.{node_with_block, node_without_block}
use Rattle.kdl_json.proofs.write.write_node.Goals as goal

pub returns-in_ok-write_nodes-in-Some : goal.returns-in_ok-write_nodes-in-Some
returns-in_ok-write_nodes-in-Some c =
    let n = node_says c.args.node.now in
    let z = document_says c.in-Some.block.now in
    let has : said_children n ≡ Some z = search rules in
    let wh = c.in_ok-write_head.ensures in
    let wb = c.in_ok-write_block-in-Some.ensures in
    let wn = c.in_ok-write_nodes-in-Some.ensures in
    let h : Appended c.args.out.now c.write_head.new.out (head_of n) = record { before = wh.written.before; tokens = wh.written.tokens } in
    let b = and_part _ _ c.write_block.new.out _ (λ ts. key (codes "children") ∷ begin_array ∷ ts) h wb.before wb.tokens in
    let a = and_part _ _ c.write_nodes.new.out _ (λ ts. nodes_tokens z (end_array ∷ ts)) b wn.written.before wn.written.tokens in
    append_same c.end_object.result c.args.out.now c.end_object.new.self _ _ (last_token c.end_object.result _ _ c.end_object.new.self _ end_object a c.end_object.ensures)
    (λ ts. node_with_block n z ts has)

pub returns-in-None : goal.returns-in-None
returns-in-None c =
    let n = node_says c.args.node.now in
    let has : said_children n ≡ None = search rules in
    let wh = c.in_ok-write_head.ensures in
    let h : Appended c.args.out.now c.write_head.new.out (head_of n) = record { before = wh.written.before; tokens = wh.written.tokens } in
    append_same c.end_object-in-None.result c.args.out.now c.end_object-in-None.new.self _ _ (last_token c.end_object-in-None.result _ _ c.end_object-in-None.new.self _ end_object h c.end_object-in-None.ensures)
    (λ ts. node_without_block n ts has)
