use Rattle.std.proofs.Common.{rules, length, refl, Some}
use Rattle.std.proofs.lemmas.Option.{slice_get_past, slice_get_read}
use Rattle.kdl_grammar.specs.Tree.{children}
use Rattle.kdl.specs.Words.{document_tree}
use Rattle.c_calls.proofs.OpenSteps.{none_in, put_in}
use Rattle.c_calls.proofs.opened.put_block.Goals as goal

pub returns-in-Some : goal.returns-in-Some
returns-in-Some c =
    let v = c.nodes_mut.result.now in
    let n = c.in-Some.node.now in
    let i = c.args.index in
    put_in c.args.document.now v i n c.set_children.new.self (Some c.args.block) c.nodes_mut.ensures.value
    (slice_get_read v.items (length v.items) i n refl (search rules) (search rules)) c.set_children.ensures

pub returns-in_default : goal.returns-in_default
returns-in_default c =
    let v = c.nodes_mut.result.now in
    none_in c.args.document.now v c.args.index (children (document_tree c.args.block)) c.nodes_mut.ensures.value (slice_get_past v.items c.args.index (search rules))
