use Rattle.std.proofs.Common.{rules, ap, length, refl, None}
use Rattle.std.proofs.lemmas.Option.{slice_get_past, slice_get_read}
use Rattle.kdl_grammar.specs.Tree.{no_children}
use Rattle.kdl.specs.Words.{with_children}
use Rattle.c_calls.proofs.OpenSteps.{no_block_in, none_in, put_in}
use Rattle.c_calls.proofs.opened.take_block.Goals as goal

pub returns-in-Some-clause-tree : goal.returns-in-Some-clause-tree
returns-in-Some-clause-tree c =
    let v = c.nodes_mut.result.now in
    let n = c.in-Some.node.now in
    let i = c.args.index in
    put_in c.args.document.now v i n (with_children n c.take.new.self) None c.nodes_mut.ensures.value
    (slice_get_read v.items (length v.items) i n refl (search rules) (search rules)) (ap (with_children n) c.take.ensures.after)

pub returns-in-None-clause-value : goal.returns-in-None-clause-value
returns-in-None-clause-value c =
    let v = c.nodes_mut.result.now in
    no_block_in c.args.document.now v c.args.index c.nodes_mut.ensures.value (slice_get_past v.items c.args.index (search rules))

pub returns-in-None-clause-tree : goal.returns-in-None-clause-tree
returns-in-None-clause-tree c =
    let v = c.nodes_mut.result.now in
    none_in c.args.document.now v c.args.index no_children c.nodes_mut.ensures.value (slice_get_past v.items c.args.index (search rules))
