use Rattle.std.proofs.Common.{rules, ◌≡◌, ◌+◌, ◌≤◌, length, None, Some, ap, ◌∙◌, sym, refl, drop, slice_index_or}
use Rattle.std.specs.Prelude.{slice_get}
use Rattle.std.proofs.lemmas.Option.{slice_get_past, slice_get_read}
use Rattle.kdl.specs.declared.node.KdlNode.{out-KdlNode}
use Rattle.c_calls.specs.Paths.{nodes_at}
use Rattle.c_calls.proofs.PathSteps.{goes_down, none_there, no_block, at_end}
use Rattle.c_calls.proofs.path.nodes_at.Goals as goal

pub loop-index-init : goal.loop-index-init
loop-index-init c = ap (nodes_at c.args.path.now) c.nodes-nodes.ensures.value

pub returns-in_default : goal.returns-in_default
returns-in_default c =
    let p = c.args.path.now in
    let i = c.loop-index.index-index in
    let none : slice_get c.loop-index.nodes.now (slice_index_or p i 0) ≡ None = slice_get_past c.loop-index.nodes.now (slice_index_or p i 0) (search rules) in
    sym (none_there p i c.loop-index.nodes.now c.loop-index-test.true none) ∙ c.loop-index.invariant

pub returns-in_default-children : goal.returns-in_default-children
returns-in_default-children c =
    let p = c.args.path.now in
    let i = c.loop-index.index-index in
    let at : slice_get c.loop-index.nodes.now (slice_index_or p i 0) ≡ Some c.in-Some.node.now = slice_get_read c.loop-index.nodes.now (length c.loop-index.nodes.now) (slice_index_or p i 0) c.in-Some.node.now refl (search rules) (search rules) in
    let has : (out-KdlNode c.in-Some.node.now).children ≡ None = search rules in
    sym (no_block p i c.loop-index.nodes.now c.in-Some.node.now c.loop-index-test.true at has) ∙ c.loop-index.invariant

pub loop-index-preserved : goal.loop-index-preserved
loop-index-preserved c =
    let p = c.args.path.now in
    let i = c.loop-index.index-index in
    let d = c.in-Some-children.block.now in
    let at : slice_get c.loop-index.nodes.now (slice_index_or p i 0) ≡ Some c.in-Some.node.now = slice_get_read c.loop-index.nodes.now (length c.loop-index.nodes.now) (slice_index_or p i 0) c.in-Some.node.now refl (search rules) (search rules) in
    let has : (out-KdlNode c.in-Some.node.now).children ≡ Some d = search rules in
    ap (nodes_at (drop (i + 1) p)) c.nodes-nodes-in-loop-index.ensures.value
    ∙ goes_down p i c.loop-index.nodes.now c.in-Some.node.now d c.loop-index-test.true at has
    ∙ c.loop-index.invariant

pub returns : goal.returns
returns c =
    let p = c.args.path.now in
    let past : length p ≤ c.loop-index.index-index = search rules in
    at_end p c.loop-index.index-index c.loop-index.nodes.now past ∙ c.loop-index.invariant
