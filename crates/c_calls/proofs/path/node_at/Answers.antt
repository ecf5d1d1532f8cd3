use Rattle.std.proofs.Common.{rules, ◌≡◌, length, None, Some, refl}
use Rattle.std.proofs.lemmas.Option.{slice_get_past, slice_get_read}
use Rattle.kdl.specs.Words.{nodes_of}
use Rattle.c_calls.specs.Paths.{nodes_at}
use Rattle.c_calls.proofs.PathSteps.{at_last}
use Rattle.c_calls.proofs.path.node_at.Goals as goal

pub returns-in_default-nodes_at : goal.returns-in_default-nodes_at
returns-in_default-nodes_at c =
    let above = c.in-Some.above.now in
    let i = c.in-Some.last.now in
    let ns = nodes_of c.args.document.now in
    let none : nodes_at above ns ≡ None = search rules in
    at_last c.args.path.now above i ns None None c.in-Some.ensures.cases.0 none refl

pub returns-in_default-get : goal.returns-in_default-get
returns-in_default-get c =
    let above = c.in-Some.above.now in
    let i = c.in-Some.last.now in
    let ns = nodes_of c.args.document.now in
    let ms = c.in-Some-nodes_at.nodes.now in
    let there : nodes_at above ns ≡ Some ms = search rules in
    at_last c.args.path.now above i ns (Some ms) None c.in-Some.ensures.cases.0 there (slice_get_past ms i (search rules))

pub returns : goal.returns
returns c =
    let above = c.in-Some.above.now in
    let i = c.in-Some.last.now in
    let ns = nodes_of c.args.document.now in
    let ms = c.in-Some-nodes_at.nodes.now in
    let n = c.in-Some-get.node.now in
    let there : nodes_at above ns ≡ Some ms = search rules in
    at_last c.args.path.now above i ns (Some ms) (Some n) c.in-Some.ensures.cases.0 there (slice_get_read ms (length ms) i n refl (search rules) (search rules))
