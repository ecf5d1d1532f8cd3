use Rattle.kdl.proofs.Common.{ap, length, option_and_then, refl, slice_get_read, first_argument, is_node_named}
use Rattle.kdl.proofs.Finding.DocumentLookups.{argument_absent, none_there}
use Rattle.kdl.proofs.document.lookup.place_with_argument.Goals as goal

pub returns-in_default-clause-absent : goal.returns-in_default-clause-absent
returns-in_default-clause-absent c = ap (option_and_then first_argument) (none_there (is_node_named c.args.name.now) c.args.nodes.now c.in_default.ensures.place)

pub returns-in-None-clause-absent : goal.returns-in-None-clause-absent
returns-in-None-clause-absent c =
    let there = slice_get_read c.args.nodes.now (length c.args.nodes.now) c.in-Some.at c.index-nodes-at.result refl c.in-Some.ensures.bound c.index-nodes-at.is in
    argument_absent (is_node_named c.args.name.now) c.args.nodes.now c.in-Some.at c.index-nodes-at.result c.in-Some.ensures.place there c.in-None.ensures.value
