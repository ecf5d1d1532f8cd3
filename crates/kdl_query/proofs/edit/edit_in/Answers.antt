use Rattle.std.proofs.Common.{rules, length, refl}
use Rattle.std.proofs.lemmas.Option.{slice_get_past, slice_get_read}
use Rattle.c_calls.proofs.OpenSteps.{set_in}
use Rattle.kdl.specs.DocumentLookups.{nodes_of}
use Rattle.kdl_query.proofs.Editing.{same_nodes}
use Rattle.kdl_query.proofs.edit.edit_in.Goals as goal

pub returns-in-Some : goal.returns-in-Some
returns-in-Some g c =
    let d = c.args.block.now in
    let n = c.in-Some.node.now in
    let i = c.args.index in
    let ns = nodes_of d in
    record {
      old = n;
      new = c.edit.new.arg2;
      there = slice_get_read ns (length ns) i n refl (search rules) (search rules);
      related = search rules;
      rest = set_in d c.nodes_mut.result.now i c.edit.new.arg2 c.nodes_mut.ensures.value;
    }

pub returns-in-None : goal.returns-in-None
returns-in-None g c = (slice_get_past (nodes_of c.args.block.now) c.args.index (search rules), same_nodes c.args.block.now c.nodes_mut.result.now c.nodes_mut.ensures.value)
