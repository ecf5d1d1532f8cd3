use Rattle.std.proofs.Common.{rules, ap, ◌∙◌, length, refl, set}
use Rattle.std.specs.Vec.{with_item}
use Rattle.std.proofs.lemmas.Option.{slice_get_read}
use Rattle.kdl.specs.Words.{entries_of}
use Rattle.c_calls.proofs.OpenSteps.{entries_with, own_entries}
use Rattle.c_calls.proofs.node_change.change_entry.Goals as goal

pub returns-in-Some-clause-done : goal.returns-in-Some-clause-done
returns-in-Some-clause-done c =
    let es = entries_of c.args.node.now in
    let old = c.in-Some.entry.now in
    let new = c.make.new.entry in
    record {
      old = old;
      new = new;
      there = slice_get_read es (length es) c.args.index old refl (search rules) (search rules);
      related = c.make.ensures;
      entries = entries_with c.args.node.now (with_item c.entries_mut.result.now c.args.index new) ∙ ap (λ w. set w.items c.args.index new) c.entries_mut.ensures.value;
      rest = own_entries c.args.node.now (with_item c.entries_mut.result.now c.args.index new);
    }
