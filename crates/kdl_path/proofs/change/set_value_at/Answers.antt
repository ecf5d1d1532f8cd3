use Rattle.std.proofs.Common.{rules, ap, length, refl}
use Rattle.std.specs.Vec.{with_item}
use Rattle.std.proofs.lemmas.Option.{slice_get_read}
use Rattle.kdl.specs.Words.{entries_of, with_entries}
use Rattle.kdl_path.proofs.change.set_value_at.Goals as goal

pub returns-in-Ok : goal.returns-in-Ok
returns-in-Ok c =
    let es = entries_of c.args.node.now in
    let old = c.in-Some.entry.now in
    let new = c.set_spelled.new.entry in
    record {
      old = old;
      new = new;
      there = slice_get_read es (length es) c.args.at old refl (search rules) (search rules);
      tree = c.in-Ok.ensures;
      rest = ap (λ v. with_entries c.args.node.now (with_item v c.args.at new)) c.entries_mut.ensures.value;
    }
