use Rattle.std.proofs.Common.{rules, ◌≡◌, [], ◌∷◌, ◌++◌}
use Rattle.kdl.specs.Words.{entries_of}
use Rattle.kdl_path.proofs.Removals.{pushed_says}
use Rattle.kdl_path.proofs.change.push_entry.Goals as goal

pub returns-in-Ok : goal.returns-in-Ok
returns-in-Ok c =
    let items : entries_of c.push.new.self ≡ entries_of c.args.node.now ++ (c.args.entry ∷ []) = search rules in
    record { says = pushed_says c.args.entry c.args.node.now c.push.new.self items c.push.ensures.rest; reads = c.push.ensures.reads }
