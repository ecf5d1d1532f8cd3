use Rattle.std.proofs.Common.{[], ◌∷◌, ◌++◌, ap, refl, ◌∙◌}
use Rattle.kdl.specs.Words.{EntryData, entry_tree, node_says, said_entries}
use Rattle.use_theorems.proofs.SaidAfter.{pushed_said, typed}
use Rattle.use_theorems.proofs.reads_back.push_typed.Goals as goal

pub returns-clause-says : goal.returns-clause-says
returns-clause-says c =
    let e = c.set_ty.new.self in
    pushed_said c.args.node.now c.push.new.self e (entry_tree e) c.in-Ok.ensures.items refl
    ∙ ap (λ (y : EntryData). said_entries (node_says c.args.node.now) ++ (y ∷ [])) (typed _ _ _ _ _ _ _ _ c.new-entry.ensures.tree c.set_name.ensures c.set_ty.ensures c.in_ok-from_text.ensures c.in_ok-from_text-2.ensures)
