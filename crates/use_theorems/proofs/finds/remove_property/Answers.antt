use Rattle.use_theorems.proofs.Removed.{removed_first}
use Rattle.use_theorems.proofs.finds.remove_property.Goals as goal

pub returns-clause-first : goal.returns-clause-first
returns-clause-first c = removed_first c.in_ok-key.key c.args.name.now c.args.node.now c.remove.result c.in_ok-key.ensures.name c.remove.ensures.value
