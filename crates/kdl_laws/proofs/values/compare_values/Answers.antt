use Rattle.kdl_laws.proofs.Common.{value_ties}
use Rattle.kdl_laws.proofs.values.compare_values.Goals as goal

pub returns-clause-equal : goal.returns-clause-equal
returns-clause-equal c = value_ties c.args.a.now c.args.b.now c.cmp.result c.cmp.ensures
