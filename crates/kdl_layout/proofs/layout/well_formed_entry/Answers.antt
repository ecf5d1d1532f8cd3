use Rattle.kdl_layout.proofs.Common.{subst, Value, IsWellFormed}
use Rattle.kdl_layout.proofs.Entries.{scalars}
use Rattle.kdl_layout.proofs.layout.well_formed_entry.Goals as goal

pub returns : goal.returns
returns c = (scalars c.args.entry.now.name, scalars c.args.entry.now.ty, subst (λ (v : Value). IsWellFormed v) c.value.ensures c.well_formed-2.ensures)
