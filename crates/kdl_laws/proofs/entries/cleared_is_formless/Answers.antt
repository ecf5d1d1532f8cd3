use Rattle.kdl_laws.proofs.Common.{subst, Value, IsWellFormed}
use Rattle.kdl_entry.proofs.WellFormed.{name_scalars}
use Rattle.kdl_laws.proofs.entries.cleared_is_formless.Goals as goal

pub returns : goal.returns
returns c = record {
  plain = c.requires;
  key = name_scalars c.args.entry.now.name;
  ty = name_scalars c.args.entry.now.ty;
  value = subst (λ (v : Value). IsWellFormed v) c.value.ensures c.values_are_well_formed.ensures;
}
