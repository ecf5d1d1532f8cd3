-- An entry in memory is fit.
use Rattle.std.proofs.Common.{subst}
use Rattle.kdl_value.specs.Data.{Value}
use Rattle.kdl_value.specs.WellFormed.{IsWellFormed}
use Rattle.kdl_json.proofs.Fit.{entry_fit}
use Rattle.kdl_json.proofs.Results.{on_ok}
use Rattle.kdl_json.proofs.write.write_entry.Goals as goal

pub returns-clause-fit : goal.returns-clause-fit
returns-clause-fit c = on_ok c.end_object.result (entry_fit c.args.entry.now (subst (λ (v : Value). IsWellFormed v) c.value.ensures c.well_formed-2.ensures))
