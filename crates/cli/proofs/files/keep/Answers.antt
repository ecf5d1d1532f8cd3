use Rattle.std.proofs.Common.{refl}
use Rattle.cli_world.specs.declared.status.Status.TheVariants.{Done}
use Rattle.cli.specs.Formats.{IsNoChange}
use Rattle.cli.specs.declared.files.Mode.TheVariants.{Print}
use Rattle.cli.proofs.FormatSteps.{does_in, does_nothing, does_print}
use Rattle.cli.proofs.files.keep.Goals as goal

pub returns-in-Print : goal.returns-in-Print
returns-in-Print g c = does_in (λ m. IsNoChange m c.args.text.now) _ Print _ _ _ _ c.in-Print.is (does_print _ _ _ _ _ Done _ _ refl c.plain.ensures c.print.ensures)

pub returns-in-Check : goal.returns-in-Check
returns-in-Check g c = does_nothing _ _ _ _ _ c.in-Check.is c.plain-in-Check.ensures
