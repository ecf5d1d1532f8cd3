use Rattle.std.proofs.Common.{refl}
use Rattle.cli_world.proofs.Acting.{does_this}
use Rattle.cli_world.specs.declared.status.Status.TheVariants.{Done}
use Rattle.cli.specs.Formats.{IsChange}
use Rattle.cli.specs.declared.files.Mode.TheVariants.{Check, Diff, Print, Replace}
use Rattle.cli.proofs.FormatSteps.{does_in, does_print}
use Rattle.cli.proofs.files.change.Goals as goal

pub returns-in-Print : goal.returns-in-Print
returns-in-Print g c =
    does_in (λ m. IsChange m c.args.name.now c.args.old.now c.args.new.now) _ Print _ _ _ _ c.in-Print.is (does_print _ _ _ _ _ Done _ _ refl c.plain.ensures c.print.ensures)

pub returns-in-Check : goal.returns-in-Check
returns-in-Check g c = does_in (λ m. IsChange m c.args.name.now c.args.old.now c.args.new.now) _ Check _ _ _ _ c.in-Check.is c.show_name.ensures

pub returns-in-Diff : goal.returns-in-Diff
returns-in-Diff g c = does_in (λ m. IsChange m c.args.name.now c.args.old.now c.args.new.now) _ Diff _ _ _ _ c.in-Diff.is c.show_lines.ensures

pub returns-in-Replace : goal.returns-in-Replace
returns-in-Replace g c =
    does_in (λ m. IsChange m c.args.name.now c.args.old.now c.args.new.now) _ Replace _ _ _ _ c.in-Replace.is (does_this _ _ _ _ _ _ refl c.replace.ensures)
