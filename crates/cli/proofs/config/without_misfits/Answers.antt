use Rattle.std.proofs.Common.{List, ap, length, subst}
use Rattle.cli.specs.Config.{IsConfig}
use Rattle.cli.specs.declared.config.Misfit.{Misfit}
use Rattle.cli.proofs.Applying.{no_items}
use Rattle.cli.proofs.config.without_misfits.Goals as goal

pub returns-then-is_empty : goal.returns-then-is_empty
returns-then-is_empty c = λ text h.
    let none = no_items c.args.misfits.items _ (ap length c.as_slice.ensures.value) c.if-is_empty.ensures in
    subst (λ (ms : List Misfit). IsConfig text c.args.given ms) none h
