use Rattle.std.proofs.Common.{refl, subst}
use Rattle.cli_world.specs.Acts.{Happens, output}
use Rattle.cli_world.specs.Acts.Effect.{prints}
use Rattle.cli_world.specs.declared.tally.Tally.{Tally}
use Rattle.cli.proofs.request.show.Goals as goal

pub returns : goal.returns
returns g c =
    let h = subst (λ (t : Tally). Happens output (g.W.World.seen c.args.world.now) (g.W.World.seen c.print.new.world) (prints c.args.text.now t) c.print.result) c.plain.ensures c.print.ensures in
    (c.print.result, h, refl)
