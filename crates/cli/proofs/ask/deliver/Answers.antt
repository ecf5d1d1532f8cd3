use Rattle.cli.proofs.Delivering.{text_stays}
use Rattle.cli.proofs.ask.deliver.Goals as goal

pub returns-then-eq : goal.returns-then-eq
returns-then-eq g c = text_stays c.args.ask.now.name.now c.args.text.now c.args.new.now c.args.ask.now.replace c.eq.result _ _ c.if-not-ask.false c.if-eq.true c.eq.ensures c.plain-then-eq.ensures
