use Rattle.rows.proofs.Counts.{less_waits}
use Rattle.rows.proofs.dump.Dump.all.Goals as goal

pub loop-next-smaller : goal.loop-next-smaller
loop-next-smaller c = less_waits (λ w. w.document.now) c.loop-next.waiting.items c.pop.new.self.items c.level.new.waiting.items c.in-Some.next c.in-Some.ensures.items c.level.ensures
