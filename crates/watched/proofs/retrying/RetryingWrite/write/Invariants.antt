use Rattle.std.specs.Io.KnownBytes.{Keeps}
use Rattle.watched.proofs.retrying.RetryingWrite.write.Given as goal

abbrev pub invariant-loop : goal.invariant-loop
invariant-loop g l = record {
  kept : Keeps (g.W.Write.contents l.initial.self.inner) (g.W.Write.contents l.self.inner);
}
