use Rattle.std.proofs.Common.{map, take}
use Rattle.cli.proofs.SearchSteps.{SearchedSoFar}
use Rattle.cli.proofs.query.search_files.Given as goal

abbrev pub invariant-loop-name : goal.invariant-loop-name
invariant-loop-name g l = record {
  found : SearchedSoFar l.search (map (λ n. n.now) (take l.name-index l.names)) (g.W.World.seen l.initial.world) (g.W.World.seen l.world) l.status l.is_hit;
}
