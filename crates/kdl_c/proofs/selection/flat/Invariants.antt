use Rattle.std.proofs.Common.{◌≡◌, map, take}
use Rattle.kdl_c.specs.Queries.{flat}
use Rattle.kdl_c.proofs.selection.flat.Given as goal

abbrev pub invariant-loop-path : goal.invariant-loop-path
invariant-loop-path l = l.all.items ≡ flat (map (λ p. p.items) (take l.path-index l.paths))
