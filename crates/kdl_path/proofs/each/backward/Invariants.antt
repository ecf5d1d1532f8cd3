use Rattle.std.proofs.Common.{◌≡◌, ◌++◌, ◌∷◌, [], drop, reverse}
use Rattle.kdl_query.specs.Turns.{paths_from}
use Rattle.kdl_path.proofs.each.backward.Given as goal

-- the turns so far lead back from the path, and the others on from it
abbrev pub invariant-loop-turn : goal.invariant-loop-turn
invariant-loop-turn l = reverse (paths_from l.path.items (reverse l.back.items)) ++ l.path.items ∷ paths_from l.path.items (drop l.turn-index l.others) ≡ paths_from [] (l.first ∷ l.others)
