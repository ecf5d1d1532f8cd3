use Rattle.kdl.proofs.Common.{◌≡◌, ℕ, List, map, IsUnderWay, StepStays, left, whole, IndentsBySpaces, settings, Before, bare_node, Node}
use Rattle.kdl.proofs.layout.LayoutFrame.lay_out.Given as goal

abbrev pub invariant-steps : goal.invariant-steps
invariant-steps l =
    (map bare_node (whole l.above.items l.self) ≡ map bare_node (whole l.initial.above.items l.initial.self))
    × ((level : ℕ) (c : Before) (olds : List Node) → IsUnderWay l.layout level c olds l.initial.above.items l.initial.self → IsUnderWay l.layout level c olds l.above.items l.self)
    × (IndentsBySpaces (settings l.layout.config) → StepStays l.layout l.initial.above.items l.initial.self l.above.items l.self)

abbrev pub decreases-steps : goal.decreases-steps
decreases-steps l = left l.above.items l.self
