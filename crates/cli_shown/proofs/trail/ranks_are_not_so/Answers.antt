use Rattle.std.proofs.Common.{◌≡◌, ℕ, [], ◌∷◌, Some, arith, refl}
use Rattle.kdl.specs.Words.{NodeData}
use Rattle.kdl_query.specs.Selects.{Path}
use Rattle.cli_shown.specs.Internal.Trail.{AreRanks, AreRanksAlong}
use Rattle.cli_shown.proofs.trail.ranks_are_not_so.Goals as goal

first : (n : NodeData) → AreRanks (1 ∷ []) (n ∷ []) → ⊥
first n h =
    let one : ℕ = 1 in
    let none : ℕ = 0 in
    let told : Some one ≡ Some none = h 0 n refl in
    let clash : one ≡ none = cc (told) in
    omega (arith, clash)

along : (p : Path) (n : NodeData) → AreRanksAlong ((1 ∷ []) ∷ []) p (n ∷ []) → ⊥
along [] n h = first n h.0
along (i ∷ p) n h = first n h.0

pub returns-clause-first : goal.returns-clause-first
returns-clause-first c = first

pub returns-clause-missing : goal.returns-clause-missing
returns-clause-missing c n h = let told = h 0 n refl in absurd (cc (told))

pub returns-clause-along : goal.returns-clause-along
returns-clause-along c = along
