use Rattle.kdl_layout.proofs.Common.{length, chars, Utf8, shadow, Adding, held}
use Rattle.kdl_layout.proofs.Lacking.SpaceEnds.{SpacesFrom}
use Rattle.kdl_layout.proofs.spaces.only_spaces.Given as goal

abbrev pub invariant-spaces : goal.invariant-spaces
invariant-spaces l = shadow (Utf8 l.rest) × Adding (SpacesFrom (chars l.fn.text) (chars l.rest)) (held l.fn.items) (held l.items)

abbrev pub decreases-spaces : goal.decreases-spaces
decreases-spaces l = length (chars l.rest)
