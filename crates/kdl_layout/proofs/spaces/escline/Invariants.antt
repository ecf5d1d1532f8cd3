use Rattle.kdl_layout.proofs.Common.{length, chars, Utf8, shadow, Adding, held}
use Rattle.kdl_layout.proofs.Lacking.SpaceEnds.{EsclineTo}
use Rattle.kdl_layout.proofs.spaces.escline.Given as goal

abbrev pub invariant-comments : goal.invariant-comments
invariant-comments l = shadow (Utf8 l.rest) × Adding (EsclineTo (chars l.fn.text) (chars l.rest)) (held l.fn.items) (held l.items)

abbrev pub decreases-comments : goal.decreases-comments
decreases-comments l = length (chars l.rest)
