use Rattle.kdl_layout.proofs.Common.{length, chars, Utf8, shadow, Through, Adding, held}
use Rattle.kdl_layout.proofs.places.read_gap.Given as goal

abbrev pub invariant-pieces : goal.invariant-pieces
invariant-pieces l = shadow (Utf8 l.rest) × Adding (Through (chars l.fn.text) (chars l.rest)) (held l.fn.items) (held l.items)

abbrev pub decreases-pieces : goal.decreases-pieces
decreases-pieces l = length (chars l.rest)
