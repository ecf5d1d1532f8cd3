use Rattle.kdl_layout.proofs.Common.{length, chars, Utf8, shadow, PlaceThrough, Adding, held, place_view}
use Rattle.kdl_layout.proofs.places.read_place.Given as goal

abbrev pub invariant-pieces : goal.invariant-pieces
invariant-pieces l = shadow (Utf8 l.rest) × Adding (PlaceThrough (place_view l.fn.place) (chars l.fn.text) (place_view l.place) (chars l.rest)) (held l.fn.items) (held l.items)

abbrev pub decreases-pieces : goal.decreases-pieces
decreases-pieces l = length (chars l.rest)
