use Rattle.kdl_layout.proofs.Common.{sym, ◌∙◌, chars, held, place_view}
use Rattle.kdl_layout.proofs.Lacking.PlacePieces.{place_start, place_turn, place_done, place_lacking, place_refused, place_undone}
use Rattle.kdl_layout.proofs.Listing.Starts.{no_chars, some_chars}
use Rattle.kdl_layout.proofs.places.read_place.Goals as goal

pub pieces-init : goal.pieces-init
pieces-init c = (c.utf8.text, place_start (place_view c.args.place) (chars c.args.text.now) (held c.args.items.now))

pub place_piece-requires : goal.place_piece-requires
place_piece-requires c = some_chars c.pieces.rest.now c.pieces.invariant.0 (sym c.is_empty.ensures ∙ c.pieces-test.true)

pub pieces-smaller : goal.pieces-smaller
pieces-smaller c = rw c.same-rest.ensures (rw (c.in-Some-Continue.is, c.in-Some-Continue.field-0-is) at c.in_ok-next.ensures).1

pub pieces-preserved : goal.pieces-preserved
pieces-preserved c = (
  c.same-rest.utf8,
  place_turn (place_view c.args.place) (place_view c.pieces.place) (place_view c.in-Some-Continue.next) (chars c.args.text.now) (chars c.pieces.rest.now) (chars c.same-rest.result.now) (chars c.in-Some-Continue.following.now) c.pieces.invariant.1
      (rw (c.in-Some-Continue.is, c.in-Some-Continue.field-0-is) at c.in_ok-next.ensures).0 c.same-rest.ensures,
)

pub returns-in-Some-Break : goal.returns-in-Some-Break
returns-in-Some-Break c =
    place_lacking (place_view c.args.place) (place_view c.pieces.place) (chars c.args.text.now) (chars c.pieces.rest.now) c.pieces.invariant.1
    (rw (c.in-Some-Break.is, c.in-Some-Break.field-0-is) at c.in_ok-next.ensures)

pub returns-in-None : goal.returns-in-None
returns-in-None c = place_refused (place_view c.args.place) (place_view c.pieces.place) (chars c.args.text.now) (chars c.pieces.rest.now) c.pieces.invariant.1 (rw c.in-None.is at c.in_ok-next.ensures)

pub returns-then-may_end : goal.returns-then-may_end
returns-then-may_end c =
    place_done (place_view c.args.place) (place_view c.pieces.place) (chars c.args.text.now) (chars c.pieces.rest.now) c.pieces.invariant.1 (no_chars c.pieces.rest.now (sym c.is_empty.ensures ∙ c.pieces-test.false))
    (sym c.may_end.ensures ∙ c.if-may_end.true)

pub returns-else-may_end : goal.returns-else-may_end
returns-else-may_end c =
    place_refused (place_view c.args.place) (place_view c.pieces.place) (chars c.args.text.now) (chars c.pieces.rest.now) c.pieces.invariant.1
    (place_undone (place_view c.pieces.place) (chars c.pieces.rest.now) (no_chars c.pieces.rest.now (sym c.is_empty.ensures ∙ c.pieces-test.false)) (sym c.may_end.ensures ∙ c.if-may_end.false))
