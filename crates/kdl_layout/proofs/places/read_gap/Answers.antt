use Rattle.kdl_layout.proofs.Common.{sym, ◌∙◌, chars, held}
use Rattle.kdl_layout.proofs.Lacking.GapPieces.{through_start, gap_turn, gap_end, gap_last, gap_refused}
use Rattle.kdl_layout.proofs.Listing.Starts.{no_chars, some_chars}
use Rattle.kdl_layout.proofs.places.read_gap.Goals as goal

pub pieces-init : goal.pieces-init
pieces-init c = (c.utf8.text, through_start (chars c.args.text.now) (held c.args.items.now))

pub gap_piece-requires : goal.gap_piece-requires
gap_piece-requires c = some_chars c.pieces.rest.now c.pieces.invariant.0 (sym c.is_empty.ensures ∙ c.pieces-test.true)

pub pieces-smaller : goal.pieces-smaller
pieces-smaller c = rw c.same-rest.ensures (rw (c.in-Some-Continue.is, c.in-Some-Continue.field-0-is) at c.in_ok-following.ensures).1

pub pieces-preserved : goal.pieces-preserved
pieces-preserved c = (
  c.same-rest.utf8,
  gap_turn (chars c.args.text.now) (chars c.pieces.rest.now) (chars c.same-rest.result.now) c.in-Some-Continue.following c.pieces.invariant.1 (rw (c.in-Some-Continue.is, c.in-Some-Continue.field-0-is) at c.in_ok-following.ensures) c.same-rest.ensures,
)

pub returns-in-Some-Break : goal.returns-in-Some-Break
returns-in-Some-Break c = gap_last (chars c.args.text.now) (chars c.pieces.rest.now) c.in-Some-Break.lacks c.pieces.invariant.1 (rw (c.in-Some-Break.is, c.in-Some-Break.field-0-is) at c.in_ok-following.ensures)

pub returns-in-None : goal.returns-in-None
returns-in-None c = gap_refused (chars c.args.text.now) (chars c.pieces.rest.now) c.pieces.invariant.1 (rw c.in-None.is at c.in_ok-following.ensures)

pub returns : goal.returns
returns c = gap_end (chars c.args.text.now) (chars c.pieces.rest.now) c.pieces.invariant.1 (no_chars c.pieces.rest.now (sym c.is_empty.ensures ∙ c.pieces-test.false))
