use Rattle.kdl_layout.proofs.Common.{chars, held}
use Rattle.kdl_layout.proofs.Lacking.SpaceEnds.{escline_start, escline_on, escline_break, escline_ends, escline_none}
use Rattle.kdl_layout.proofs.Listing.Starts.{starts_shorter, break_of, no_ws, no_escline_end}
use Rattle.kdl_layout.proofs.spaces.escline.Goals as goal

pub comments-init : goal.comments-init
comments-init c = (c.utf8.text, escline_start (chars c.args.text.now) (held c.args.items.now))

pub comments-smaller : goal.comments-smaller
comments-smaller c = rw c.same-rest.ensures (starts_shorter (chars c.comments.rest.now) c.in-Space.item c.in-Space.following (rw c.in-Space.is at c.in_ok-item.ensures))

pub comments-preserved : goal.comments-preserved
comments-preserved c = (
  c.same-rest.utf8,
  escline_on (chars c.args.text.now) (chars c.comments.rest.now) (chars c.same-rest.result.now) c.in-Space.item c.in-Space.following c.comments.invariant.1 (rw c.in-Space.is at c.in_ok-item.ensures) c.in_ok-add-in-Space.ensures
      c.same-rest.ensures,
)

pub break_ending-requires : goal.break_ending-requires
break_ending-requires c = break_of (chars c.comments.rest.now) c.in-Break.item c.in-Break.following (rw c.in-Break.is at c.in_ok-item.ensures)

pub returns-in-Break : goal.returns-in-Break
returns-in-Break c =
    escline_break (chars c.args.text.now) (chars c.comments.rest.now) c.in-Break.item c.in-Break.following c.break_ending.result c.comments.invariant.1 (rw c.in-Break.is at c.in_ok-item.ensures) c.in_ok-add-in-Break.ensures c.break_ending.ensures

pub returns-in-End : goal.returns-in-End
returns-in-End c = escline_ends (chars c.args.text.now) (chars c.comments.rest.now) c.comments.invariant.1 (rw c.in-End.is at c.in_ok-item.ensures)

pub returns-in_default : goal.returns-in_default
returns-in_default c =
    let rest = chars c.comments.rest.now in
    escline_none (chars c.args.text.now) rest c.comments.invariant.1 (no_ws rest _ c.in_ok-item.ensures c.in_default.not-Space) (no_escline_end rest _ c.in_ok-item.ensures c.in_default.not-Break c.in_default.not-End)
