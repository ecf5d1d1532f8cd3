use Rattle.kdl_layout.proofs.Common.{true, false, chars, held}
use Rattle.kdl_layout.proofs.Dropping.TokenLoop.{no_node}
use Rattle.kdl_layout.proofs.Lacking.GapPieces.{node_terminated, node_unterminated, spaces_end_gap}
use Rattle.kdl_layout.proofs.Listing.SpaceItems.{gap_none}
use Rattle.kdl_layout.proofs.Listing.Starts.{no_dash}
use Rattle.kdl_layout.proofs.places.gap_piece.Goals as goal

pub returns-in-Some : goal.returns-in-Some
returns-in-Some c = rw c.piece_of.ensures (spaces_end_gap (chars c.args.text.now) c.in-Some.ending (held c.args.items.now) (held c.line_spaces.new.items) (rw c.in-Some.is at c.in_ok-ending.ensures))

pub returns-in-None : goal.returns-in-None
returns-in-None c = gap_none c.requires (rw c.in-None.is at c.in_ok-ending.ensures) (no_dash (chars c.args.text.now) _ c.in_ok-first.ensures c.in_default.not-Slashdash)

pub returns-in_default-2 : goal.returns-in_default-2
returns-in_default-2 c = no_node (chars c.args.text.now) (chars c.after_dash-following.result.now) c.after_dash-following.ensures (rw c.in_default-2.is at c.in_ok-item.ensures)

pub returns-in-Some-ending : goal.returns-in-Some-ending
returns-in-Some-ending c =
    rw c.piece_of-in-Some-ending.ensures (node_terminated (chars c.args.text.now) (chars c.after_dash-following.result.now) (chars c.piece.result.0.now) (chars c.piece.result.1.now) (c.in-Some-2.item, c.in-Some-2.ending) (held c.args.items.now) (held c.add.new.items)
    c.after_dash-following.ensures c.piece.ensures c.in_ok-add.ensures c.in-Some-ending.ending (rw c.in-Some-2.is at c.in_ok-item.ensures) c.in-Some-ending.is)

pub returns-then-branch : goal.returns-then-branch
returns-then-branch c =
    node_unterminated (chars c.args.text.now) (chars c.after_dash-following.result.now) (chars c.piece.result.0.now) (chars c.piece.result.1.now) (c.in-Some-2.item, c.in-Some-2.ending) (held c.args.items.now) (held c.add.new.items)
    c.after_dash-following.ensures c.piece.ensures c.in_ok-add.ensures true (held c.only_spaces.new.items) (rw c.in-Some-2.is at c.in_ok-item.ensures) c.in_default-ending.is (rw c.if-branch.true at c.in_ok-only_spaces.ensures)

pub returns-else-branch : goal.returns-else-branch
returns-else-branch c =
    node_unterminated (chars c.args.text.now) (chars c.after_dash-following.result.now) (chars c.piece.result.0.now) (chars c.piece.result.1.now) (c.in-Some-2.item, c.in-Some-2.ending) (held c.args.items.now) (held c.add.new.items)
    c.after_dash-following.ensures c.piece.ensures c.in_ok-add.ensures false (held c.only_spaces.new.items) (rw c.in-Some-2.is at c.in_ok-item.ensures) c.in_default-ending.is (rw c.if-branch.false at c.in_ok-only_spaces.ensures)
