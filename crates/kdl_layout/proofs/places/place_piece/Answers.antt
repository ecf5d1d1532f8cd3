use Rattle.kdl_layout.proofs.Common.{ap, option_map, chars, held, place_view, InReturn, Open}
use Rattle.kdl_layout.proofs.Lacking.PlacePieces.{part_goes, part_none, part_not_there, spaces_onward, spaces_in_escline}
use Rattle.kdl_layout.proofs.Listing.SpaceItems.{place_none}
use Rattle.kdl_layout.proofs.Listing.Starts.{no_dash}
use Rattle.kdl_layout.proofs.places.place_piece.Goals as goal

pub returns-in-Some-Before : goal.returns-in-Some-Before
returns-in-Some-Before c =
    let text = chars c.args.text.now in
    spaces_onward c.args.place c.spaced.result text c.in-Some-Before.rest (held c.args.items.now) (held c.node_spaces.new.items) c.spaced.ensures
    ((rw (c.in-Some-Before.is, c.in-Some-Before.field-0-is) at c.in_ok-rest.ensures) text c.in_ok-first.ensures)

pub returns-in-Some-InReturn : goal.returns-in-Some-InReturn
returns-in-Some-InReturn c =
    let text = chars c.args.text.now in
    spaces_in_escline c.args.place text InReturn (held c.args.items.now) (held c.node_spaces.new.items) (λ r e. cc) ((rw (c.in-Some-InReturn.is, c.in-Some-InReturn.field-0-is) at c.in_ok-rest.ensures) text c.in_ok-first.ensures)

pub returns-in-Some-Open : goal.returns-in-Some-Open
returns-in-Some-Open c =
    let text = chars c.args.text.now in
    spaces_in_escline c.args.place text Open (held c.args.items.now) (held c.node_spaces.new.items) (λ r e. cc) ((rw (c.in-Some-Open.is, c.in-Some-Open.field-0-is) at c.in_ok-rest.ensures) text c.in_ok-first.ensures)

pub returns-in-None : goal.returns-in-None
returns-in-None c =
    let text = chars c.args.text.now in
    place_none c.requires ((rw c.in-None.is at c.in_ok-rest.ensures) text c.in_ok-first.ensures) (no_dash text _ c.in_ok-first.ensures c.in_default.not-Slashdash)

pub returns-in_default-2 : goal.returns-in_default-2
returns-in_default-2 c = part_none (place_view c.args.place) (chars c.args.text.now) (chars c.after_dash-following.result.now) c.after_dash-following.ensures (rw c.in_default-2.is at c.in_ok-end.ensures)

pub returns-in_default-after_part : goal.returns-in_default-after_part
returns-in_default-after_part c =
    part_not_there (place_view c.args.place) (chars c.args.text.now) (chars c.after_dash-following.result.now) (c.in-Some.end, c.in-Some.ended) (option_map place_view c.after_part.result) c.after_dash-following.ensures
    (rw c.in-Some.is at c.in_ok-end.ensures) c.after_part.ensures (ap (option_map place_view) c.in_default-after_part.is)

pub returns : goal.returns
returns c =
    part_goes (place_view c.args.place) (place_view c.in-Some-after_part.next) (chars c.args.text.now) (chars c.after_dash-following.result.now) (chars c.piece.result.0.now) (chars c.piece.result.1.now) (c.in-Some.end, c.in-Some.ended)
    (option_map place_view c.after_part.result) c.after_dash-following.ensures (rw c.in-Some.is at c.in_ok-end.ensures) c.piece.ensures c.after_part.ensures (ap (option_map place_view) c.in-Some-after_part.is) c.in_ok-add.ensures
