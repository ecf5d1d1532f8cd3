use Rattle.kdl.proofs.Common.{is_some, subst, sym, chars, PlaceLacks, IsLacking, PlaceFewest, PlaceSays, block_if}
use Rattle.kdl.proofs.Putting.Fewest.{place_read}
use Rattle.kdl.proofs.ends.place_newlines.Goals as goal

pub returns : goal.returns
returns c =
    let t = chars c.args.text.now in
    let b = is_some c.args.children.now in
    subst (IsLacking 1 (PlaceSays (block_if b) t) (PlaceFewest (block_if b) t)) (sym c.newline_count.ensures)
    (place_read b t c.in_ok-lacks.lacks (subst (λ p. PlaceLacks p t c.in_ok-lacks.lacks) c.last_place.ensures c.in_ok-lacks.ensures))
