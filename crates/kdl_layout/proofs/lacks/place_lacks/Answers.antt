use Rattle.kdl_layout.proofs.Common.{IfOk-weaker, chars, held, place_view}
use Rattle.kdl_layout.proofs.Lacking.PlacePieces.{place_lacked}
use Rattle.kdl_layout.proofs.lacks.place_lacks.Goals as goal

pub returns : goal.returns
returns c = IfOk-weaker c.read_place.result _ _ (λ o. place_lacked (place_view c.args.place) (chars c.args.text.now) o _ (held c.read_place.new.items)) c.read_place.ensures
