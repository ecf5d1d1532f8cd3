use Rattle.kdl_layout.proofs.Common.{[], ◌∷◌, refl, chars}
use Rattle.kdl_layout.proofs.Dropping.TokenLoop.{after_dash}
use Rattle.kdl_layout.proofs.places.after_dash.Goals as goal

pub cut-requires : goal.cut-requires
cut-requires c = (47 ∷ 45 ∷ [], c.requires.0, c.requires.1, refl)

pub returns : goal.returns
returns c = after_dash (chars c.args.text.now) c.requires.0 (chars c.cut.result.0.now) (chars c.cut.result.1.now) c.requires.1 c.cut.ensures.parts
