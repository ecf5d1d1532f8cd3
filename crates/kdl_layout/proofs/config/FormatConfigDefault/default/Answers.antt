use Rattle.kdl_layout.proofs.Common.{ap, refl, ◌∷◌, [], Text}
use Rattle.kdl_layout.specs.Config.{defaults}
use Rattle.kdl_layout.proofs.Texts.{ascii_text}
use Rattle.kdl_layout.proofs.config.FormatConfigDefault.default.Goals as goal

pub returns : goal.returns
returns c = ap (λ (t : Text). record defaults { indent = t }) (ascii_text (32 ∷ 32 ∷ 32 ∷ 32 ∷ []) refl)
