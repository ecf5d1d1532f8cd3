use Rattle.kdl_layout.proofs.Common.{◌≡◌, Bool, [], false, refl, true, IfOk-weaker, chars, Text, text_of, after_block, Settings, settings, KeptBeforeBlock, last_place, place_view}
use Rattle.kdl_layout.specs.declared.spaces.Place.{Place}
use Rattle.kdl_layout.proofs.layout.kept_before_block.Goals as goal

no_block : (s : Settings) (p : Place) (place t : Text) → (p ≡ Place.AfterBlock → ⊥) → t ≡ [] → (has : Bool) → place_view p ≡ last_place has → KeptBeforeBlock s has place t
no_block s p place t n e false h = e
no_block s Place.AfterBlock place t n e true h = absurd (n refl)
no_block s Place.BeforeBlock place t n e true h = absurd cc
no_block s (Place.BeforeEntry b) place t n e true h = absurd cc

a_block : (s : Settings) (place t : Text) → KeptBeforeBlock s true place t → (has : Bool) → after_block ≡ last_place has → KeptBeforeBlock s has place t
a_block s place t k true h = k
a_block s place t k false h = absurd cc

pub returns-in-AfterBlock : goal.returns-in-AfterBlock
returns-in-AfterBlock c = IfOk-weaker c.kept_tail.result _ _ (λ t k has h. a_block (settings c.args.config.now) (chars c.args.text.now) (text_of t) k has (rw c.in-AfterBlock.is at h)) c.kept_tail.ensures

pub returns-in_default : goal.returns-in_default
returns-in_default c = no_block (settings c.args.config.now) c.args.last (chars c.args.text.now) (text_of c.no_text.result) c.in_default.not-AfterBlock c.no_text.ensures
