use Rattle.kdl_layout.proofs.Common.{sym, subst, IfOk-weaker, Text, NodeSpace, SpaceItems, Spaces, held}
use Rattle.kdl_layout.proofs.Lacking.SpaceEnds.{space_adds}
use Rattle.kdl_layout.proofs.Listing.Starts.{no_node_space}
use Rattle.kdl_layout.proofs.spaces.node_spaces.Goals as goal

pub returns-in_ok-add-in-Space : goal.returns-in_ok-add-in-Space
returns-in_ok-add-in-Space c = λ s h. space_adds s c.in-Space.item c.in-Space.rest (held c.args.items.now) (held c.add.new.items) (rw c.in-Space.is at h) c.in_ok-add-in-Space.ensures

pub returns-in-Backslash : goal.returns-in-Backslash
returns-in-Backslash c =
    IfOk-weaker c.escline.result _ _ (λ o a. λ s h. subst (λ (z : Text). Spaces NodeSpace SpaceItems z o (held c.args.items.now) (held c.escline.new.items)) (sym (rw c.in-Backslash.is at h)) a) c.escline.ensures

pub returns-in_default : goal.returns-in_default
returns-in_default c = λ s h. no_node_space s c.args.first h c.in_default.not-Space c.in_default.not-Backslash
