use Rattle.kdl_query.proofs.Spacing.{one_more_space, spaces_begin}
use Rattle.kdl_query.proofs.parse.names.skip_spaces.Goals as goal

pub spaces-init : goal.spaces-init
spaces-init c = spaces_begin _

pub spaces-preserved : goal.spaces-preserved
spaces-preserved c = one_more_space _ _ _ c.spaces.invariant c.spaces-test.ensures.reads c.spaces-test.ensures.moves
