use Rattle.kdl_query.proofs.Spacing.{one_more_space, spaces_begin}
use Rattle.kdl_query.proofs.parse.names.skip_ws.Goals as goal

pub ws-init : goal.ws-init
ws-init c = spaces_begin _

pub ws-preserved : goal.ws-preserved
ws-preserved c = one_more_space _ _ _ c.ws.invariant c.ws-test.ensures.reads c.ws-test.ensures.moves
