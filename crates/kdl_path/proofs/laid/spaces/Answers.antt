use Rattle.kdl_path.proofs.Ends.{more_spaces, no_spaces}
use Rattle.kdl_path.proofs.laid.spaces.Goals as goal

pub loop-space-init : goal.loop-space-init
loop-space-init c = no_spaces c.new-out.result c.new-out.ensures.bytes

pub loop-space-preserved : goal.loop-space-preserved
loop-space-preserved c = more_spaces _ _ _ c.in_ok-push_text.ensures c.space.ensures c.loop-space.invariant
