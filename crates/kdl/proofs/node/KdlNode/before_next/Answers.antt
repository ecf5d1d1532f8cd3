use Rattle.kdl.proofs.Common.{refl, IfOk-weaker, out-KdlNode}
use Rattle.kdl.proofs.LayingOut.PartsSpaced.{own_passes}
use Rattle.kdl.proofs.node.KdlNode.before_next.Goals as goal

pub returns : goal.returns
returns c = IfOk-weaker c.after_line.result _ _ (λ b p. own_passes c.args.layout.now c.args.self.now b (out-KdlNode c.args.self.now).format refl p) c.after_line.ensures
