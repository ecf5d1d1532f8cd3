use Rattle.std.proofs.Common.{◌≡◌, subst}
use Rattle.std.specs.Prelude.{IfOk}
use Rattle.kdl_text.specs.Internal.Here.{Here}
use Rattle.kdl_path.specs.PathText.{IsTarget, TargetData, target_says}
use Rattle.kdl_path.proofs.PathReads.{target_only}
use Rattle.kdl_path.proofs.path.Target.parse.Goals as goal

pub returns-clause-only : goal.returns-clause-only
returns-clause-only c = subst (λ (z : Here). IfOk c.read_target.result (λ t. (x : TargetData) → IsTarget z.rest x → x ≡ target_says t)) c.new-cursor.ensures (target_only _ _ _ c.read_target.ensures)
