use Rattle.kdl_layout.proofs.Common.{IfOk-weaker, chars, held}
use Rattle.kdl_layout.proofs.Lacking.SpaceEnds.{only_are}
use Rattle.kdl_layout.proofs.lacks.is_node_spaces.Goals as goal

pub returns : goal.returns
returns c = IfOk-weaker c.only_spaces.result _ _ (λ b. only_are (chars c.args.text.now) b _ (held c.only_spaces.new.items)) c.only_spaces.ensures
