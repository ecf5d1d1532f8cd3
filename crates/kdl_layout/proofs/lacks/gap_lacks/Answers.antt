use Rattle.kdl_layout.proofs.Common.{IfOk-weaker, chars, held}
use Rattle.kdl_layout.proofs.Lacking.Fewest.{gap_answer}
use Rattle.kdl_layout.proofs.lacks.gap_lacks.Goals as goal

pub returns : goal.returns
returns c = IfOk-weaker c.read_gap.result _ _ (λ o. gap_answer (chars c.args.text.now) o _ (held c.read_gap.new.items)) c.read_gap.ensures
