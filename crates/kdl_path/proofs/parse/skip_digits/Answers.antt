use Rattle.kdl_path.proofs.PathReads.{digits_begin, one_more_digit}
use Rattle.kdl_path.proofs.parse.skip_digits.Goals as goal

pub digits-init : goal.digits-init
digits-init c = digits_begin _

pub digits-preserved : goal.digits-preserved
digits-preserved c = one_more_digit _ _ _ c.digits.invariant c.digits-test.ensures.ate c.digits-test.ensures.moves
