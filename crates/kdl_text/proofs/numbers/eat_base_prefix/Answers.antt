use Rattle.kdl_text.proofs.Numeric.NumberReads.{base_ten, base_other}
use Rattle.kdl_text.proofs.numbers.eat_base_prefix.Goals as goal

pub returns-in_default : goal.returns-in_default
returns-in_default c = let (none, k, few, stayed) = c.in_default.ensures in base_ten _ _ none few stayed

pub returns : goal.returns
returns c = base_other _ _ _ _ _ c.in-Some.ensures.0 c.in-Some.ensures.1 c.step.ensures c.step-2.ensures
