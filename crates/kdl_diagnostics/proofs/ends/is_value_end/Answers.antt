use Rattle.std.proofs.Common.{arith}
use Rattle.kdl_text.proofs.Looking.Returns.{returned_less, returned_then}
use Rattle.kdl_diagnostics.proofs.Passing.{returned_looked}
use Rattle.kdl_diagnostics.proofs.ends.is_value_end.Goals as goal

pub returns-in-None : goal.returns-in-None
returns-in-None c = returned_less 1 7 _ _ (omega arith) (returned_looked _ _ c.look.ensures.moved)

pub returns-in-Some : goal.returns-in-Some
returns-in-Some c = returned_then 1 6 _ _ _ (returned_looked _ _ c.look.ensures.moved) c.ends_here.ensures
