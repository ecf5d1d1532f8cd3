use Rattle.std.proofs.Common.{sym, ◌∙◌}
use Rattle.kdl_text.proofs.Looking.MovesJoin.{moves_one, took_from}
use Rattle.kdl_path.proofs.parse.eat_digit.Goals as goal

pub returns-in-Some-clause-moves : goal.returns-in-Some-clause-moves
returns-in-Some-clause-moves c = moves_one (took_from _ _ _ _ (sym c.in-Some.is ∙ c.look.ensures.result) c.look.ensures.moved c.step.ensures)
