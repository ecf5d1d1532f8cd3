use Rattle.std.proofs.Common.{sym, ◌∙◌}
use Rattle.kdl_text.proofs.Looking.MovesJoin.{moves_then, moves_stayed, stayed_looked}
use Rattle.kdl_query.proofs.Reading.{function_none, looked_char}
use Rattle.kdl_query.proofs.parse.names.name_here.Goals as goal

pub returns-then-eq : goal.returns-then-eq
returns-then-eq c = record {
  returns = λ r v. function_none _ _ _ r v c.in_ok-name.ensures.returns (looked_char _ 40 _ c.look.ensures.result (sym c.eq.ensures ∙ c.if-eq.true));
  moves = moves_then c.string.ensures.moves (moves_stayed (stayed_looked _ _ c.look.ensures.moved));
}
