use Rattle.std.proofs.Common.{sym, ap, ◌∙◌}
use Rattle.kdl_text.proofs.Looking.MovesJoin.{moves_one, moves_stayed, moves_then, stayed_looked}
use Rattle.kdl_path.proofs.PathReads.{target_on}
use Rattle.kdl_path.proofs.parse.read_target.Goals as goal

pub returns-then-eat : goal.returns-then-eat
returns-then-eat c = target_on 64 _ _ _ _ c.if-eat.ensures.0 (moves_one c.if-eat.ensures) c.read_property.ensures

pub returns-then-eat-2 : goal.returns-then-eat-2
returns-then-eat-2 c = target_on 35 _ _ _ _ (sym (ap (λ z. z.rest) c.if-eat.ensures.1) ∙ c.if-eat-2.ensures.0) (moves_then (moves_stayed (stayed_looked _ _ c.if-eat.ensures.1)) (moves_one c.if-eat-2.ensures)) c.read_argument.ensures
