use Rattle.std.proofs.Common.{◌≡◌, false, sym, ap, ◌∙◌, subst}
use Rattle.kdl_text.specs.Chars.{begins}
use Rattle.kdl_text.proofs.Looking.MovesJoin.{moves_one, moves_two, moves_stayed, moves_then, stayed_looked}
use Rattle.kdl_path.specs.PathText.{target_says}
use Rattle.kdl_path.proofs.PathReads.{end_argument, end_here, end_property, no_end, passed_on}
use Rattle.kdl_path.proofs.parse.read_end.Goals as goal

pub returns-then-eat_two : goal.returns-then-eat_two
returns-then-eat_two c = end_property _ _ _ _ c.if-eat_two.ensures.rest (moves_two c.if-eat_two.ensures) c.read_property.ensures

pub returns-then-eat : goal.returns-then-eat
returns-then-eat c = end_argument _ _ _ _ (sym c.if-eat_two.ensures.1.rest ∙ c.if-eat.ensures.0) (moves_then (moves_stayed c.if-eat_two.ensures.1) (moves_one c.if-eat.ensures)) c.read_argument.ensures

pub returns-in_err-expect_end : goal.returns-in_err-expect_end
returns-in_err-expect_end c =
    let m = moves_then (moves_stayed c.if-eat_two.ensures.1) (moves_stayed (stayed_looked _ _ c.if-eat.ensures.1)) in
    passed_on target_says _ _ _ _ c.from_residual.ensures.1 c.in_err-expect_end.ensures m (moves_then m c.expect_end.ensures.moves)
    (no_end _ _ (ap (λ z. z.rest) c.if-eat.ensures.1 ∙ c.if-eat_two.ensures.1.rest) c.if-eat_two.ensures.0 (subst (λ z. begins 35 z ≡ false) c.if-eat_two.ensures.1.rest c.if-eat.ensures.0))

pub returns : goal.returns
returns c =
    let m = moves_then (moves_stayed c.if-eat_two.ensures.1) (moves_stayed (stayed_looked _ _ c.if-eat.ensures.1)) in
    record { returns = end_here _ _ _ (ap (λ z. z.rest) c.if-eat.ensures.1 ∙ c.if-eat_two.ensures.1.rest) c.in_ok-expect_end.ensures.returns; moves = moves_then m c.expect_end.ensures.moves }
