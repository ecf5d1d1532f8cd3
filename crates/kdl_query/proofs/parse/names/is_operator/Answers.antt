use Rattle.std.proofs.Common.{inl, inr, refl, IsTrue}
use Rattle.std.specs.Str.{chars}
use Rattle.kdl_query.specs.QueryText.{IsOperatorWord}
use Rattle.kdl_query.proofs.parse.names.is_operator.Goals as goal
use Rattle.kdl_query.proofs.parse.names.is_operator.Goals.{then-is-via-then-is, then-is-via-else-is+then-is-2, then-is-3-via-then-is-3, then-is-3-via-else-is-3+then-is-4}

pub returns-then-is : goal.returns-then-is
unfolding chars
returns-then-is c = elim c.then-is.branch [
  | then-is-via-then-is w ↦ (λ _. inl (c.is.ensures.0 w.if-is.true), λ _. refl)
  | then-is-via-else-is+then-is-2 w ↦ (λ _. inr (inl (w.is-else-is.ensures.0 w.if-is-2.true)), λ _. refl)
]

pub returns-then-is-3 : goal.returns-then-is-3
unfolding chars
returns-then-is-3 c = elim c.then-is-3.branch [
  | then-is-3-via-then-is-3 w ↦ (λ _. inr (inr (inl (c.is-2.ensures.0 w.if-is-3.true))), λ _. refl)
  | then-is-3-via-else-is-3+then-is-4 w ↦ (λ _. inr (inr (inr (inl (w.is-else-is-3.ensures.0 w.if-is-4.true)))), λ _. refl)
]

pub returns : goal.returns
unfolding chars
returns c = (λ h. inr (inr (inr (inr (c.is-3.ensures.0 h)))), go)
  where
    go : IsOperatorWord c.args.word.now → IsTrue c.is-3.result
    go (inl e) = let k = c.is.ensures.1 e in let m = c.if-is.false in absurd cc
    go (inr (inl e)) = let k = c.is-else-is.ensures.1 e in let m = c.if-is-2.false in absurd cc
    go (inr (inr (inl e))) = let k = c.is-2.ensures.1 e in let m = c.if-is-3.false in absurd cc
    go (inr (inr (inr (inl e)))) = let k = c.is-else-is-3.ensures.1 e in let m = c.if-is-4.false in absurd cc
    go (inr (inr (inr (inr e)))) = c.is-3.ensures.1 e
