use Rattle.std.proofs.Common.{arith, ◌≡◌, ◌∙◌, ap, get_or, inl, inr, length, sym}
use Rattle.lsp.proofs.Fronts.{greeting_32, greeting_8}
use Rattle.lsp.proofs.Sending.{none_replies}
use Rattle.lsp.proofs.Steps.{not_ended, not_published}
use Rattle.lsp.proofs.Texts.{empty_is_none}
use Rattle.lsp.proofs.laws.turns_are_not_so.Goals as goal

pub returns-clause-silent : goal.returns-clause-silent
returns-clause-silent c old new message id asks takes = none_replies _ (takes.replied id asks)

pub returns-clause-deaf : goal.returns-clause-deaf
returns-clause-deaf c old new takes = let r = takes.refused empty_is_none in none_replies _ r.2

pub returns-clause-encoding : goal.returns-clause-encoding
returns-clause-encoding c m a b = let h : 56 ≡ 51 = sym (greeting_8 m a) ∙ greeting_32 m b in absurd (omega (arith, h))

pub returns-clause-text : goal.returns-clause-text
returns-clause-text c (inl t) = let h : 98 ≡ 97 = ap (λ b. get_or b 0 0) t.1 in absurd (omega (arith, h))
returns-clause-text c (inr t) = let h : 1 ≡ 0 = ap length t.1 in absurd (omega (arith, h))

pub returns-clause-unpublished : goal.returns-clause-unpublished
returns-clause-unpublished c message sent p = not_published message sent p

pub returns-clause-on : goal.returns-clause-on
returns-clause-on c = not_ended

pub returns-clause-fresh : goal.returns-clause-fresh
returns-clause-fresh c s running new = let h = sym running ∙ new.0 in absurd (cc (h))
