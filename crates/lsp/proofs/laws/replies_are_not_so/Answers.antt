use Rattle.std.proofs.Common.{arith, ◌≡◌, ◌∙◌, ap, get_or, sym}
use Rattle.lsp.proofs.Fronts.{notice_byte, reply_a, reply_b, reply_byte, reply_uncut}
use Rattle.lsp.proofs.Sending.{none_logs, none_replies, not_twice}
use Rattle.lsp.proofs.laws.replies_are_not_so.Goals as goal

pub returns-clause-empty : goal.returns-clause-empty
returns-clause-empty c id m e r = let h : 0 ≡ 105 = sym (ap (λ b. get_or b 18 0) e) ∙ reply_byte id m r in absurd (omega (arith, h))

pub returns-clause-cut : goal.returns-clause-cut
returns-clause-cut c = reply_uncut

pub returns-clause-other : goal.returns-clause-other
returns-clause-other c m a b = let h : 97 ≡ 98 = sym (reply_a m a) ∙ reply_b m b in absurd (omega (arith, h))

pub returns-clause-notice : goal.returns-clause-notice
returns-clause-notice c id m n r = let h : 109 ≡ 105 = sym (notice_byte m n) ∙ reply_byte id m r in absurd (omega (arith, h))

pub returns-clause-unsent : goal.returns-clause-unsent
returns-clause-unsent c id = none_replies _

pub returns-clause-twice : goal.returns-clause-twice
returns-clause-twice c id a b m n r s =
    not_twice _ m n (λ x. returns-clause-notice c a m x r) (λ x. returns-clause-notice c b n x s)

pub returns-clause-unlogged : goal.returns-clause-unlogged
returns-clause-unlogged c = none_logs
