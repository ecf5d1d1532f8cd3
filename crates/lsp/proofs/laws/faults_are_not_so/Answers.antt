use Rattle.std.proofs.Common.{arith, ◌≡◌, ◌∙◌, sym}
use Rattle.lsp.proofs.Fronts.{notice_a, notice_b}
use Rattle.lsp.proofs.Publishing.{no_fewer, none_published}
use Rattle.lsp.proofs.laws.faults_are_not_so.Goals as goal

pub returns-clause-none : goal.returns-clause-none
returns-clause-none c s uri k known each = none_published s uri k known each

pub returns-clause-other : goal.returns-clause-other
returns-clause-other c e f v w text words m a b = let h : 97 ≡ 98 = sym (notice_a e v text m a) ∙ notice_b f w words m b in absurd (omega (arith, h))

pub returns-clause-fewer : goal.returns-clause-fewer
returns-clause-fewer c e text d ds all = no_fewer e text d ds all
