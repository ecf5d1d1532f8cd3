use Rattle.std.proofs.Common.{[], sym, arith}
use Rattle.kdl_diagnostics.proofs.FrontEnds.{on_ok}
use Rattle.kdl_diagnostics.proofs.NotedSpans.{lies_part}
use Rattle.kdl_diagnostics.proofs.ReaderCost.{read_again, read_once, read_twice}
use Rattle.kdl_diagnostics.proofs.reader.Reader.find.Goals as goal

pub returns-in_err-read-clause-goes : goal.returns-in_err-read-clause-goes
returns-in_err-read-clause-goes c text x = read_once text _ _ x c.read.ensures.goes

pub returns-then-is_empty-clause-goes : goal.returns-then-is_empty-clause-goes
returns-then-is_empty-clause-goes c text x = read_once text _ _ x c.read.ensures.goes

pub returns-clause-goes : goal.returns-clause-goes
returns-clause-goes c text x = read_twice text _ _ _ x c.read.ensures.goes (read_again _ _ c.go_to.ensures c.settle_all.ensures.reads c.settle_all.ensures.keeps)

pub go_to-requires : goal.go_to-requires
go_to-requires c = let (text, x) = c.requires in let y = c.read.ensures.goes.keeps text x tt in lies_part text _ _ y.here.same ([], sym y.notes.whole)

pub returns-clause-noted : goal.returns-clause-noted
returns-clause-noted c = on_ok c.settle_all.result (λ s. omega (arith, c.in_ok-read.ensures.noted s, c.settle_all.ensures.keeps.grows))
