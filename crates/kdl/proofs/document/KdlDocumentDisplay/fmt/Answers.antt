use Rattle.kdl.proofs.Common.{arith, common_steps, encodes-append}
use Rattle.kdl.proofs.Printing.PrintedParts.{document_printed}
use Rattle.kdl.proofs.document.KdlDocumentDisplay.fmt.Goals as goal

pub returns-clause-writes : goal.returns-clause-writes
returns-clause-writes g c = rw (document_printed c.args.self.now 0) (λ plain fine. grind (arith, common_steps, encodes-append))
