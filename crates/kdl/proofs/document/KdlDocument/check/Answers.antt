use Rattle.kdl.proofs.Checking.{document_checked}
use Rattle.kdl.proofs.document.KdlDocument.check.Goals as goal

pub returns : goal.returns
returns c = document_checked c.args.text.now c.check.result c.check.ensures.accepted c.check.ensures.refused c.check.ensures.told
