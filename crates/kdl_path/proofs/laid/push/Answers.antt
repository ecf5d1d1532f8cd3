use Rattle.std.proofs.Common.{◌∙◌}
use Rattle.kdl.specs.Words.{node_says}
use Rattle.kdl_path.proofs.Inserts.{document_said_last}
use Rattle.kdl_path.proofs.laid.push.Goals as goal

pub returns-in-Ok-clause-says : goal.returns-in-Ok-clause-says
returns-in-Ok-clause-says c = c.in-Ok.ensures.data ∙ document_said_last c.args.document.now (node_says c.args.node)
