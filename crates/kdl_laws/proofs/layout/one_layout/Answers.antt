use Rattle.kdl_layout.proofs.Respelling.Unique.{laid_det, laid_node_det}
use Rattle.kdl_laws.proofs.layout.one_layout.Goals as goal

pub returns-clause-document : goal.returns-clause-document
returns-clause-document c = laid_det

pub returns-clause-node : goal.returns-clause-node
returns-clause-node c = laid_node_det
