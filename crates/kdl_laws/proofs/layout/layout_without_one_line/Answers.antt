use Rattle.kdl_laws.proofs.TwoLayouts.{lined_document, lined_node}
use Rattle.kdl_laws.proofs.layout.layout_without_one_line.Goals as goal

pub returns-clause-document : goal.returns-clause-document
returns-clause-document c spelling compact number s level d x = lined_document spelling compact number s level d x

pub returns-clause-node : goal.returns-clause-node
returns-clause-node c spelling compact number s level n x = lined_node spelling compact number s level n x
