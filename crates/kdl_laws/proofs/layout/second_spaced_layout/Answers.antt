use Rattle.kdl_laws.proofs.TwoLayouts.{spaced_again, spaced_node_again}
use Rattle.kdl_laws.proofs.layout.second_spaced_layout.Goals as goal

pub returns-clause-document : goal.returns-clause-document
returns-clause-document c spelling line compact number s level d x y ok flag bare f g = spaced_again spelling line compact number s level d x y ok flag bare f g

pub returns-clause-node : goal.returns-clause-node
returns-clause-node c spelling line compact number s level n x y ok flag bare f g = spaced_node_again spelling line compact number s level n x y ok flag bare f g
