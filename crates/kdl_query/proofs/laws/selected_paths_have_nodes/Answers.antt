use Rattle.kdl_query.proofs.Firsts.{node_selected}
use Rattle.kdl_query.proofs.laws.selected_paths_have_nodes.Goals as goal

pub returns : goal.returns
returns c = node_selected
