use Rattle.kdl_path.proofs.Ends.{a_space, a_tab}
use Rattle.kdl_path.proofs.laid.space.Goals as goal

pub returns-then-is_tab : goal.returns-then-is_tab
returns-then-is_tab c = a_tab

pub returns-else-is_tab : goal.returns-else-is_tab
returns-else-is_tab c = a_space
