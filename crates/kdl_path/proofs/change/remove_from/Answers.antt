use Rattle.std.proofs.Common.{rules}
use Rattle.kdl_path.proofs.Changes.{on_ok}
use Rattle.kdl_path.proofs.change.remove_from.Goals as goal

pub returns : goal.returns
returns c = on_ok c.take.result (λ h. record { between = c.begin_next.new.block; laid = search rules; taken = h }) c.take.ensures
