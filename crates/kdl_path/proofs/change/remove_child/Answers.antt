use Rattle.std.proofs.Common.{rules, ◌≡◌, Some, refl}
use Rattle.kdl.specs.Words.{block_of}
use Rattle.kdl_path.proofs.Changes.{on_ok}
use Rattle.kdl_path.proofs.change.remove_child.Goals as goal

pub returns-in-Some : goal.returns-in-Some
returns-in-Some c =
    let own : block_of c.args.node.now ≡ Some c.in-Some.block = search rules in
    on_ok c.remove_from.result (λ h. record { old = c.in-Some.block; new = c.remove_from.new.block; block = own; taken = h; rest = refl }) c.remove_from.ensures
