use Rattle.std.proofs.Common.{◌≡◌, Some, rules, string_bytes}
use Rattle.kdl.specs.Words.{key_name}
use Rattle.use_theorems.proofs.Removed.{removed_first}
use Rattle.use_theorems.proofs.finds.remove_named.Goals as goal

pub returns-clause-first : goal.returns-clause-first
returns-clause-first c =
    let named : key_name c.from.result ≡ Some (string_bytes c.args.name) = search rules in
    removed_first c.from.result (string_bytes c.args.name) c.args.node.now c.remove.result named c.remove.ensures.value
