use Rattle.std.proofs.Common.{rules, ◌≡◌, length}
use Rattle.kdl.specs.Words.{document_says}
use Rattle.kdl_query.specs.Tree.{query_says}
use Rattle.kdl_path.proofs.Selected.{none_selected}
use Rattle.kdl_path.proofs.each.selected.Goals as goal

pub returns-in_default-clause-missing : goal.returns-in_default-clause-missing
returns-in_default-clause-missing c =
    let none : length c.in_ok-turns.turns.items ≡ 0 = search rules in
    none_selected (document_says c.args.document.now) (query_says c.args.query.now) c.in_ok-turns.turns.items c.in_ok-turns.ensures.selected none
