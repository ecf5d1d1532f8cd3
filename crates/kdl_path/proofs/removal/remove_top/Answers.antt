use Rattle.std.proofs.Common.{rules, ◌≤◌, length}
use Rattle.kdl.specs.Words.{nodes_of}
use Rattle.kdl_path.proofs.Removed.{document_past}
use Rattle.kdl_path.proofs.removal.remove_top.Goals as goal

pub returns-else-index-nodes-clause-says : goal.returns-else-index-nodes-clause-says
returns-else-index-nodes-clause-says c =
    let past : length (nodes_of c.args.document) ≤ c.args.index = search rules in
    document_past c.args.document c.args.index past
