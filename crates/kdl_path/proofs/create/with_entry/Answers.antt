use Rattle.std.proofs.Common.{◌∙◌, ap}
use Rattle.kdl.specs.Words.{entry_data, entry_tree}
use Rattle.kdl_path.specs.Edits.{node_with_entry}
use Rattle.kdl_path.proofs.create.with_entry.Goals as goal

pub returns-clause-says : goal.returns-clause-says
returns-clause-says c = c.in_ok-push_entry.ensures.says ∙ ap (node_with_entry (entry_data (entry_tree c.args.entry))) c.in_ok-node.ensures.says

pub returns-clause-reads : goal.returns-clause-reads
returns-clause-reads c = λ r. c.in_ok-push_entry.ensures.reads r _ c.in_ok-node.ensures.reads
