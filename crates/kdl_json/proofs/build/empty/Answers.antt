-- A document without nodes.
use Rattle.std.proofs.Common.{ap}
use Rattle.kdl_grammar.specs.Tree.{document_data}
use Rattle.kdl_json.proofs.Plain.{plain_empty}
use Rattle.kdl_json.proofs.build.empty.Goals as goal

pub returns-clause-plain : goal.returns-clause-plain
returns-clause-plain c = plain_empty _ c.new.ensures.made

pub returns-clause-data : goal.returns-clause-data
returns-clause-data c = ap document_data c.new.ensures.made
