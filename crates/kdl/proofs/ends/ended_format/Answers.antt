use Rattle.kdl.proofs.Common.{is_some, block_if}
use Rattle.kdl.proofs.Putting.PutReads.{format_ok}
use Rattle.kdl.proofs.ends.ended_format.Goals as goal

pub returns-in-Some-clause-reads : goal.returns-in-Some-clause-reads
returns-in-Some-clause-reads c = format_ok c.ended.result c.in-Some.format c.args.format.now c.args.rest (block_if (is_some c.args.children.now)) c.in-Some.is c.ended.ensures.reads

pub returns-in-Some-clause-exact : goal.returns-in-Some-clause-exact
returns-in-Some-clause-exact c = rw c.in-Some.is c.ended.ensures.exact
