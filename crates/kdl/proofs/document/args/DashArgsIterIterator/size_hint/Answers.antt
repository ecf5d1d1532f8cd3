use Rattle.kdl.proofs.Common.{iter_rest}
use Rattle.kdl.proofs.Finding.DocumentLookups.{dashes_within}
use Rattle.kdl.proofs.document.args.DashArgsIterIterator.size_hint.Goals as goal

pub returns-clause-upper : goal.returns-clause-upper
returns-clause-upper c = (tt, dashes_within c.args.self.now (iter_rest c.self.inside.nodes) c.len.result c.self.view_is c.len.ensures.value)
