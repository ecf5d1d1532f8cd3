use Rattle.kdl_parts.proofs.Common.{iter_rest}
use Rattle.kdl_parts.proofs.EntryLookups.{arguments_within}
use Rattle.kdl_parts.proofs.iter.ArgsIterIterator.size_hint.Goals as goal

pub returns-clause-upper : goal.returns-clause-upper
returns-clause-upper c = (tt, arguments_within c.args.self.now (iter_rest c.self.inside.entries) c.len.result c.self.view_is c.len.ensures.value)
