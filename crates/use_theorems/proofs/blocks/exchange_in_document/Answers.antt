use Rattle.use_theorems.proofs.Stays.{named_none}
use Rattle.use_theorems.proofs.blocks.exchange_in_document.Goals as goal

pub returns-clause-stays : goal.returns-clause-stays
returns-clause-stays c = named_none c.exchange_entry.result c.args.name.now c.args.document.now c.in-Some.node.now c.exchange_entry.new.node c.in-Some.ensures.value c.exchange_entry.ensures.stays
