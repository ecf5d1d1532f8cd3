use Rattle.use_theorems.proofs.Stays.{named_none}
use Rattle.use_theorems.proofs.blocks.exchange_nested.Goals as goal

pub returns-clause-stays : goal.returns-clause-stays
returns-clause-stays c = named_none c.exchange_in_block.result c.args.outer.now c.args.document.now c.in-Some.node.now c.exchange_in_block.new.node c.in-Some.ensures.value c.exchange_in_block.ensures.stays
