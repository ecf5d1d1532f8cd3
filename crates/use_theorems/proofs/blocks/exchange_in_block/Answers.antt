use Rattle.std.proofs.Common.{◌≡◌, Some}
use Rattle.kdl.specs.Words.{block_of}
use Rattle.use_theorems.proofs.Stays.{block_none}
use Rattle.use_theorems.proofs.blocks.exchange_in_block.Goals as goal

pub returns-clause-stays : goal.returns-clause-stays
returns-clause-stays c =
    let had : Some c.in-Some.block ≡ block_of c.args.node.now = cc (c.in-Some.is, c.children_mut.ensures.value) in
    block_none c.exchange_in_document.result c.args.node.now c.in-Some.block c.exchange_in_document.new.document had c.exchange_in_document.ensures.stays
