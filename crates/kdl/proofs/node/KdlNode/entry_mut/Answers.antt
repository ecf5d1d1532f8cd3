use Rattle.kdl.proofs.Common.{ap, MutBor, ghost_name_of, KdlEntry, with_found_entry, roll-out-KdlNode, KdlNode, read_of}
use Rattle.kdl.proofs.Finding.EntriesFound.{entry_sets, entry_sets_at}
use Rattle.kdl.proofs.ReadingBack.{entry_loan_reads, entry_loan_respelled, entry_loan_unformed}
use Rattle.kdl.proofs.PiecesExchanged.{loan_exchanges}
use Rattle.kdl.proofs.node.KdlNode.entry_mut.Goals as goal

pub returns : goal.returns
returns c = (
  ap (λ (n : KdlNode). read_of (ghost_name_of c.entry_mut.result) (with_found_entry c.args.key c.args.self.now) n) (roll-out-KdlNode c.args.self.now),
  record {
    writes_back = tt;
    value = c.entry_mut.ensures.value;
    bytes = loan_exchanges (λ (e : MutBor KdlEntry). e.now) c.args.key c.args.self.now c.entry_mut.result c.entry_mut.ensures.value;
    sets = entry_sets (λ (e : MutBor KdlEntry). e.now) c.args.key c.args.self.now c.entry_mut.result c.entry_mut.ensures.value;
    sets_at = entry_sets_at (λ (e : MutBor KdlEntry). e.now) c.args.key c.args.self.now c.entry_mut.result c.entry_mut.ensures.value;
    reads = entry_loan_reads (λ (e : MutBor KdlEntry). e.now) c.args.key c.args.self.now c.entry_mut.result c.entry_mut.ensures.value;
    reads_unformed = entry_loan_unformed (λ (e : MutBor KdlEntry). e.now) c.args.key c.args.self.now c.entry_mut.result c.entry_mut.ensures.value;
    reads_respelled = entry_loan_respelled (λ (e : MutBor KdlEntry). e.now) c.args.key c.args.self.now c.entry_mut.result c.entry_mut.ensures.value;
  },
)
