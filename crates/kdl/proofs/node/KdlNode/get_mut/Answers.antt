use Rattle.kdl.proofs.Common.{ap, MutBor, ghost_name_of, KdlValue, with_found_value, roll-out-KdlNode, KdlNode, read_of}
use Rattle.kdl.proofs.Finding.EntriesFound.{value_sets, value_sets_at}
use Rattle.kdl.proofs.node.KdlNode.get_mut.Goals as goal

pub returns : goal.returns
returns c = (
  ap (λ (n : KdlNode). read_of (ghost_name_of c.value_mut.result) (with_found_value c.args.key c.args.self.now) n) (roll-out-KdlNode c.args.self.now),
  record {
    writes_back = tt;
    value = c.value_mut.ensures.value;
    sets = value_sets (λ (v : MutBor KdlValue). v.now) c.args.key c.args.self.now c.value_mut.result c.value_mut.ensures.value;
    sets_at = value_sets_at (λ (v : MutBor KdlValue). v.now) c.args.key c.args.self.now c.value_mut.result c.value_mut.ensures.value;
  },
)
