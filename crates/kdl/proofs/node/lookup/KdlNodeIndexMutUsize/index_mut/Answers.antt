use Rattle.kdl.proofs.Common.{Some, refl, sym, KdlValue, Index}
use Rattle.kdl.proofs.Finding.EntriesFound.{value_sets_at}
use Rattle.kdl.proofs.node.lookup.KdlNodeIndexMutUsize.index_mut.Goals as goal

pub returns : goal.returns
returns c = (
  (refl, λ w. refl),
  record {
    writes_back = tt;
    value = c.argument_mut.ensures.value;
    sets = value_sets_at (λ (v : KdlValue). v) (Index c.args.index) c.args.self.now (Some c.argument_mut.result.now) (sym c.argument_mut.ensures.value) refl;
  },
)
