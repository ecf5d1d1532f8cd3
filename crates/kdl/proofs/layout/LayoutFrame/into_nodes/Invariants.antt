use Rattle.kdl.proofs.Common.{◌≡◌, vec_len, whole}
use Rattle.kdl.proofs.layout.LayoutFrame.into_nodes.Given as goal

abbrev pub invariant-closing : goal.invariant-closing
invariant-closing l = whole l.above.items l.self ≡ whole l.initial.above.items l.initial.self

abbrev pub decreases-closing : goal.decreases-closing
decreases-closing l = vec_len l.above
