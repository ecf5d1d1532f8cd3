use Rattle.kdl_layout.proofs.Common.{◌≡◌, ◌++◌, take, text_of, tail, items_view}
use Rattle.kdl_layout.proofs.written.push_tail.Given as goal

abbrev pub invariant-loop-item : goal.invariant-loop-item
invariant-loop-item l = text_of l.out ≡ text_of l.initial.out ++ tail (items_view (take l.item-index l.items))
