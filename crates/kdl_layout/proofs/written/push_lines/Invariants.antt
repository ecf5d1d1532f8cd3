use Rattle.kdl_layout.proofs.Common.{◌≡◌, ◌++◌, take, chars, text_of, lines, items_view}
use Rattle.kdl_layout.proofs.written.push_lines.Given as goal

abbrev pub invariant-loop-item : goal.invariant-loop-item
invariant-loop-item l = text_of l.out ≡ text_of l.initial.out ++ lines (chars l.before) (items_view (take l.item-index l.items))
