use Rattle.kdl_layout.proofs.Common.{◌≡◌, ◌++◌, drop, false, chars, text_of, past_items, spaced_lines, Utf8, shadow, items_view}
use Rattle.kdl_layout.proofs.blank.push_spaced_lines.Given as goal

-- what is written and what the rest has, with the items that are left, come to the same
abbrev pub invariant-loop-item : goal.invariant-loop-item
invariant-loop-item l = shadow (Utf8 l.rest) × (past_items false l.before (chars l.rest) (items_view (drop l.item-index l.items)) ≡ past_items false l.initial.before (chars l.initial.rest) (items_view l.items))
    × (text_of l.out ++ spaced_lines l.number (chars l.indentation) l.before (chars l.rest) (items_view (drop l.item-index l.items)) ≡ text_of l.initial.out ++ spaced_lines l.number (chars l.indentation) l.initial.before (chars l.initial.rest) (items_view l.items))
