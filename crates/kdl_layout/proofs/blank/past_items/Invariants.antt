use Rattle.kdl_layout.proofs.Common.{◌≡◌, drop, chars, past_items, Utf8, shadow, items_view}
use Rattle.kdl_layout.proofs.blank.past_items.Given as goal

-- the rest, with the items that are left, comes to the same
abbrev pub invariant-loop-item : goal.invariant-loop-item
invariant-loop-item l = shadow (Utf8 l.rest) × (past_items l.config.no_comments l.before (chars l.rest) (items_view (drop l.item-index l.items)) ≡ past_items l.config.no_comments l.initial.before (chars l.initial.rest) (items_view l.items))
