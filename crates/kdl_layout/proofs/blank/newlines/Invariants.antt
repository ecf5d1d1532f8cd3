use Rattle.kdl_layout.proofs.Common.{◌≡◌, ◌+◌, length, chars, from_item, last_of, newlines, Utf8, shadow}
use Rattle.kdl_layout.proofs.blank.newlines.Given as goal

-- what is counted and what is left are all
abbrev pub invariant-chars : goal.invariant-chars
invariant-chars l = shadow (Utf8 l.rest) × (l.count + newlines l.last (chars l.rest) ≡ l.fn.count + newlines l.fn.last (chars l.fn.text)) × (last_of l.last (chars l.rest) ≡ last_of l.fn.last (chars l.fn.text))
    × (from_item (chars l.rest) ≡ from_item (chars l.fn.text))

abbrev pub decreases-chars : goal.decreases-chars
decreases-chars l = length (chars l.rest)
