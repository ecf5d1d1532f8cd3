use Rattle.kdl_layout.proofs.Common.{◌≡◌, drop, length, chars, Utf8, shadow}
use Rattle.kdl_layout.proofs.blank.after_chars.Given as goal

-- as many characters of the text are passed as of the other one
abbrev pub invariant-chars : goal.invariant-chars
invariant-chars l = shadow (Utf8 l.rest) × shadow (Utf8 l.left) × (drop (length (chars l.left)) (chars l.rest) ≡ drop (length (chars l.other)) (chars l.text))

abbrev pub decreases-chars : goal.decreases-chars
decreases-chars l = length (chars l.left)
