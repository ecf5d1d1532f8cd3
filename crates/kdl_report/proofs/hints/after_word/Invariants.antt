use Rattle.std.proofs.Common.{◌≡◌, ◌++◌, chars, length}
use denote.Text.{Utf8}
use denote.Shadow.{shadow}
use Rattle.kdl_text.specs.Chars.{Text}
use Rattle.kdl_report.specs.Hints.{word}
use Rattle.kdl_report.proofs.hints.after_word.Given as goal

-- what comes before the rest begins the word
abbrev pub invariant-loop-c : goal.invariant-loop-c
invariant-loop-c l = shadow (Utf8 l.rest) × ((p : Text) × (chars l.text ≡ p ++ chars l.rest) × (word (chars l.text) ≡ p ++ word (chars l.rest)))

abbrev pub decreases-loop-c : goal.decreases-loop-c
decreases-loop-c l = length (chars l.rest)
