use Rattle.std.proofs.Common.{◌≡◌, chars, length}
use denote.Text.{Utf8}
use denote.Shadow.{shadow}
use Rattle.kdl_report.specs.Hints as hints
use Rattle.kdl_report.proofs.hints.after_hashes.Given as goal

-- only `#` come before the rest
abbrev pub invariant-loop-c : goal.invariant-loop-c
invariant-loop-c l = shadow (Utf8 l.rest) × (hints.after_hashes (chars l.text) ≡ hints.after_hashes (chars l.rest))

abbrev pub decreases-loop-c : goal.decreases-loop-c
decreases-loop-c l = length (chars l.rest)
