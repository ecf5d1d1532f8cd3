use Rattle.std.proofs.Common.{◌≡◌, ◌++◌, List, ℕ, chars, length}
use denote.Text.{Utf8}
use denote.Shadow.{shadow}
use Rattle.kdl_report.proofs.WindowSteps.{EndSoFar}
use Rattle.kdl_report.proofs.window.end.Given as goal

abbrev pub invariant-loop-room : goal.invariant-loop-room
invariant-loop-room l =
    shadow (Utf8 l.rest) × ((q : List ℕ) × (l.text ≡ l.rest ++ q)) × EndSoFar l.columns (chars l.text) (chars l.rest) l.taken

abbrev pub decreases-loop-room : goal.decreases-loop-room
decreases-loop-room l = length (chars l.rest)
