use Rattle.std.proofs.Common.{◌≡◌, chars, drop, length}
use denote.Text.{Utf8}
use denote.Shadow.{shadow}
use Rattle.lsp_text.specs.Positions.{first_line, front}
use Rattle.lsp_text.proofs.offset.from_unit.Given as goal

abbrev pub invariant-loop-c : goal.invariant-loop-c
invariant-loop-c l =
    shadow (Utf8 l.rest)
    × (drop (length (front l.encoding l.left (first_line (chars l.rest)))) (chars l.rest) ≡ drop (length (front l.encoding l.character (first_line (chars l.text)))) (chars l.text))

abbrev pub decreases-loop-c : goal.decreases-loop-c
decreases-loop-c l = length (chars l.rest)
