use Rattle.std.proofs.Common.{◌≡◌, ◌+◌, ◌≤◌, chars, drop, length, take}
use denote.Text.{Utf8}
use denote.Shadow.{shadow}
use Rattle.lsp_text.specs.Positions.{index_of_byte, size}
use Rattle.lsp_text.specs.declared.position.Encoding.TheVariants.{Utf8 as Bytes}
use Rattle.lsp_text.specs.Steps.{walked}
use Rattle.lsp_text.proofs.place.walk.Given as goal

abbrev pub invariant-loop-c : goal.invariant-loop-c
invariant-loop-c l =
    let t = chars l.initial.rest in
    let k = index_of_byte l.initial.left t in
    let j = index_of_byte l.left (chars l.rest) in
    shadow (Utf8 l.rest)
    × (walked l.encoding l.position j (chars l.rest) ≡ walked l.encoding l.initial.position k t)
    × (drop j (chars l.rest) ≡ drop k t)
    × (l.left + size Bytes (take k t) ≡ l.initial.left + size Bytes (take j (chars l.rest)))
    × (l.position.line + size Bytes (chars l.rest) ≤ l.initial.position.line + size Bytes t)
    × (l.position.character + size Bytes (chars l.rest) ≤ l.initial.position.character + size Bytes t)

abbrev pub decreases-loop-c : goal.decreases-loop-c
decreases-loop-c l = length (chars l.rest)
