use Rattle.std.proofs.Common.{◌≡◌, drop}
use Rattle.lsp_text.specs.Positions.{lines_before}
use Rattle.lsp_text.proofs.offset.ends_in_block.Given as goal

abbrev pub invariant-loop-i : goal.invariant-loop-i
invariant-loop-i l = l.count ≡ lines_before l.i (drop l.start l.bytes)
