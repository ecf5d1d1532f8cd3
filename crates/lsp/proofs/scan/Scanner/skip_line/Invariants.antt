use Rattle.std.proofs.Common.{◌≤◌, length}
use Rattle.lsp.proofs.scan.Scanner.skip_line.Given as goal

abbrev pub invariant-loop-c : goal.invariant-loop-c
invariant-loop-c l = length l.self.cursor.rest ≤ length l.initial.self.cursor.rest

abbrev pub decreases-loop-c : goal.decreases-loop-c
decreases-loop-c l = length l.self.cursor.rest
