use Rattle.std.proofs.Common.{length}
use Rattle.lsp.proofs.scan.is_key.Given as goal

abbrev pub decreases-loop-token : goal.decreases-loop-token
decreases-loop-token l = length l.cursor.rest
