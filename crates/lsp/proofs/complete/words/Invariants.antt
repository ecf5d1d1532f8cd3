use Rattle.std.proofs.Common.{length}
use Rattle.lsp.proofs.complete.words.Given as goal

abbrev pub decreases-loop-reader : goal.decreases-loop-reader
decreases-loop-reader l = length l.reader.scanner.cursor.rest
