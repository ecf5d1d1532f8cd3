use Rattle.kdl_diagnostics.proofs.Passing.{reads_looked, reads_more, reads_returned, reads_then, reads_up, returned_few}
use Rattle.kdl_diagnostics.proofs.lexemes.next_lexeme.Goals as goal

pub returns-in_err-number_lexeme-in-Some-clause-reads : goal.returns-in_err-number_lexeme-in-Some-clause-reads
returns-in_err-number_lexeme-in-Some-clause-reads c =
    let b = reads_returned 24 (returned_few 2 _ _ c.begins_number.ensures.stayed) in
    reads_more 9 (reads_up 13 (reads_then (reads_then (reads_looked 24 _ _ c.look.ensures.moved) b) c.number_lexeme.ensures.reads))
