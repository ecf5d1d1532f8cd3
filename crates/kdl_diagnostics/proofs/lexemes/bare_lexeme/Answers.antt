use Rattle.kdl_diagnostics.proofs.LexemeMoves.{lexes_word, past_from}
use Rattle.kdl_diagnostics.proofs.Passing.{reads_costs, reads_then, reads_up, run_fewer}
use Rattle.kdl_diagnostics.proofs.lexemes.bare_lexeme.Goals as goal

pub word-requires : goal.word-requires
word-requires c = past_from c.checkpoint-start.ensures.rest c.checkpoint-start.ensures.part c.bare_string.ensures.moves (run_fewer _ _ _ c.bare_string.ensures.run c.requires)

pub returns : goal.returns
returns c =
    let b = c.bare_string.ensures in
    lexes_word c.checkpoint-start.ensures.rest c.word.ensures.lexeme (reads_then (reads_up 22 (reads_costs b.moves b.costs)) c.word.ensures.reads)
