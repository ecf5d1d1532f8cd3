use Rattle.std.proofs.Common.{◌++◌, ap, sym, ◌∙◌, arith}
use Rattle.kdl_text.specs.Spans.{bytes}
use Rattle.kdl_text.proofs.Looking.MovesJoin.{moves_then, fewer_bytes, bytes-append}
use Rattle.kdl_text.proofs.Looking.Parts.{part_front, part_moved}
use Rattle.kdl_text.proofs.Looking.Returns.{moves_returned}
use Rattle.kdl_diagnostics.proofs.LexemeMoves.{past_from}
use Rattle.kdl_diagnostics.proofs.Passing.{after_same, ran_fewer, since_here, reads_ran}
use Rattle.kdl_diagnostics.proofs.lexemes.number_lexeme.Goals as goal

pub up_to-number-requires : goal.up_to-number-requires
up_to-number-requires c =
    let x = since_here {place = c.checkpoint-start.result} c.checkpoint-start.ensures.rest c.checkpoint-start.ensures.part (reads_ran c.skip.ensures).moves in
    after_same _ _ _ x.before c.checkpoint.ensures.rest

pub number_fault-requires : goal.number_fault-requires
number_fault-requires c = part_moved (part_front _ _ _ _ c.checkpoint-start.ensures.part c.up_to-number.ensures) (reads_ran c.skip.ensures).moves

pub word-requires : goal.word-requires
word-requires c =
    past_from c.checkpoint-start.ensures.rest c.checkpoint-start.ensures.part (moves_then (reads_ran c.skip.ensures).moves (moves_returned c.number_fault.ensures)) (omega (arith, ran_fewer _ _ _ c.skip.ensures c.requires, ap bytes c.number_fault.ensures.rest))

pub returns-in_err-fault-clause-reads : goal.returns-in_err-fault-clause-reads
returns-in_err-fault-clause-reads c =
    let r = reads_ran c.skip.ensures in
    let number = sym c.checkpoint-start.ensures.rest ∙ c.up_to-number.ensures ∙ ap (λ z. c.up_to-number.result ++ z) c.checkpoint.ensures.rest in
    let fault = c.number_fault.ensures in
    record { moves = moves_then r.moves (moves_returned fault); most = omega (arith, r.most, fewer_bytes r.moves, ap bytes number, bytes-append c.up_to-number.result c.skip.new.self.rest, ap bytes fault.rest, fault.most) }

pub returns-clause-reads : goal.returns-clause-reads
returns-clause-reads c =
    let r = reads_ran c.skip.ensures in
    let number = sym c.checkpoint-start.ensures.rest ∙ c.up_to-number.ensures ∙ ap (λ z. c.up_to-number.result ++ z) c.checkpoint.ensures.rest in
    let fault = c.number_fault.ensures in
    let w = c.word.ensures.reads in
    record { moves = moves_then r.moves (moves_then (moves_returned fault) w.moves); most = omega (arith, r.most, fewer_bytes r.moves, ap bytes number, bytes-append c.up_to-number.result c.skip.new.self.rest, ap bytes fault.rest, fault.most, w.most) }
