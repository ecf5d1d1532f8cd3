use Rattle.std.proofs.Common.{sym, ◌∙◌, ◌++◌, ap}
use Rattle.kdl_diagnostics.proofs.LexemeMoves.{lexes}
use Rattle.kdl_diagnostics.proofs.Passing.{newline_first, ran_fewer, reads_costs, reads_more, reads_ran, reads_up, starts_first, stepped_first}
use Rattle.kdl_diagnostics.proofs.lexemes.plain_lexeme.Goals as goal

pub returns-then-is_space : goal.returns-then-is_space
returns-then-is_space c = lexes c.checkpoint-start.ensures.rest c.plain.ensures (reads_more 11 (reads_up 23 (reads_ran c.skip.ensures))) (ran_fewer _ _ _ c.skip.ensures (starts_first _ _ _ c.requires c.if-is_space.ensures))

pub returns-then-is_newline_char : goal.returns-then-is_newline_char
returns-then-is_newline_char c =
    let n = c.newline.ensures in
    lexes c.checkpoint-start.ensures.rest c.plain-then-is_newline_char.ensures (reads_more 11 (reads_up 22 (reads_costs n.moves n.costs))) (newline_first _ _ _ _ n.reads c.requires c.if-is_newline_char.ensures)

pub returns-in-Some : goal.returns-in-Some
returns-in-Some c =
    let s = stepped_first _ _ _ c.requires c.step-in-Some.ensures in
    lexes c.checkpoint-start.ensures.rest c.plain-in-Some.ensures (reads_more 12 (reads_up 24 s.reads)) s.went

pub new-requires : goal.new-requires
new-requires c =
    let s = stepped_first _ _ _ c.requires c.step.ensures in
    record { place = (s.reads.moves.piece.0, c.checkpoint-start.ensures.rest ∙ s.reads.moves.piece.1 ∙ ap (λ z. s.reads.moves.piece.0 ++ z) (sym c.checkpoint.ensures.rest)); comment = tt }

pub returns-then-c-eq40 : goal.returns-then-c-eq40
returns-then-c-eq40 c =
    let s = stepped_first _ _ _ c.requires c.step.ensures in
    lexes c.checkpoint-start.ensures.rest c.new.ensures (reads_more 12 (reads_up 24 s.reads)) s.went
