use Rattle.std.proofs.Common.{ap, arith, sym, ◌∙◌, ◌++◌}
use Rattle.kdl_text.specs.Spans.{bytes}
use Rattle.kdl_text.proofs.Looking.MovesJoin.{moves_then, fewer_bytes, bytes-append}
use Rattle.kdl_text.proofs.Looking.Returns.{moves_returned}
use Rattle.kdl_diagnostics.proofs.LexemeMoves.{past_from, signs_fewer}
use Rattle.kdl_diagnostics.proofs.Passing.{after_same, ended, since_here, reads_ran}
use Rattle.kdl_diagnostics.proofs.lexemes.sign_lexeme.Goals as goal

pub returns-then-eq-clause-reads : goal.returns-then-eq-clause-reads
returns-then-eq-clause-reads c =
    let t = ended _ _ _ _ c.skip.ensures c.look.ensures.moved in
    let s = c.string_lexeme.ensures.reads in
    record { moves = moves_then t.moves s.moves; most = omega (arith, t.most, s.most, ap bytes c.checkpoint-start.ensures.rest, fewer_bytes t.moves, fewer_bytes s.moves) }

pub up_to-text-requires : goal.up_to-text-requires
up_to-text-requires c =
    let m = moves_then (ended _ _ _ _ c.skip.ensures c.look.ensures.moved).moves (reads_ran c.skip-2.ensures).moves in
    let x = since_here {place = c.checkpoint-start.result} c.checkpoint-start.ensures.rest c.checkpoint-start.ensures.part m in
    after_same _ _ _ x.before c.checkpoint.ensures.rest

pub word-requires : goal.word-requires
word-requires c =
    let t = ended _ _ _ _ c.skip.ensures c.look.ensures.moved in
    let r = reads_ran c.skip-2.ensures in
    let f = c.keyword_fault-fault.ensures in
    let few = signs_fewer _ _ _ c.requires c.skip.ensures c.look.ensures.moved (λ e. let i = rw (c.look.ensures.result ∙ e) at c.if-eq.ensures in cc) in
    past_from c.checkpoint-start.ensures.rest c.checkpoint-start.ensures.part (moves_then t.moves (moves_then r.moves (moves_returned f))) (omega (arith, few, fewer_bytes r.moves, ap bytes f.rest))

pub returns-clause-reads : goal.returns-clause-reads
returns-clause-reads c =
    let t = ended _ _ _ _ c.skip.ensures c.look.ensures.moved in
    let r = reads_ran c.skip-2.ensures in
    let text = sym c.checkpoint-start.ensures.rest ∙ c.up_to-text.ensures ∙ ap (λ z. c.up_to-text.result ++ z) c.checkpoint.ensures.rest in
    let f = c.keyword_fault-fault.ensures in
    let w = c.word.ensures.reads in
    record {
      moves = moves_then t.moves (moves_then r.moves (moves_then (moves_returned f) w.moves));
      most = omega (arith, t.most, r.most, fewer_bytes t.moves, fewer_bytes r.moves, ap bytes text, bytes-append c.up_to-text.result c.skip-2.new.self.rest, ap bytes f.rest, f.most, w.most, fewer_bytes w.moves);
    }
