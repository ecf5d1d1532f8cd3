use Rattle.std.proofs.Common.{arith}
use Rattle.std.proofs.lemmas.Str.{len_utf8_bounds}
use Rattle.kdl_text.proofs.Looking.MovesJoin.{moves_then, moves_one}
use Rattle.kdl_diagnostics.proofs.Passing.{after_same}
use Rattle.kdl_diagnostics.proofs.lexemes.go_on.Goals as goal

pub chars-preserved : goal.chars-preserved
chars-preserved c =
    let i = c.chars.invariant in
    let took = c.in-Some.ensures.took in
    let more = (len_utf8_bounds c.in-Some.field-0).0 in
    record {
      moves = moves_then i.moves (moves_one took);
      on = omega (arith, i.on, took.1);
      steps = omega (arith, i.on, i.steps, took.1, took.2, more);
      most = omega (arith, i.on, i.steps, c.chars-test.true, c.at.ensures, took.2);
      last = after_same _ _ _ i.moves.piece c.checkpoint-last-in-chars.ensures.rest;
    }
