use Rattle.std.proofs.Common.{None}
use Rattle.kdl_text.proofs.Looking.MovesJoin.{stays}
use Rattle.kdl_diagnostics.proofs.Passing.{after_then, passed_here, reads_more, reads_up}
use Rattle.kdl_diagnostics.proofs.StringLoops.{finds_same, finds_then}
use Rattle.kdl_diagnostics.proofs.strings.raw_quotes.Goals as goal

pub returns-then-eat_signs : goal.returns-then-eat_signs
returns-then-eat_signs c =
    let r = reads_more 2 (reads_up 4 c.eat_signs.ensures) in
    record { reads = r; finds = λ s m o. c.earlier.ensures _ _ tt (passed_here c.checkpoint.ensures.rest (after_then _ _ _ m r.moves.piece) (stays c.eat_signs.new.cursor)) }

pub returns : goal.returns
returns c =
    let f = finds_then (finds_same None (reads_up 4 c.eat_signs.ensures)) c.units-found.ensures in
    record { reads = f.reads; finds = λ s m o. c.earlier-2.ensures _ _ (f.finds s m o) (passed_here c.checkpoint-2.ensures.rest (after_then _ _ _ m f.reads.moves.piece) (stays c.units-found.new.cursor)) }
