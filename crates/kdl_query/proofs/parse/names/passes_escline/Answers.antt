use Rattle.std.proofs.Common.{◌∙◌, ap, not}
use Rattle.kdl_text.proofs.Looking.MovesJoin.{moves_one, moves_stayed, moves_then, stayed_looked}
use Rattle.kdl_text.proofs.Spacing.SpaceReads.{ate_here}
use Rattle.kdl_query.proofs.Selecting.{end_there, more_there}
use Rattle.kdl_query.proofs.Spacing.{escline_end, escline_here}
use Rattle.kdl_query.proofs.parse.names.passes_escline.Goals as goal

pub returns-then-newline-clause-reads : goal.returns-then-newline-clause-reads
returns-then-newline-clause-reads c =
    let t = ate_here 92 _ _ _ c.requires c.eat.ensures in
    rw t.0 (rw c.if-newline.true (escline_here _ _ _ c.skip_ws.ensures.reads c.if-newline.ensures.reads))

pub returns-then-newline-clause-moves : goal.returns-then-newline-clause-moves
returns-then-newline-clause-moves c = moves_then (moves_one (ate_here 92 _ _ _ c.requires c.eat.ensures)) (moves_then c.skip_ws.ensures.moves c.newline.ensures.moves)

pub returns-else-newline-clause-reads : goal.returns-else-newline-clause-reads
returns-else-newline-clause-reads c =
    let t = ate_here 92 _ _ _ c.requires c.eat.ensures in
    let stayed = c.if-newline.ensures.reads.0.rest in
    rw t.0 (escline_end c.is_none.result _ _ _ c.skip_ws.ensures.reads c.if-newline.ensures.reads.1
    (λ h. end_there _ _ _ stayed c.look.ensures.result (c.is_none.ensures ∙ ap not h)) (λ h. more_there _ _ _ stayed c.look.ensures.result (c.is_none.ensures ∙ ap not h)) (ap (λ z. z.rest) c.look.ensures.moved ∙ stayed))

pub returns-else-newline-clause-moves : goal.returns-else-newline-clause-moves
returns-else-newline-clause-moves c =
    moves_then (moves_one (ate_here 92 _ _ _ c.requires c.eat.ensures)) (moves_then c.skip_ws.ensures.moves (moves_then c.newline.ensures.moves (moves_stayed (stayed_looked _ _ c.look.ensures.moved))))
