use Rattle.std.proofs.Common.{refl}
use Rattle.kdl_query.proofs.Keys.{index_kept, index_lost}
use Rattle.kdl_query.proofs.parse.tests.index_here.Goals as goal

pub returns-in-Ok : goal.returns-in-Ok
returns-in-Ok c =
    rw c.ok_or.ensures.value (index_kept _ _ _ c.in-Ok.number c.index_of.result _ (record { rest = c.if-not-begins_index.ensures.rest; moves = c.if-not-begins_index.ensures.moves }) (c.if-not-begins_index.ensures.result.0 refl) c.in-Ok.ensures.reads c.in-Ok.ensures.moves c.index_of.ensures)

pub returns-in-Err-Fault : goal.returns-in-Err-Fault
returns-in-Err-Fault c =
    index_lost _ _ _ _ (record { rest = c.if-not-begins_index.ensures.rest; moves = c.if-not-begins_index.ensures.moves }) (rw c.in-Err-Fault.field-0-is at c.in-Err-Fault.ensures.reads) c.in-Err-Fault.ensures.moves
