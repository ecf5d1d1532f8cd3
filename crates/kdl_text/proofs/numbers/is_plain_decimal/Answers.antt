use Rattle.std.proofs.Common.{ap}
use Rattle.kdl_text.proofs.Numeric.DecimalReads.{plain_none, plain_integer, plain_rest, plain_whole, at_end}
use Rattle.kdl_text.proofs.numbers.is_plain_decimal.Goals as goal

pub returns-in-Err : goal.returns-in-Err
returns-in-Err c = plain_none _ _ (ap (λ h. h.rest) c.new-cursor.ensures) c.in-Err.ensures.reads.none

pub returns-in-Ok-Some : goal.returns-in-Ok-Some
returns-in-Ok-Some c = plain_integer _ _ (ap (λ h. h.rest) c.new-cursor.ensures) _ _ (rw c.in-Ok-Some.field-0-is at c.in-Ok-Some.ensures).reads

pub returns-then-is_none : goal.returns-then-is_none
returns-then-is_none c =
    let w = rw c.in-Ok-None.field-0-is at c.in-Ok-None.ensures in
    plain_whole _ _ (ap (λ h. h.rest) c.new-cursor.ensures) _ w.past.moves.piece w.reads _ ((at_end _ _ _ c.look.ensures.result c.is_none.ensures).0 c.if-is_none.true) c.has_no_underscore.ensures

pub returns-else-is_none : goal.returns-else-is_none
returns-else-is_none c =
    let w = rw c.in-Ok-None.field-0-is at c.in-Ok-None.ensures in
    plain_rest _ _ (ap (λ h. h.rest) c.new-cursor.ensures) _ w.past.moves.piece w.reads _ c.if-is_none.false (at_end _ _ _ c.look.ensures.result c.is_none.ensures)
