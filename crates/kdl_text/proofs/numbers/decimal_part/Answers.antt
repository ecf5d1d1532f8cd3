use Rattle.std.proofs.Common.{◌≡◌, true, ◌||◌, refl, arith}
use Rattle.kdl_text.proofs.Looking.SliceCost.{past_then, past_two, past_more, past_stayed}
use Rattle.kdl_text.proofs.Numeric.DecimalReads.{no_exponent_part, no_part, part_trailing, part_read}
use Rattle.kdl_text.proofs.numbers.decimal_part.Goals as goal
use Rattle.kdl_text.proofs.numbers.decimal_part.Goals.{else-not-point-via-then-not-point+else-not-power, else-not-point-via-else-not-point}

pub returns-in-Err : goal.returns-in-Err
returns-in-Err c =
    let f = c.in_ok-point.ensures in
    record { reads = no_exponent_part _ _ _ _ _ f.reads c.in-Err.ensures.reads; past = past_more (omega arith) (past_then f.past c.in-Err.ensures.past) }

pub returns-then-not-power : goal.returns-then-not-power
returns-then-not-power c =
    let f = c.in_ok-point.ensures in
    let e = c.in-Ok.ensures in
    record { reads = no_part _ _ _ _ _ f.reads e.reads (rw (c.if-not-point.true, c.if-not-power.true) refl); past = past_more (omega arith) (past_then f.past e.past) }

pub returns-then-is_end : goal.returns-then-is_end
returns-then-is_end c =
    let f = c.in_ok-point.ensures in
    let e = c.in-Ok.ensures in
    let s = c.is_end.ensures.stayed in
    let some : (c.in_ok-point.point || c.in-Ok.power) ≡ true = elim c.else-not-point.branch [
      | else-not-point-via-then-not-point+else-not-power w ↦ rw (w.if-not-point.true, w.if-not-power.false) refl
      | else-not-point-via-else-not-point w ↦ rw w.if-not-point.false refl
    ] in
    record { reads = part_read _ _ _ _ _ _ f.reads e.reads some c.if-is_end.ensures.result s.rest; past = past_then (past_then f.past e.past) (past_two (past_stayed s)) }

pub returns-else-is_end : goal.returns-else-is_end
returns-else-is_end c =
    let f = c.in_ok-point.ensures in
    let e = c.in-Ok.ensures in
    let s = c.is_end.ensures.stayed in
    record { reads = part_trailing _ _ _ _ _ _ f.reads e.reads c.if-is_end.ensures.result s.rest; past = past_then (past_then f.past e.past) (past_two (past_stayed s)) }
