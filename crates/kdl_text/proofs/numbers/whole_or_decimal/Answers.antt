use Rattle.std.proofs.Common.{rules, arith}
use Rattle.std.proofs.Math.Facts.{to_z-of_z}
use Rattle.std.specs.Prelude.{Some, None}
use mir.Syntax.{w128}
use mir.Val.{SFits}
use Rattle.kdl_text.proofs.Looking.SliceCost.{past_then, past_two, past_more, past_stayed}
use Rattle.kdl_text.proofs.Numeric.DecimalReads.{front_whole, front_other, front_no_part, front_part, not_ten}
use Rattle.kdl_text.proofs.numbers.whole_or_decimal.Goals as goal

pub returns-in-Some : goal.returns-in-Some
returns-in-Some c =
    let f = c.in_ok-front.ensures in
    let s = c.is_end.ensures.stayed in
    let fits : SFits w128 c.in-Some.n = search rules in
    record { reads = rw (to_z-of_z fits) (front_whole _ _ _ f.reads _ (Some c.in-Some.n) s.rest c.if-is_end.ensures.result c.in-Some.ensures); past = past_more (omega arith) (past_then f.past (past_two (past_stayed s))) }

pub returns-in-None : goal.returns-in-None
returns-in-None c =
    let f = c.in_ok-front.ensures in
    let s = c.is_end.ensures.stayed in
    record { reads = front_whole _ _ _ f.reads _ None s.rest c.if-is_end.ensures.result c.in-None.ensures; past = past_more (omega arith) (past_then f.past (past_two (past_stayed s))) }

pub returns-in_default : goal.returns-in_default
returns-in_default c =
    let f = c.in_ok-front.ensures in
    let s = c.is_end.ensures.stayed in
    record { reads = front_other _ _ _ f.reads _ s.rest (not_ten _ c.in_default.not-Decimal) c.if-is_end.ensures.result; past = past_more (omega arith) (past_then f.past (past_two (past_stayed s))) }

pub returns-in-Err : goal.returns-in-Err
returns-in-Err c =
    let f = c.in_ok-front.ensures in
    let s = c.is_end.ensures.stayed in
    record { reads = front_no_part _ _ _ f.reads _ _ _ s.rest c.in-Decimal.is c.if-is_end.ensures.result c.in-Err.ensures.reads; past = past_then (past_then f.past (past_two (past_stayed s))) c.in-Err.ensures.past }

pub returns-in-Ok : goal.returns-in-Ok
returns-in-Ok c =
    let f = c.in_ok-front.ensures in
    let s = c.is_end.ensures.stayed in
    record { reads = λ p e. front_part _ _ _ f.reads _ _ s.rest c.in-Decimal.is c.in-Ok.ensures.reads p e; past = past_then (past_then f.past (past_two (past_stayed s))) c.in-Ok.ensures.past }
