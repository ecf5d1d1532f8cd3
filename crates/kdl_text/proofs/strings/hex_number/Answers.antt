use Rattle.std.proofs.Common.{arith}
use Rattle.kdl_text.proofs.Quoted.HexLoop.{digits_end, digits_none, digits_found, digits_unfound, digits_other, digits_long, digits_past, digits_room, digits_turn}
use Rattle.kdl_text.proofs.strings.hex_number.Goals as goal

pub returns-in_default : goal.returns-in_default
returns-in_default c =
    let k = digits_end _ _ _ _ _ c.digits.invariant c.in_default.ensures.took in
    record { found = tt; none = k.none; past = k.past }

pub returns-then-count-eq0 : goal.returns-then-count-eq0
returns-then-count-eq0 c =
    let k = digits_none _ _ _ _ _ c.digits.invariant _ c.in-Some.ensures.took c.if-c-eq125.true c.if-count-eq0.true in
    record { found = tt; none = k.none; past = k.past }

pub returns-then-c-eq125 : goal.returns-then-c-eq125
returns-then-c-eq125 c =
    let took = c.in-Some.ensures.took in
    record {
      found = digits_found _ _ _ _ _ c.digits.invariant _ took _ c.if-c-eq125.true c.if-count-eq0.false c.from_u32.ensures.value;
      none = digits_unfound _ _ _ _ _ c.digits.invariant _ took _ c.if-c-eq125.true c.from_u32.ensures.value;
      past = digits_past _ _ _ _ _ c.digits.invariant _ took;
    }

pub returns-in_default-to_digit : goal.returns-in_default-to_digit
returns-in_default-to_digit c =
    let k = digits_other _ _ _ _ _ c.digits.invariant _ c.in-Some.ensures.took c.if-c-eq125.false c.in_default-to_digit.ensures.value in
    record { found = tt; none = k.none; past = k.past }

pub returns-then-count-eq6 : goal.returns-then-count-eq6
returns-then-count-eq6 c =
    let k = digits_long _ _ _ _ _ c.digits.invariant _ c.in-Some.ensures.took c.if-c-eq125.false c.if-count-eq6.true in
    record { found = tt; none = k.none; past = k.past }

pub overflow_mul-value : goal.overflow_mul-value
overflow_mul-value c = let k = digits_room _ _ c.take.new.self _ _ c.digits.invariant c.if-count-eq6.false in omega (arith, k)

pub overflow_add-value : goal.overflow_add-value
overflow_add-value c =
    let k = digits_room _ _ c.take.new.self _ _ c.digits.invariant c.if-count-eq6.false in
    let (fits, is) = c.in-Some-to_digit.ensures.value in
    omega (arith, k)

pub digits-preserved : goal.digits-preserved
digits-preserved c =
    let (fits, is) = c.in-Some-to_digit.ensures.value in
    digits_turn _ _ _ _ _ c.digits.invariant _ c.in-Some.ensures.took _ fits is c.if-count-eq6.false
