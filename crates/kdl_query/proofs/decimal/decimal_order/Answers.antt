use Rattle.std.proofs.Common.{◌+◌, ◌^◌, pos, ◌-ℤ◌}
use Rattle.kdl_query.specs.DecimalParts.{Clamps, followed, raised, lowered}
use Rattle.std.proofs.Common.{arith, ◌∙◌}
use Rattle.std.proofs.lemmas.Int.{ints}
use Rattle.kdl_query.proofs.Exact.Parts.{clamps_as, turned}
use Rattle.kdl_query.proofs.Exact.Orders.{order_is}
use Rattle.kdl_query.proofs.decimal.decimal_order.Goals as goal

-- src/decimal.rt:225:1
pub returns : goal.returns
returns c = let x = raised c.args.a + lowered c.args.b in
    let y = raised c.args.b + lowered c.args.a in
    let a = followed c.args.a c.zeros-a_zeros.result in
    let b = followed c.args.b c.zeros-b_zeros.result in
    let h : Clamps (2 ^ 99) c.shift-shift.result (pos x -ℤ pos y) = c.shift-shift.ensures.clamps in
    let i = c.zeros-a_zeros.ensures.least x y (clamps_as (2 ^ 99) c.shift-shift.result _ (pos x -ℤ pos y) (omega (arith, ints)) h) in
    let j = c.zeros-b_zeros.ensures.least y x (turned c.shift-shift.result _ x y (omega (arith, ints)) h) in
    rw (c.followed_by.ensures, c.followed_by-2.ensures) at c.whole_order.ensures
    ∙ order_is c.args.a c.args.b c.places.result c.places-2.result c.zeros-a_zeros.result c.zeros-b_zeros.result c.places-2.ensures.room c.places.ensures.room i j
