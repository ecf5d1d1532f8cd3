use Rattle.std.proofs.Common.{◌-◌, to_z, of_z, sym, ◌∙◌, arith}
use Rattle.std.proofs.lemmas.Int.{ints}
use Rattle.std.specs.Int.{w128}
use Rattle.kdl_query.proofs.Exact.Parts.{cut_whole}
use Rattle.kdl_query.proofs.Exact.Orders.{equal, settled}
use Rattle.kdl_query.proofs.decimal.whole_order.Goals as goal

-- src/decimal.rt:145:13
pub returns-then-is_ne : goal.returns-then-is_ne
returns-then-is_ne c = let place = c.loop-place.place in
    c.cmp-order.ensures ∙ settled c.args.a c.args.b (place - 1) place c.digit.result c.digit-in-loop-place.result (to_z w128 (of_z w128 c.digit.result)) (to_z w128 (of_z w128 c.digit-in-loop-place.result)) (omega (arith, ints)) (omega (arith, ints)) (omega arith) c.loop-place.invariant c.digit.ensures.step c.digit-in-loop-place.ensures.step (rw (c.is_ne.ensures, c.cmp-order.ensures) at c.if-is_ne.true)

-- src/decimal.rt:135:1
pub returns : goal.returns
returns c = sym (equal _ _ (sym (cut_whole c.args.a c.loop-place.place c.loop-place-test.false) ∙ c.loop-place.invariant ∙ cut_whole c.args.b c.loop-place.place c.loop-place-test.false))
