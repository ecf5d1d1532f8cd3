use Rattle.kdl_diagnostics.proofs.Passing.{first_looked, goes_paid, newline_first, reads_costs}
use Rattle.kdl_diagnostics.proofs.StringLoops.{finds_more, finds_same, turn, turn_ends, turn_nearer, turn_on}
use Rattle.kdl_diagnostics.proofs.strings.units.Goals as goal

pub returns-in-None : goal.returns-in-None
returns-in-None c =
    let t = turn _ _ _ _ c.checkpoint-place.result c.skip.ensures c.look.ensures.moved c.checkpoint-place.ensures.rest in
    turn_ends c.units.invariant t c.earlier-found.ensures

pub returns-then-closes : goal.returns-then-closes
returns-then-closes c =
    let t = turn _ _ _ _ c.checkpoint-place.result c.skip.ensures c.look.ensures.moved c.checkpoint-place.ensures.rest in
    finds_more 2 (turn_on c.units.invariant t (finds_same _ c.closes.ensures.reads) c.closes.ensures.went)

pub units-smaller-else-closes : goal.units-smaller-else-closes
units-smaller-else-closes c =
    let t = turn _ _ _ _ c.checkpoint-place.result c.skip.ensures c.look.ensures.moved c.checkpoint-place.ensures.rest in
    turn_nearer _ t c.closes.ensures.went

pub units-preserved-else-closes : goal.units-preserved-else-closes
units-preserved-else-closes c =
    let t = turn _ _ _ _ c.checkpoint-place.result c.skip.ensures c.look.ensures.moved c.checkpoint-place.ensures.rest in
    turn_on c.units.invariant t (finds_same _ c.closes.ensures.reads) c.closes.ensures.went

pub returns-then-quotes-eq1 : goal.returns-then-quotes-eq1
returns-then-quotes-eq1 c =
    let t = turn _ _ _ _ c.checkpoint-place.result c.skip.ensures c.look.ensures.moved c.checkpoint-place.ensures.rest in
    turn_ends c.units.invariant t c.earlier.ensures

pub units-smaller-then-is_newline_char : goal.units-smaller-then-is_newline_char
units-smaller-then-is_newline_char c =
    let t = turn _ _ _ _ c.checkpoint-place.result c.skip.ensures c.look.ensures.moved c.checkpoint-place.ensures.rest in
    turn_nearer _ t (newline_first _ _ _ _ c.newline.ensures.reads (first_looked _ c.skip.new.self c.look.new.self c.in-Some.ensures.result c.look.ensures.moved) c.if-is_newline_char.ensures)

pub units-preserved-then-is_newline_char : goal.units-preserved-then-is_newline_char
units-preserved-then-is_newline_char c =
    let t = turn _ _ _ _ c.checkpoint-place.result c.skip.ensures c.look.ensures.moved c.checkpoint-place.ensures.rest in
    let few = newline_first _ _ _ _ c.newline.ensures.reads (first_looked _ c.skip.new.self c.look.new.self c.in-Some.ensures.result c.look.ensures.moved) c.if-is_newline_char.ensures in
    turn_on c.units.invariant t (finds_same _ (goes_paid (reads_costs c.newline.ensures.moves c.newline.ensures.costs) few).reads) few

pub units-smaller : goal.units-smaller
units-smaller c =
    let t = turn _ _ _ _ c.checkpoint-place.result c.skip.ensures c.look.ensures.moved c.checkpoint-place.ensures.rest in
    turn_nearer _ t c.odd_unit-found.ensures.went

pub units-preserved : goal.units-preserved
units-preserved c =
    let t = turn _ _ _ _ c.checkpoint-place.result c.skip.ensures c.look.ensures.moved c.checkpoint-place.ensures.rest in
    turn_on c.units.invariant t c.odd_unit-found.ensures.fault c.odd_unit-found.ensures.went
