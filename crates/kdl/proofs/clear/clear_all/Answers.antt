use Rattle.kdl.proofs.Common.{arith, ◌≡◌, ◌∙◌, ap, sym, subst, length, Some, cleared_document, IsAlone, document_tree, out-KdlDocument}
use Rattle.kdl.proofs.Clearing.{Walk, Whole, Climb, begun, at_node, leaf_cleared, block_entered, block_left, climb, climb_bound, finished, outermost_is, left_of, leaf_counted, block_counted, end_counted}
use Rattle.kdl.proofs.clear.clear_all.Goals as goal
use Rattle.kdl.proofs.clear.clear_all.Goals.{After-due_from-at}

pub due-init : goal.due-init
due-init c = begun c.args.here.now c.set_due.new.self c.set_due.ensures

pub due-smaller-in-Some : goal.due-smaller-in-Some
due-smaller-in-Some c =
    let w = cleared_document (document_tree c.args.here.now) in
    let k = at_node c.due.here c.due.above c.due.at w c.due.invariant (omega (arith, ap length c.nodes.ensures.value)) in
    let two = c.exchange_block.new.self in
    let new = c.set_due-in-Some.new.self in
    omega (
      arith,
      block_counted c.due.here c.clear_at.new.self two c.due.above c.exchange_block.result c.due.at w c.in-Some.block new k c.in-Some.ensures c.exchange_block.ensures c.set_due-in-Some.ensures,
      ap (λ d. left_of d (Some two) 0) c.replace.ensures.after,
      ap (λ d. left_of c.replace.new.dest (Some d) 0) c.replace.ensures.value,
    )

pub due-preserved-in-Some : goal.due-preserved-in-Some
due-preserved-in-Some c =
    let w = cleared_document (document_tree c.args.here.now) in
    let k = at_node c.due.here c.due.above c.due.at w c.due.invariant (omega (arith, ap length c.nodes.ensures.value)) in
    let two = c.exchange_block.new.self in
    let new = c.set_due-in-Some.new.self in
    subst (λ d. Walk c.replace.new.dest (Some d) 0 w) (sym c.replace.ensures.value)
    (subst (λ d. Walk d (Some two) 0 w) (sym c.replace.ensures.after)
    (block_entered c.due.here c.clear_at.new.self two c.due.above c.exchange_block.result c.due.at w c.in-Some.block new k c.in-Some.ensures c.exchange_block.ensures c.set_due-in-Some.ensures))

pub due-smaller-in_default : goal.due-smaller-in_default
due-smaller-in_default c = leaf_counted c.due.here c.clear_at.new.self c.due.above c.due.at (IsAlone c.clear_at.result) (omega (arith, ap length c.nodes.ensures.value)) c.clear_at.ensures

pub due-preserved-in_default : goal.due-preserved-in_default
due-preserved-in_default c =
    let w = cleared_document (document_tree c.args.here.now) in
    leaf_cleared c.due.here c.clear_at.new.self c.due.above c.due.at w (at_node c.due.here c.due.above c.due.at w c.due.invariant (omega (arith, ap length c.nodes.ensures.value))) c.in_default.ensures

pub returns-in_default-above : goal.returns-in_default-above
returns-in_default-above c =
    let w = cleared_document (document_tree c.args.here.now) in
    let e = finished c.due.here c.due.above c.due.at w c.due.invariant (omega (arith, ap length c.nodes.ensures.value)) in
    outermost_is (document_tree c.due.here) w (subst (λ o. Whole o (document_tree c.due.here) w) c.in_default-above.is e.whole)

-- the way up
climbed : (c : After-due_from-at) → Climb c.replace-block.result c.replace-block.new.dest c.due_from-at.result (cleared_document (document_tree c.args.here.now))
climbed c =
    let w = cleared_document (document_tree c.args.here.now) in
    let above : c.due.above ≡ Some c.replace-block.new.dest = c.in-Some-above.is ∙ ap Some (sym c.replace-block.ensures.after) in
    let walk = subst (λ o. Walk c.replace-block.result o c.due.at w) above (subst (λ d. Walk d c.due.above c.due.at w) (sym c.replace-block.ensures.value) c.due.invariant) in
    climb c.replace-block.result c.replace-block.new.dest c.due.at c.due_from-at.result w walk (omega (arith, ap length c.nodes.ensures.value, ap (λ d. length (out-KdlDocument d).nodes.items) c.replace-block.ensures.value)) c.due_from-at.ensures

pub overflow_sub-at : goal.overflow_sub-at
overflow_sub-at c = (climb_bound c.replace-block.result c.replace-block.new.dest c.due_from-at.result (cleared_document (document_tree c.args.here.now)) (climbed (goal.at.overflow_sub-at c).After-due_from-at)).0

pub exchange_block-above-requires : goal.exchange_block-above-requires
exchange_block-above-requires c = (climb_bound c.replace-block.result c.replace-block.new.dest c.due_from-at.result (cleared_document (document_tree c.args.here.now)) (climbed (goal.at.exchange_block-above-requires c).After-due_from-at)).1

pub due-smaller : goal.due-smaller
due-smaller c =
    let w = cleared_document (document_tree c.args.here.now) in
    let block = c.replace-block.result in
    let above = c.replace-block.new.dest in
    let k = climbed ((goal.at.due-smaller c).After-due_from-at) in
    omega (
      arith,
      end_counted block above c.exchange_block-above.new.self c.exchange_block-above.result c.due.at c.due_from-at.result w k c.exchange_block-above.ensures,
      ap (λ d. left_of d c.due.above c.due.at) c.replace-block.ensures.value,
      ap (λ o. left_of block o c.due.at) (c.in-Some-above.is ∙ ap Some (sym c.replace-block.ensures.after)),
    )

pub due-preserved : goal.due-preserved
due-preserved c =
    let w = cleared_document (document_tree c.args.here.now) in
    let k = climbed ((goal.at.due-preserved c).After-due_from-at) in
    block_left c.replace-block.result c.replace-block.new.dest c.exchange_block-above.new.self c.exchange_block-above.result c.due_from-at.result w k c.exchange_block-above.ensures
