use Rattle.std.proofs.Common.{[], ◌∷◌, ◌++◌, refl}
use Rattle.kdl.specs.Words.{entry_data, entry_tree}
use Rattle.kdl_path.specs.Edits.{node_with_entry}
use Rattle.kdl_path.proofs.Made.{child_new}
use Rattle.kdl_path.proofs.create.new_node.Goals as goal

pub steps-init : goal.steps-init
steps-init c = record {
  made = λ reads. record { first = c.args.last.now; below = []; steps = refl; says = c.in_ok-node.ensures.says; reads = c.in_ok-node.ensures.reads reads };
}

pub steps-preserved : goal.steps-preserved
steps-preserved c =
    let l = c.steps in
    record {
      made = λ reads.
          child_new l.left.now c.in-Some.rest.now (c.args.above.now ++ (c.args.last.now ∷ [])) c.in-Some.step.now (node_with_entry (entry_data (entry_tree c.args.entry))) l.node c.in_ok-node-2.node
          (l.invariant.made reads) c.in-Some.ensures.cases.0 c.in_ok-node-2.ensures.says c.in_ok-node-2.ensures.reads;
    }
