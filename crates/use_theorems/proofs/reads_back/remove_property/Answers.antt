use Rattle.std.proofs.Common.{◌≡◌, List, ℕ, Option, IfSome, refl, subst}
use Rattle.kdl.specs.Words.{IsTakenOut, with_node_named}
use Rattle.kdl.specs.declared.node.KdlNode.{KdlNode}
use Rattle.use_theorems.proofs.reads_back.remove_property.Goals as goal

pub returns-clause-takes : goal.returns-clause-takes
returns-clause-takes c =
    let s = c.args.name.now in
    let d = c.args.document.now in
    let n = c.in-Some.node.now in
    let m = c.remove.new.self in
    let taken : IsTakenOut c.args.property.now n m =
    subst (λ (o : Option (List ℕ)). IfSome o (λ r. IsTakenOut r n m)) c.in_ok-key.ensures.name c.remove.ensures.takes in
    subst (λ (o : Option KdlNode). IfSome o (λ x. (y : KdlNode) × (with_node_named s d m ≡ with_node_named s d y) × IsTakenOut c.args.property.now x y)) c.in-Some.ensures.value (m, refl, taken)
