use Rattle.kdl.proofs.Common.{◌≡◌, ℕ, OnOk, arith, length, subst, nodes_of, IsPutExactly, on_ok_weaker}
use Rattle.kdl.specs.declared.document.KdlDocument.{out-KdlDocument}
use Rattle.kdl.proofs.Putting.Exact.{appended}
use Rattle.kdl.proofs.document.KdlDocument.push_node.Goals as goal

pub returns-clause-appended : goal.returns-clause-appended
returns-clause-appended c =
    let d = c.args.self.now in
    let e = c.insert_node.new.self in
    let last : c.len-index.result ≡ length (nodes_of d) = omega (arith, c.len-index.ensures, (out-KdlDocument d).nodes.ok.0) in
    on_ok_weaker c.insert_node.result (appended c.args.node d e) (subst (λ (i : ℕ). OnOk c.insert_node.result (IsPutExactly i c.args.node d e)) last c.insert_node.ensures.exact)
