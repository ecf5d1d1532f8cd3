use Rattle.std.proofs.Common.{rules, ◌≡◌, ◌++◌, ◌∷◌, [], None, ap}
use Rattle.kdl_grammar.specs.Tree.{document_data}
use Rattle.kdl_query.specs.Selects.{node_at}
use Rattle.kdl_path.specs.Internal.Cursor.{indices, path_of, rejoined, whole}
use Rattle.kdl_path.proofs.Cursors.{found_last}
use Rattle.kdl_path.proofs.Failing.{err_is, misses}
use Rattle.kdl_path.proofs.cursor.Cursor.node.Goals as goal

pub returns-in_default-clause-missing : goal.returns-in_default-clause-missing
returns-in_default-clause-missing c =
    let empty : path_of c.args.self.now ≡ [] = search rules in
    ap (λ p. node_at p (document_data (whole c.args.self.now))) empty

pub returns-in_err-reach-clause-missing : goal.returns-in_err-reach-clause-missing
returns-in_err-reach-clause-missing c =
    let o = c.args.self.now in
    let now = c.last_index.new.self in
    let path : path_of o ≡ indices now.above.items ++ c.in-Some.index ∷ [] = search rules in
    let same : whole o ≡ whole now = search rules in
    err_is c.from_residual-in_err-reach.result _ _ c.from_residual-in_err-reach.ensures.1
    (misses _ (λ h. found_last (path_of o) (whole o) now.above.items (rejoined now.block) c.in-Some.index None path same h) c.in_err-reach.ensures.missing)
