use Rattle.std.proofs.Common.{rules, ◌≡◌, ◌++◌, ◌∷◌, [], ap, None, Some, ℕ, Option}
use Rattle.std.specs.Option.{option_to_list}
use Rattle.kdl_grammar.specs.Tree.{document_data}
use Rattle.kdl_query.specs.Selects.{Path, node_at}
use Rattle.kdl_path.specs.Internal.Cursor.{indices, path_of, rejoined, whole}
use Rattle.kdl_path.proofs.Cursors.{found_below}
use Rattle.kdl_path.proofs.Failing.{err_is, misses}
use Rattle.kdl_path.proofs.cursor.Cursor.down.Goals as goal

pub returns-in_err-enter-clause-missing : goal.returns-in_err-enter-clause-missing
returns-in_err-enter-clause-missing c =
    let o = c.args.self.now in
    let last : o.last ≡ Some c.in-Some.last = search rules in
    let path : path_of o ≡ indices o.above.items ++ c.in-Some.last ∷ [] = ap (λ (x : Option ℕ). indices o.above.items ++ option_to_list x) last in
    let below : ((below : Path) → (i : ℕ) → node_at (c.in-Some.last ∷ i ∷ below) (document_data (rejoined o.block)) ≡ None) → (rest : Path) → node_at (path_of o ++ c.args.index ∷ rest) (document_data (whole o)) ≡ None =
    λ f rest. found_below (path_of o) o.above.items (rejoined o.block) c.in-Some.last c.args.index rest path (f rest c.args.index) in
    err_is c.from_residual.result _ _ c.from_residual.ensures.1 (misses _ below c.in_err-enter.ensures.missing)
