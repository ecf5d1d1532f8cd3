use Rattle.std.proofs.Common.{rules, ◌≡◌, ◌++◌, ◌∷◌, [], Contains, None, option_and_then, reverse, ap, ◌∙◌, sym, subst}
use Rattle.kdl.specs.Words.{document_data, document_says, document_tree}
use Rattle.kdl_grammar.specs.Tree.{Document}
use Rattle.kdl_query.specs.Selects.{Path, node_at}
use Rattle.kdl_query.specs.Turns.{paths_from, turned}
use Rattle.kdl_path.specs.Each.{named_node}
use Rattle.kdl_path.specs.Edits.{with_target}
use Rattle.kdl_path.specs.Internal.Cursor.{path_of, whole}
use Rattle.kdl_path.specs.Internal.OnEach.{IsRemovedOnEach, paths_back}
use Rattle.kdl_path.proofs.Failing.{err_is, misses}
use Rattle.kdl_path.proofs.Selected.{IsRemovedSo, removal_goes, removal_misses, split_back}
use Rattle.kdl_path.proofs.each.remove_at_paths.Goals as goal

pub returns-in_err-turn-clause-missing : goal.returns-in_err-turn-clause-missing
returns-in_err-turn-clause-missing c =
    let t = c.args.target.now in
    let all = paths_back c.args.turns.items in
    let o = c.loop-turn.cursor in
    let p = turned (path_of o) c.in-Some.turn in
    let taken : c.loop-turn.turns.items ≡ c.pop.new.self.items ++ c.in-Some.turn ∷ [] = search rules in
    let miss : node_at p (document_data (whole o)) ≡ None → (q : Path) × Contains all q × (named_node t (document_says c.args.document) q ≡ None) =
    λ h. removal_misses all (reverse (paths_from (path_of o) (reverse c.loop-turn.turns.items))) (reverse (paths_from p (reverse c.pop.new.self.items))) p t (document_tree c.args.document) (whole o) c.requires.ordered
    (split_back c.loop-turn.turns.items c.pop.new.self.items c.in-Some.turn (path_of o) taken) c.loop-turn.invariant (ap (option_and_then (with_target t)) h) in
    err_is c.from_residual.result _ _ c.from_residual.ensures.1 (misses _ miss c.in_err-turn.ensures.missing)

pub returns-in_err-remove_target-clause-missing : goal.returns-in_err-remove_target-clause-missing
returns-in_err-remove_target-clause-missing c =
    let t = c.args.target.now in
    let all = paths_back c.args.turns.items in
    let o = c.loop-turn.cursor in
    let n = c.turn.new.self in
    let p = turned (path_of o) c.in-Some.turn in
    let taken : c.loop-turn.turns.items ≡ c.pop.new.self.items ++ c.in-Some.turn ∷ [] = search rules in
    let miss : named_node t (document_data (whole n)) (path_of n) ≡ None → (q : Path) × Contains all q × (named_node t (document_says c.args.document) q ≡ None) =
    λ h. removal_misses all (reverse (paths_from (path_of o) (reverse c.loop-turn.turns.items))) (reverse (paths_from p (reverse c.pop.new.self.items))) p t (document_tree c.args.document) (whole o) c.requires.ordered
    (split_back c.loop-turn.turns.items c.pop.new.self.items c.in-Some.turn (path_of o) taken) c.loop-turn.invariant
    (ap (λ q. named_node t (document_data (whole o)) q) (sym c.in_ok-turn.ensures.path) ∙ ap (λ (x : Document). named_node t (document_data x) (path_of n)) (sym c.in_ok-turn.ensures.whole) ∙ h) in
    err_is c.from_residual-in_err-remove_target.result _ _ c.from_residual-in_err-remove_target.ensures.1 (misses _ miss c.in_err-remove_target.ensures.missing)

pub loop-turn-preserved : goal.loop-turn-preserved
loop-turn-preserved c =
    let t = c.args.target.now in
    let all = paths_back c.args.turns.items in
    let d = document_tree c.args.document in
    let o = c.loop-turn.cursor in
    let n = c.turn.new.self in
    let f = whole c.remove_target.new.cursor in
    let p = turned (path_of o) c.in-Some.turn in
    let taken : c.loop-turn.turns.items ≡ c.pop.new.self.items ++ c.in-Some.turn ∷ [] = search rules in
    let one : IsRemovedOnEach (p ∷ []) t (whole o) f =
    subst (λ (q : Path). IsRemovedOnEach (q ∷ []) t (whole o) f) c.in_ok-turn.ensures.path (subst (λ (x : Document). IsRemovedOnEach (path_of n ∷ []) t x f) c.in_ok-turn.ensures.whole c.in_ok-remove_target.ensures.removed) in
    subst (λ (q : Path). IsRemovedSo all (reverse (paths_from q (reverse c.pop.new.self.items))) t d f) (sym (c.in_ok-remove_target.ensures.path ∙ c.in_ok-turn.ensures.path))
    (removal_goes all (reverse (paths_from (path_of o) (reverse c.loop-turn.turns.items))) (reverse (paths_from p (reverse c.pop.new.self.items))) p t d (whole o) f c.requires.ordered
    (split_back c.loop-turn.turns.items c.pop.new.self.items c.in-Some.turn (path_of o) taken) c.loop-turn.invariant one)
