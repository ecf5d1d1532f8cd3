use Rattle.std.proofs.Common.{rules, ◌≡◌, ◌++◌, ◌∷◌, [], Contains, None, option_and_then, reverse, ap, ◌∙◌, sym, subst}
use Rattle.kdl.specs.Words.{document_data, document_says, document_tree, value_tree}
use Rattle.kdl_grammar.specs.Tree.{Document}
use Rattle.kdl_query.specs.Selects.{Path, node_at}
use Rattle.kdl_query.specs.Turns.{paths_from, turned}
use Rattle.kdl_value.specs.Tree.{text_of}
use Rattle.kdl_path.specs.Each.{value_at}
use Rattle.kdl_path.specs.Internal.Cursor.{path_of, whole}
use Rattle.kdl_path.specs.Internal.OnEach.{IsSetOn, paths_back}
use Rattle.kdl_path.specs.Paths.{value_in}
use Rattle.kdl_path.proofs.Failing.{err_is, misses}
use Rattle.kdl_path.proofs.Selected.{IsSetSo, set_begins, set_goes, set_misses, split_back}
use Rattle.kdl_path.proofs.each.set_at_paths.Goals as goal

pub loop-turn-init : goal.loop-turn-init
loop-turn-init c =
    let v = c.args.value.now in
    let o = c.over-cursor.result in
    let ts = c.args.turns.items in
    let d = document_tree c.args.document in
    let rest = reverse (paths_from (path_of o) (reverse ts)) in
    subst (λ (e : Document). IsSetSo (paths_back ts) rest c.args.target.now (value_tree v.value) (text_of v.spelling) d e) (sym c.over-cursor.ensures.whole)
    (set_begins (paths_back ts) rest c.args.target.now (value_tree v.value) (text_of v.spelling) d (ap (λ p. reverse (paths_from p (reverse ts))) (sym c.over-cursor.ensures.path)) c.requires.reads)

pub returns-in_err-turn-clause-missing : goal.returns-in_err-turn-clause-missing
returns-in_err-turn-clause-missing c =
    let v = c.args.value.now in
    let t = c.args.target.now in
    let all = paths_back c.args.turns.items in
    let o = c.loop-turn.cursor in
    let p = turned (path_of o) c.in-Some.turn in
    let taken : c.loop-turn.turns.items ≡ c.pop.new.self.items ++ c.in-Some.turn ∷ [] = search rules in
    let miss : node_at p (document_data (whole o)) ≡ None → (q : Path) × Contains all q × (value_at t (document_says c.args.document) q ≡ None) =
    λ h. set_misses all (reverse (paths_from (path_of o) (reverse c.loop-turn.turns.items))) (reverse (paths_from p (reverse c.pop.new.self.items))) p t (value_tree v.value) (text_of v.spelling) (document_tree c.args.document) (whole o) c.requires.ordered
    (split_back c.loop-turn.turns.items c.pop.new.self.items c.in-Some.turn (path_of o) taken) c.loop-turn.invariant (ap (option_and_then (value_in t)) h) in
    err_is c.from_residual.result _ _ c.from_residual.ensures.1 (misses _ miss c.in_err-turn.ensures.missing)

pub returns-in_err-set_value-clause-missing : goal.returns-in_err-set_value-clause-missing
returns-in_err-set_value-clause-missing c =
    let v = c.args.value.now in
    let t = c.args.target.now in
    let all = paths_back c.args.turns.items in
    let o = c.loop-turn.cursor in
    let n = c.turn.new.self in
    let p = turned (path_of o) c.in-Some.turn in
    let taken : c.loop-turn.turns.items ≡ c.pop.new.self.items ++ c.in-Some.turn ∷ [] = search rules in
    let miss : value_at t (document_data (whole n)) (path_of n) ≡ None → (q : Path) × Contains all q × (value_at t (document_says c.args.document) q ≡ None) =
    λ h. set_misses all (reverse (paths_from (path_of o) (reverse c.loop-turn.turns.items))) (reverse (paths_from p (reverse c.pop.new.self.items))) p t (value_tree v.value) (text_of v.spelling) (document_tree c.args.document) (whole o) c.requires.ordered
    (split_back c.loop-turn.turns.items c.pop.new.self.items c.in-Some.turn (path_of o) taken) c.loop-turn.invariant
    (ap (λ q. value_at t (document_data (whole o)) q) (sym c.in_ok-turn.ensures.path) ∙ ap (λ (x : Document). value_at t (document_data x) (path_of n)) (sym c.in_ok-turn.ensures.whole) ∙ h) in
    err_is c.from_residual-in_err-set_value.result _ _ c.from_residual-in_err-set_value.ensures.1 (misses _ miss c.in_err-set_value.ensures.missing)

pub loop-turn-preserved : goal.loop-turn-preserved
loop-turn-preserved c =
    let v = value_tree c.args.value.now.value in
    let given = text_of c.args.value.now.spelling in
    let t = c.args.target.now in
    let all = paths_back c.args.turns.items in
    let d = document_tree c.args.document in
    let o = c.loop-turn.cursor in
    let n = c.turn.new.self in
    let f = whole c.set_value.new.cursor in
    let p = turned (path_of o) c.in-Some.turn in
    let taken : c.loop-turn.turns.items ≡ c.pop.new.self.items ++ c.in-Some.turn ∷ [] = search rules in
    let one : IsSetOn p t v given (whole o) f =
    subst (λ (q : Path). IsSetOn q t v given (whole o) f) c.in_ok-turn.ensures.path (subst (λ (x : Document). IsSetOn (path_of n) t v given x f) c.in_ok-turn.ensures.whole c.in_ok-set_value.ensures.set) in
    subst (λ (q : Path). IsSetSo all (reverse (paths_from q (reverse c.pop.new.self.items))) t v given d f) (sym (c.in_ok-set_value.ensures.path ∙ c.in_ok-turn.ensures.path))
    (set_goes all (reverse (paths_from (path_of o) (reverse c.loop-turn.turns.items))) (reverse (paths_from p (reverse c.pop.new.self.items))) p t v given d (whole o) f c.requires.ordered
    (split_back c.loop-turn.turns.items c.pop.new.self.items c.in-Some.turn (path_of o) taken) c.loop-turn.invariant one)
