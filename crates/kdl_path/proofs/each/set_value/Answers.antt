use Rattle.std.proofs.Common.{rules, ◌≡◌, None, Some, slice_get, ap, ◌∙◌, refl, sym, subst}
use Rattle.kdl.specs.Words.{document_data, entries_of, node_tree, nodes_of, value_tree}
use Rattle.kdl.specs.declared.node.KdlNode.{KdlNode}
use Rattle.kdl_grammar.specs.Tree.{Document}
use Rattle.kdl_grammar.specs.ReadsBack.{DocumentReads}
use Rattle.kdl_query.specs.Selects.{Path}
use Rattle.kdl_text.specs.Chars.{Text}
use Rattle.kdl_value.specs.Data.{Value}
use Rattle.kdl_value.specs.Tree.{text_of}
use Rattle.kdl_path.specs.Each.{value_at}
use Rattle.kdl_path.specs.Internal.Changed.{IsMadeIn, IsValueSet}
use Rattle.kdl_path.specs.Internal.Cursor.{path_of, whole}
use Rattle.kdl_path.specs.Internal.Located.{place_of_target}
use Rattle.kdl_path.specs.Internal.OnEach.{IsSetOn}
use Rattle.kdl_path.specs.declared.change.Change.TheVariants.{SetValue}
use Rattle.kdl_path.specs.declared.cursor.Cursor.{Cursor}
use Rattle.kdl_path.proofs.Cursors.{changed_here, node_here, place_here}
use Rattle.kdl_path.proofs.Failing.{err_is, misses}
use Rattle.kdl_path.proofs.Selected.{same_node, set_on, value_missing_at}
use Rattle.kdl_path.proofs.each.set_value.Goals as goal

pub returns-in_err-at-clause-missing : goal.returns-in_err-at-clause-missing
returns-in_err-at-clause-missing c =
    let o = c.node.new.self in
    let was = c.args.cursor.now in
    let t = c.args.target.now in
    let i = c.in_ok-index.index in
    let at = c.in_ok-index.ensures in
    let none : (n : KdlNode) × (slice_get (nodes_of o.block.document) i ≡ Some n) × (place_of_target t (entries_of n) ≡ None) → value_at t (document_data (whole was)) (path_of was) ≡ None =
    λ (n, there, k). ap (λ p. value_at t (document_data (whole was)) p) (sym at.path) ∙ ap (λ (x : Document). value_at t (document_data x) (path_of o)) (sym at.whole)
    ∙ value_missing_at t (path_of o) (document_data (whole o)) n (node_here o i n at.last at.there there) k in
    err_is c.from_residual-in_err-at.result _ _ c.from_residual-in_err-at.ensures.1 (misses _ none c.in_err-at.ensures.missing)

pub returns-clause-set : goal.returns-clause-set
returns-clause-set c =
    let o = c.node.new.self in
    let was = c.args.cursor.now in
    let t = c.args.target.now in
    let v = value_tree c.args.value.now.value in
    let given = text_of c.args.value.now.spelling in
    let i = c.in_ok-index.index in
    let at = c.in_ok-index.ensures in
    let k = c.in_ok-at.at in
    let s = c.in_ok-clone.field-0 in
    let value : value_tree s.value ≡ v = search rules in
    let spelling : text_of s.spelling ≡ given = search rules in
    let (n, there, place) = c.in_ok-at.ensures.found in
    let made : IsMadeIn i (SetValue k s) o.block.document c.change_in.new.block = c.in_ok-change_in.ensures in
    let now : Cursor = record { above = o.above; block = record { document = c.change_in.new.block; after = o.block.after }; last = o.last } in
    let old : made.old ≡ n = same_node made.old n _ made.there there in
    let set : IsValueSet k v given n made.new =
    subst (λ (y : KdlNode). IsValueSet k v given y made.new) old (subst (λ (t : Text). IsValueSet k v t made.old made.new) spelling (subst (λ (x : Value). IsValueSet k x (text_of s.spelling) made.old made.new) value made.made)) in
    let done : IsSetOn (path_of o) t v given (whole o) (whole now) =
    set_on t v given (path_of o) (whole o) (whole now) n made.new k (place_here o i n at.last there) (node_here o i n at.last at.there there) place c.requires.value set
    (changed_here o now i (node_tree made.new) at.last at.there refl refl made.rest) (subst DocumentReads (sym at.whole) c.requires.reads) in
    subst (λ (p : Path). IsSetOn p t v given (whole was) (whole now)) at.path (subst (λ (x : Document). IsSetOn (path_of o) t v given x (whole now)) at.whole done)
