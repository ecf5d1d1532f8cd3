use Rattle.std.proofs.Common.{rules, ◌≡◌, [], ◌∷◌, Option, None, Some, length, slice_get, ap, ◌∙◌, refl, sym, subst, ℕ}
use Rattle.std.proofs.lemmas.Option.{slice_get_read}
use Rattle.kdl.specs.Words.{document_data, entries_of, node_tree, nodes_of}
use Rattle.kdl.specs.declared.node.KdlNode.{KdlNode}
use Rattle.kdl_grammar.specs.Tree.{Document}
use Rattle.kdl_grammar.specs.ReadsBack.{DocumentReads}
use Rattle.c_calls.specs.Entries.{EntryRemoved}
use Rattle.kdl_query.specs.Selects.{Path}
use Rattle.kdl_path.specs.Each.{named_node}
use Rattle.kdl_path.specs.Internal.Changed.{IsMadeIn}
use Rattle.kdl_path.specs.Internal.Cursor.{Becomes, path_of, rejoined, whole}
use Rattle.kdl_path.specs.Internal.Done.{IsNamed}
use Rattle.kdl_path.specs.Internal.Located.{place_of_target}
use Rattle.kdl_path.specs.Internal.OnEach.{IsRemovedOnEach, removing}
use Rattle.kdl_path.specs.declared.change.Change.TheVariants.{RemoveEntry}
use Rattle.kdl_path.specs.declared.cursor.Cursor.{Cursor}
use Rattle.kdl_path.specs.declared.path.Target.TheVariants.{Node}
use Rattle.kdl_path.proofs.Cursors.{changed_here, node_here, place_here, removed_here}
use Rattle.kdl_path.proofs.Failing.{err_is, misses}
use Rattle.kdl_path.proofs.Selected.{entry_removed_on, name_missing_at, node_removed_on, same_node}
use Rattle.kdl_path.proofs.each.remove_target.Goals as goal

pub returns-in_err-at-clause-missing : goal.returns-in_err-at-clause-missing
returns-in_err-at-clause-missing c =
    let o = c.node.new.self in
    let was = c.args.cursor.now in
    let t = c.args.target.now in
    let i = c.in_ok-index.index in
    let at = c.in_ok-index.ensures in
    let n = c.index-nodes-index.result in
    let ns = nodes_of o.block.document in
    let there : slice_get ns i ≡ Some n = slice_get_read ns (length ns) i n refl (search rules) (search rules) in
    let none : (t ≡ Node → ⊥) × (place_of_target t (entries_of n) ≡ None) → named_node t (document_data (whole was)) (path_of was) ≡ None =
    λ k. ap (λ p. named_node t (document_data (whole was)) p) (sym at.path) ∙ ap (λ (x : Document). named_node t (document_data x) (path_of o)) (sym at.whole)
    ∙ name_missing_at t (path_of o) (document_data (whole o)) n (node_here o i n at.last at.there there) k in
    err_is c.from_residual-in_err-at.result _ _ c.from_residual-in_err-at.ensures.1 (misses _ none c.in_err-at.ensures.missing)

pub returns-in_ok-change_in-in-Some-clause-removed : goal.returns-in_ok-change_in-in-Some-clause-removed
returns-in_ok-change_in-in-Some-clause-removed c =
    let o = c.node.new.self in
    let was = c.args.cursor.now in
    let t = c.args.target.now in
    let i = c.in_ok-index.index in
    let at = c.in_ok-index.ensures in
    let n = c.index-nodes-index.result in
    let ns = nodes_of o.block.document in
    let there : slice_get ns i ≡ Some n = slice_get_read ns (length ns) i n refl (search rules) (search rules) in
    let k = c.in-Some.at in
    let some : c.in_ok-at.field-0 ≡ Some k = search rules in
    let named : IsNamed t n (Some k) = subst (λ (x : Option ℕ). IsNamed t n x) some c.in_ok-at.ensures.named in
    let made : IsMadeIn i (RemoveEntry k) o.block.document c.change_in.new.block = c.in_ok-change_in-in-Some.ensures in
    let now : Cursor = record { above = o.above; block = record { document = c.change_in.new.block; after = o.block.after }; last = o.last } in
    let removed : EntryRemoved k n made.new = subst (λ (y : KdlNode). EntryRemoved k y made.new) (same_node made.old n _ made.there there) made.made in
    let done : IsRemovedOnEach (path_of o ∷ []) t (whole o) (whole now) =
    entry_removed_on t (path_of o) (whole o) (whole now) n made.new k (place_here o i n at.last there) (node_here o i n at.last at.there there) named removed
    (changed_here o now i (node_tree made.new) at.last at.there refl refl made.rest) (subst DocumentReads (sym at.whole) c.requires.reads) in
    subst (λ (p : Path). IsRemovedOnEach (p ∷ []) t (whole was) (whole now)) at.path (subst (λ (x : Document). IsRemovedOnEach (path_of o ∷ []) t x (whole now)) at.whole done)

pub returns-in_ok-remove-in-None-clause-removed : goal.returns-in_ok-remove-in-None-clause-removed
returns-in_ok-remove-in-None-clause-removed c =
    let o = c.node.new.self in
    let was = c.args.cursor.now in
    let now = c.remove.new.self in
    let t = c.args.target.now in
    let i = c.in_ok-index.index in
    let at = c.in_ok-index.ensures in
    let n = c.index-nodes-index.result in
    let ns = nodes_of o.block.document in
    let there : slice_get ns i ≡ Some n = slice_get_read ns (length ns) i n refl (search rules) (search rules) in
    let none : c.in_ok-at.field-0 ≡ None = search rules in
    let own : t ≡ Node = subst (λ (x : Option ℕ). IsNamed t n x) none c.in_ok-at.ensures.named in
    let r = c.in_ok-remove-in-None.ensures.removed in
    let b : Becomes (removing Node i) (rejoined o.block) (rejoined now.block) = record { says = r.says; block = r.block; whole = r.whole } in
    let x = removed_here (removing Node) o now i at.last c.in_ok-remove-in-None.ensures.above b in
    let done : IsRemovedOnEach (path_of o ∷ []) t (whole o) (whole now) =
    node_removed_on t (path_of o) (whole o) (whole now) n (node_here o i n at.last at.there there) own (x.0 (subst DocumentReads (sym at.whole) c.requires.reads)) x.1 in
    subst (λ (p : Path). IsRemovedOnEach (p ∷ []) t (whole was) (whole now)) at.path (subst (λ (x : Document). IsRemovedOnEach (path_of o ∷ []) t x (whole now)) at.whole done)
