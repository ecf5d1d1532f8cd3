use Rattle.std.proofs.Common.{rules, ◌≡◌, None, Some, refl, slice_get, subst, sym}
use Rattle.kdl.specs.Words.{document_says}
use Rattle.kdl_query.specs.Selects.{IsFirstPath, Path}
use Rattle.kdl_query.specs.Tree.{query_says}
use Rattle.use_theorems.proofs.Renamed.{begins, is_empty, renamed_at}
use Rattle.use_theorems.proofs.queries.rename_first.Goals as goal

pub returns-in_default-clause-stays : goal.returns-in_default-clause-stays
returns-in_default-clause-stays c = λ _.
    let x = document_says c.args.document.now in
    let q = query_says c.args.query.now in
    let none : None ≡ slice_get c.in_ok-paths.paths.items 0 = search rules in
    (λ p. c.selections_begin_with_the_first.ensures.none x q p (is_empty x q c.in_ok-paths.paths.items none c.in_ok-paths.ensures), refl)

pub returns-clause-renames : goal.returns-clause-renames
returns-clause-renames c = λ _.
    let x = document_says c.args.document.now in
    let q = query_says c.args.query.now in
    let v = c.in-Some.path.now in
    let some : Some v ≡ slice_get c.in_ok-paths.paths.items 0 = search rules in
    let own = begins x q c.in_ok-paths.paths.items v (c.selections_begin_with_the_first.ensures.first x q) c.in_ok-paths.ensures some in
    let first : IsFirstPath x q c.deref-2.result.now = subst (λ (p : Path). IsFirstPath x q p) (sym c.deref-2.ensures.value) own in (
      c.deref-2.result.now,
      first,
      renamed_at _ c.deref-2.result.now c.args.name c.args.document.now c.edit_at.new.document c.in_ok-edit_at.field-0 (λ a n m h. search rules)
          (c.selected_paths_have_nodes.ensures x q c.deref-2.result.now first.0) c.in_ok-edit_at.ensures.edited,
    )
