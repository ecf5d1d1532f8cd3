use Rattle.std.proofs.Common.{rules, ◌≡◌, string_bytes}
use Rattle.std.specs.Str.{chars, encode_utf8_all}
use Rattle.kdl.specs.Words.{document_prints, document_says}
use Rattle.kdl.specs.declared.document.KdlDocument.{KdlDocument}
use Rattle.kdl_query.specs.Tree.{query_says}
use Rattle.kdl_path.specs.Each.{RemoveEachFails}
use Rattle.kdl_path.specs.Internal.OnEach.{paths_back}
use Rattle.kdl_path.proofs.Failing.{err_is, text_fails}
use Rattle.kdl_path.proofs.Selected.{remove_each_ends, remove_each_missing}
use Rattle.kdl_path.proofs.each.remove_each.Goals as goal

pub returns-in_err-document-clause-fails : goal.returns-in_err-document-clause-fails
returns-in_err-document-clause-fails c =
    err_is c.from_residual.result _ _ c.from_residual.ensures.1
    (text_fails KdlDocument (RemoveEachFails (query_says c.args.query.now) c.args.target.now c.args.text.now) c.args.text.now _ c.in_err-document.ensures.refused c.in_err-document.ensures.told (λ e h. h) tt)

pub returns-in_err-changed-clause-fails : goal.returns-in_err-changed-clause-fails
returns-in_err-changed-clause-fails c =
    err_is c.from_residual-in_err-changed.result _ _ c.from_residual-in_err-changed.ensures.1
    (remove_each_missing (query_says c.args.query.now) c.args.target.now c.args.text.now _ (paths_back c.in_ok-turns.turns.items) _ c.in_ok-document.ensures.found c.in_ok-turns.ensures.selection c.in_err-changed.ensures.missing)

pub returns-clause-removed : goal.returns-clause-removed
returns-clause-removed c =
    let x = document_says c.in_ok-document.document in
    let y = c.in_ok-document.ensures.found in
    let e = c.in_ok-changed.changed in
    let out = c.in_ok-to_string.field-0 in
    let document = c.in_ok-document.ensures in
    let bytes : string_bytes out ≡ encode_utf8_all (document_prints e) = search rules in (
      x,
      y,
      remove_each_ends (query_says c.args.query.now) c.args.target.now (chars c.args.text.now) (paths_back c.in_ok-turns.turns.items) c.in_ok-document.document e out x y document.only c.in_ok-turns.ensures.selection c.in_ok-turns.ensures.some
          c.in_ok-changed.ensures.removed bytes,
    )
