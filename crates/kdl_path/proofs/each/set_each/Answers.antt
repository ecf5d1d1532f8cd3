use Rattle.std.proofs.Common.{rules, ◌≡◌, string_bytes}
use Rattle.std.specs.Str.{chars, encode_utf8_all}
use Rattle.kdl.specs.Words.{document_prints, document_says}
use Rattle.kdl.specs.declared.document.KdlDocument.{KdlDocument}
use Rattle.kdl_query.specs.Tree.{query_says}
use Rattle.kdl_path.specs.Each.{SetEachFails}
use Rattle.kdl_path.specs.Internal.OnEach.{paths_back}
use Rattle.kdl_path.proofs.Failing.{err_is, text_fails}
use Rattle.kdl_path.proofs.Selected.{set_each_ends, set_each_missing}
use Rattle.kdl_path.proofs.each.set_each.Goals as goal

pub returns-in_err-document-clause-fails : goal.returns-in_err-document-clause-fails
returns-in_err-document-clause-fails c =
    err_is c.from_residual-in_err-document.result _ _ c.from_residual-in_err-document.ensures.1
    (text_fails KdlDocument (SetEachFails (query_says c.args.query.now) c.args.target.now c.args.value.now c.args.text.now) c.args.text.now _ c.in_err-document.ensures.refused c.in_err-document.ensures.told (λ e h. h) tt)

pub returns-in_err-changed-clause-fails : goal.returns-in_err-changed-clause-fails
returns-in_err-changed-clause-fails c =
    err_is c.from_residual-in_err-changed.result _ _ c.from_residual-in_err-changed.ensures.1
    (set_each_missing (query_says c.args.query.now) c.args.target.now c.args.value.now c.args.text.now _ (paths_back c.in_ok-turns.turns.items) _ c.in_ok-document.ensures.found c.in_ok-turns.ensures.selection c.in_err-changed.ensures.missing)

pub returns-clause-set : goal.returns-clause-set
returns-clause-set c =
    let x = document_says c.in_ok-document.document in
    let y = c.in_ok-document.ensures.found in
    let e = c.in_ok-changed.changed in
    let out = c.in_ok-to_string.field-0 in
    let document = c.in_ok-document.ensures in
    let value = c.in_ok-value.ensures in
    let bytes : string_bytes out ≡ encode_utf8_all (document_prints e) = search rules in (
      x,
      y,
      set_each_ends (query_says c.args.query.now) c.args.target.now c.in_ok-value.value (chars c.args.value.now) (chars c.args.text.now) (paths_back c.in_ok-turns.turns.items) c.in_ok-document.document e out x y value.spelling value.reads
          document.only document.prints c.in_ok-turns.ensures.selection c.in_ok-turns.ensures.some c.in_ok-changed.ensures.set bytes,
    )
