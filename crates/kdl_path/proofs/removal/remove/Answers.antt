use Rattle.std.proofs.Common.{rules, ◌≡◌, string_bytes}
use Rattle.std.specs.Str.{chars, encode_utf8_all}
use Rattle.kdl.specs.Words.{document_prints, document_says}
use Rattle.kdl.specs.declared.document.KdlDocument.{KdlDocument}
use Rattle.kdl_path.specs.Failures.{RemoveFails}
use Rattle.kdl_path.proofs.Edited.{removed_text}
use Rattle.kdl_path.proofs.Failing.{err_is, missing_remove, no_ok, text_fails}
use Rattle.kdl_path.proofs.removal.remove.Goals as goal

pub returns-in_err-document-clause-removed : goal.returns-in_err-document-clause-removed
returns-in_err-document-clause-removed c = no_ok c.from_residual.result _ c.from_residual.ensures.0

pub returns-in_err-document-clause-found : goal.returns-in_err-document-clause-found
returns-in_err-document-clause-found c = no_ok c.from_residual.result _ c.from_residual.ensures.0

pub returns-in_err-document-clause-fails : goal.returns-in_err-document-clause-fails
returns-in_err-document-clause-fails c = err_is c.from_residual.result _ _ c.from_residual.ensures.1 (text_fails KdlDocument (RemoveFails c.args.path.now c.args.text.now) c.args.text.now _ c.in_err-document.ensures.refused c.in_err-document.ensures.told (λ e h. h) tt)

pub returns-in_err-changed-clause-removed : goal.returns-in_err-changed-clause-removed
returns-in_err-changed-clause-removed c = no_ok c.from_residual-in_err-changed.result _ c.from_residual-in_err-changed.ensures.0

pub returns-in_err-changed-clause-found : goal.returns-in_err-changed-clause-found
returns-in_err-changed-clause-found c = no_ok c.from_residual-in_err-changed.result _ c.from_residual-in_err-changed.ensures.0

pub returns-in_err-changed-clause-fails : goal.returns-in_err-changed-clause-fails
returns-in_err-changed-clause-fails c = err_is c.from_residual-in_err-changed.result _ _ c.from_residual-in_err-changed.ensures.1 (missing_remove c.args.path.now c.args.text.now _ _ c.in_ok-document.ensures.found c.in_err-changed.ensures.missing)

pub returns-in_err-to_string-clause-fails : goal.returns-in_err-to_string-clause-fails
returns-in_err-to_string-clause-fails c = err_is c.from_residual-in_err-to_string.result _ _ c.from_residual-in_err-to_string.ensures.1 tt

pub returns-clause-removed : goal.returns-clause-removed
returns-clause-removed c =
    let e = c.in_ok-changed.changed in
    let out = c.in_ok-to_string.field-0 in
    let document = c.in_ok-document.ensures in
    let bytes : string_bytes out ≡ encode_utf8_all (document_prints e) = search rules in
    removed_text c.args.path.now (chars c.args.text.now) c.in_ok-document.document e out document.only document.reads c.in_ok-changed.ensures.removed bytes

pub returns-clause-found : goal.returns-clause-found
returns-clause-found c = (document_says c.in_ok-document.document, c.in_ok-document.ensures.found, c.in_ok-changed.ensures.found)
