use Rattle.std.proofs.Common.{rules, ◌≡◌, string_bytes}
use Rattle.std.specs.Str.{chars, encode_utf8_all}
use Rattle.kdl.specs.Words.{document_prints, document_says}
use Rattle.kdl.specs.declared.document.KdlDocument.{KdlDocument}
use Rattle.kdl_path.specs.Failures.{SetFails}
use Rattle.kdl_path.proofs.Failing.{err_is, missing_set, no_ok, text_fails, value_set}
use Rattle.kdl_path.proofs.Made.{made_ends}
use Rattle.kdl_path.proofs.Values.{set_ends}
use Rattle.kdl_path.proofs.setter.set.Goals as goal

pub returns-in_err-value-clause-set : goal.returns-in_err-value-clause-set
returns-in_err-value-clause-set c = no_ok c.from_residual.result _ c.from_residual.ensures.0

pub returns-in_err-value-clause-made : goal.returns-in_err-value-clause-made
returns-in_err-value-clause-made c = no_ok c.from_residual.result _ c.from_residual.ensures.0

pub returns-in_err-value-clause-found : goal.returns-in_err-value-clause-found
returns-in_err-value-clause-found c = no_ok c.from_residual.result _ c.from_residual.ensures.0

pub returns-in_err-value-clause-fails : goal.returns-in_err-value-clause-fails
returns-in_err-value-clause-fails c = err_is c.from_residual.result _ _ c.from_residual.ensures.1 (value_set c.args.path.now c.args.value.now c.args.text.now c.args.create _ c.in_err-value.ensures.refused)

pub returns-in_err-document-clause-set : goal.returns-in_err-document-clause-set
returns-in_err-document-clause-set c = no_ok c.from_residual-in_err-document.result _ c.from_residual-in_err-document.ensures.0

pub returns-in_err-document-clause-made : goal.returns-in_err-document-clause-made
returns-in_err-document-clause-made c = no_ok c.from_residual-in_err-document.result _ c.from_residual-in_err-document.ensures.0

pub returns-in_err-document-clause-found : goal.returns-in_err-document-clause-found
returns-in_err-document-clause-found c = no_ok c.from_residual-in_err-document.result _ c.from_residual-in_err-document.ensures.0

pub returns-in_err-document-clause-fails : goal.returns-in_err-document-clause-fails
returns-in_err-document-clause-fails c = err_is c.from_residual-in_err-document.result _ _ c.from_residual-in_err-document.ensures.1 (text_fails KdlDocument (SetFails c.args.path.now c.args.value.now c.args.text.now c.args.create) c.args.text.now _ c.in_err-document.ensures.refused c.in_err-document.ensures.told (λ e h. h) tt)

pub returns-in_err-changed-clause-set : goal.returns-in_err-changed-clause-set
returns-in_err-changed-clause-set c = no_ok c.from_residual-in_err-changed.result _ c.from_residual-in_err-changed.ensures.0

pub returns-in_err-changed-clause-made : goal.returns-in_err-changed-clause-made
returns-in_err-changed-clause-made c = no_ok c.from_residual-in_err-changed.result _ c.from_residual-in_err-changed.ensures.0

pub returns-in_err-changed-clause-found : goal.returns-in_err-changed-clause-found
returns-in_err-changed-clause-found c = no_ok c.from_residual-in_err-changed.result _ c.from_residual-in_err-changed.ensures.0

pub returns-in_err-changed-clause-fails : goal.returns-in_err-changed-clause-fails
returns-in_err-changed-clause-fails c = err_is c.from_residual-in_err-changed.result _ _ c.from_residual-in_err-changed.ensures.1 (missing_set c.args.path.now c.args.value.now c.args.text.now c.args.create _ _ c.in_ok-document.ensures.found c.in_err-changed.ensures.missing)

pub returns-in_err-to_string-clause-fails : goal.returns-in_err-to_string-clause-fails
returns-in_err-to_string-clause-fails c = err_is c.from_residual-in_err-to_string.result _ _ c.from_residual-in_err-to_string.ensures.1 tt

pub returns-clause-set : goal.returns-clause-set
returns-clause-set c = λ x y there.
    let e = c.in_ok-changed.changed in
    let out = c.in_ok-to_string.field-0 in
    let document = c.in_ok-document.ensures in
    let value = c.in_ok-value.ensures in
    let bytes : string_bytes out ≡ encode_utf8_all (document_prints e) = search rules in
    set_ends c.args.path.now c.in_ok-value.value (chars c.args.value.now) (chars c.args.text.now) c.in_ok-document.document e out x y there value.spelling value.reads document.only document.prints document.reads c.in_ok-changed.ensures.set bytes

pub returns-clause-made : goal.returns-clause-made
returns-clause-made c = λ x y none.
    let e = c.in_ok-changed.changed in
    let out = c.in_ok-to_string.field-0 in
    let document = c.in_ok-document.ensures in
    let value = c.in_ok-value.ensures in
    let bytes : string_bytes out ≡ encode_utf8_all (document_prints e) = search rules in
    made_ends c.args.path.now c.in_ok-value.value (chars c.args.value.now) (chars c.args.text.now) c.in_ok-document.document e out x y none value.spelling value.reads document.only document.reads c.in_ok-changed.ensures.made bytes

pub returns-clause-found : goal.returns-clause-found
returns-clause-found c =
    let d = c.in_ok-document.document in
    (document_says d, c.in_ok-document.ensures.found, c.in_ok-changed.ensures.found)
