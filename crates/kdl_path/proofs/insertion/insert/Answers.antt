use Rattle.std.proofs.Common.{rules, ◌≡◌, string_bytes}
use Rattle.std.specs.Str.{chars, encode_utf8_all}
use Rattle.kdl.specs.Words.{document_prints, document_says}
use Rattle.kdl.specs.declared.document.KdlDocument.{KdlDocument}
use Rattle.kdl_path.specs.Failures.{InsertFails}
use Rattle.kdl_path.proofs.Edited.{inserted_text}
use Rattle.kdl_path.proofs.Failing.{err_is, missing_insert, no_ok, node_insert, text_fails}
use Rattle.kdl_path.proofs.insertion.insert.Goals as goal

pub returns-then-not-is_node-clause-fails : goal.returns-then-not-is_node-clause-fails
returns-then-not-is_node-clause-fails c = c.if-not-is_node.ensures

pub returns-in_err-node-clause-inserted : goal.returns-in_err-node-clause-inserted
returns-in_err-node-clause-inserted c = no_ok c.from_residual.result _ c.from_residual.ensures.0

pub returns-in_err-node-clause-found : goal.returns-in_err-node-clause-found
returns-in_err-node-clause-found c = no_ok c.from_residual.result _ c.from_residual.ensures.0

pub returns-in_err-node-clause-fails : goal.returns-in_err-node-clause-fails
returns-in_err-node-clause-fails c = err_is c.from_residual.result _ _ c.from_residual.ensures.1 (node_insert c.args.path.now c.args.node.now c.args.text.now _ c.in_err-node.ensures.refused)

pub returns-in_err-document-clause-inserted : goal.returns-in_err-document-clause-inserted
returns-in_err-document-clause-inserted c = no_ok c.from_residual-in_err-document.result _ c.from_residual-in_err-document.ensures.0

pub returns-in_err-document-clause-found : goal.returns-in_err-document-clause-found
returns-in_err-document-clause-found c = no_ok c.from_residual-in_err-document.result _ c.from_residual-in_err-document.ensures.0

pub returns-in_err-document-clause-fails : goal.returns-in_err-document-clause-fails
returns-in_err-document-clause-fails c = err_is c.from_residual-in_err-document.result _ _ c.from_residual-in_err-document.ensures.1 (text_fails KdlDocument (InsertFails c.args.path.now c.args.node.now c.args.text.now) c.args.text.now _ c.in_err-document.ensures.refused c.in_err-document.ensures.told (λ e h. h) tt)

pub returns-in_err-changed-clause-inserted : goal.returns-in_err-changed-clause-inserted
returns-in_err-changed-clause-inserted c = no_ok c.from_residual-in_err-changed.result _ c.from_residual-in_err-changed.ensures.0

pub returns-in_err-changed-clause-found : goal.returns-in_err-changed-clause-found
returns-in_err-changed-clause-found c = no_ok c.from_residual-in_err-changed.result _ c.from_residual-in_err-changed.ensures.0

pub returns-in_err-changed-clause-fails : goal.returns-in_err-changed-clause-fails
returns-in_err-changed-clause-fails c = err_is c.from_residual-in_err-changed.result _ _ c.from_residual-in_err-changed.ensures.1 (missing_insert c.args.path.now c.args.node.now c.args.text.now _ _ c.in_ok-document.ensures.found c.in_err-changed.ensures.missing)

pub returns-in_err-to_string-clause-fails : goal.returns-in_err-to_string-clause-fails
returns-in_err-to_string-clause-fails c = err_is c.from_residual-in_err-to_string.result _ _ c.from_residual-in_err-to_string.ensures.1 tt

pub returns-clause-inserted : goal.returns-clause-inserted
returns-clause-inserted c =
    let e = c.in_ok-changed.changed in
    let out = c.in_ok-to_string.field-0 in
    let document = c.in_ok-document.ensures in
    let node = c.in_ok-node.ensures in
    let bytes : string_bytes out ≡ encode_utf8_all (document_prints e) = search rules in
    inserted_text c.args.path.now (chars c.args.node.now) (chars c.args.text.now) c.in_ok-node.node c.in_ok-document.document e out c.if-not-is_node.ensures node.found node.reads document.only document.reads c.in_ok-changed.ensures.put bytes

pub returns-clause-found : goal.returns-clause-found
returns-clause-found c = (document_says c.in_ok-document.document, c.in_ok-document.ensures.found, c.in_ok-changed.ensures.found)
