-- The JSON of a document is read.
use Rattle.std.proofs.Common.{◌≡◌, ℕ, List, subst, sym}
use Rattle.kdl.specs.Tree.{document_says}
use Rattle.kdl_json.specs.Form.{IsJsonOf, json_text}
use Rattle.kdl_json.proofs.Printable.{text_is_json}
use Rattle.kdl_json.proofs.laws.json_reads_back.Goals as goal

pub returns : goal.returns
returns c =
    let x = document_says c.args.document.now in
    let w = c.in_ok-text.ensures.well_formed in
    let written = c.in_ok-text.ensures.text in
    let read = c.deref.ensures in
    let same : c.deref.result.now ≡ json_text x = cc in
    c.from_json.ensures.reads x w (subst (λ (t : List ℕ). IsJsonOf t x) (sym same) (text_is_json x w))
