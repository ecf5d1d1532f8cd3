-- A document from the tokens of a text.
use Rattle.std.proofs.Common.{◌≡◌, ◌∷◌, [], List, Result, ap, sym, ◌∙◌}
use Rattle.std.specs.Prelude.{Ok, Err, IfOk}
use Rattle.json.specs.Token.{Token, begin_array, end_array}
use Rattle.kdl.specs.Tree.{document_says}
use Rattle.kdl.specs.declared.document.KdlDocument.{KdlDocument}
use Rattle.kdl_json.specs.Form.{document_tokens, nodes_tokens}
use Rattle.kdl_json.specs.Reading.{left}
use Rattle.kdl_json.specs.declared.failure.JsonFailure.{JsonFailure}
use Rattle.kdl_json.proofs.Tokens.{after_first}
use Rattle.kdl_json.proofs.read.from_json.Goals as goal

pub returns-in_err-begin_array-clause-reads : goal.returns-in_err-begin_array-clause-reads
returns-in_err-begin_array-clause-reads c = λ x fit e. absurd (c.in_err-begin_array.ensures.1 _ (c.new-source.ensures ∙ c.in_ok-reader.ensures.ok ∙ e))

document_sound : (r : Result KdlDocument JsonFailure) (all ts : List Token) → all ≡ begin_array ∷ ts → IfOk r (λ d. ts ≡ nodes_tokens (document_says d) (end_array ∷ [])) → IfOk r (λ d. all ≡ document_tokens (document_says d))
document_sound (Ok d) all ts s h = s ∙ ap (λ (us : List Token). begin_array ∷ us) h
document_sound (Err e) all ts s h = tt

pub returns-clause-sound : goal.returns-clause-sound
returns-clause-sound c =
    document_sound c.nodes.result _ (left c.begin_array.new.self) (sym c.in_ok-reader.ensures.ok ∙ sym c.new-source.ensures ∙ c.in_ok-begin_array.ensures) c.nodes.ensures.sound

pub returns-clause-reads : goal.returns-clause-reads
returns-clause-reads c = λ x fit e.
    c.nodes.ensures.reads x fit (after_first (sym c.in_ok-reader.ensures.ok ∙ sym c.new-source.ensures ∙ c.in_ok-begin_array.ensures) e)
