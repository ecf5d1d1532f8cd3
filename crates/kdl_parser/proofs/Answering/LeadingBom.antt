-- A text with U+FEFF before it, or without.
use Rattle.std.proofs.Common.{◌≡◌, Bool, true, false, [], ◌∷◌, Some, Result, Ok, Err, IsErrAnd, sym, ap, subst, ◌∙◌}
use Rattle.std.specs.Prelude.{String}
use Rattle.std.specs.declared.alloc.Global.{Global}
use Rattle.kdl_value.specs.Tree.{text_of}
use Rattle.kdl_text.specs.Chars.{Text, begins}
use Rattle.kdl_text.specs.Internal.Here.{Here, Ate}
use Rattle.kdl_syntax.specs.declared.lexer.LexFailure.{LexFailure}
use Rattle.kdl_grammar.specs.Internal.Machine.{AnswersDocument}
use Rattle.kdl_grammar.specs.Tree.{Node, document}
use Rattle.kdl_parser.specs.Internal.Answered.{AnswersParts}
use Rattle.kdl_parser.specs.Internal.Building.{EndsIn}
use Rattle.kdl_parser.specs.Internal.Parts.{nodes_tree}
use Rattle.kdl_parser.specs.Internal.Whole.{AnswersDocumentText}
use Rattle.kdl_parser.specs.declared.node_parts.DocumentParts.{DocumentParts}
use Rattle.kdl_parser.proofs.Answering.Outcomes.{plain_answer, plain_failure, bom_answer, bom_failure}

-- the text stays
same_text : (t : Text) (eaten : Bool) (old new : Here) → old.text ≡ t → Ate 0xFEFF eaten old new → new.text ≡ t
same_text t true old new e a = a.3 ∙ e
same_text t false old new e a = ap (λ (h : Here). h.text) a.1 ∙ e

-- what is left after the U+FEFF, or where there is none
pub bom_ends : (t : Text) (eaten : Bool) (old new : Here) → old.text ≡ t → old.rest ≡ t → Ate 0xFEFF eaten old new → EndsIn new.text new.rest
bom_ends t true old new e f a = (0xFEFF ∷ [], same_text t true old new e a ∙ sym f ∙ a.0)
bom_ends t false old new e f a = ([], same_text t false old new e a ∙ sym f ∙ ap (λ (h : Here). h.rest) (sym a.1))

-- the result on the whole text
pub plain_read : {N : Type 0} (tree : N → Node) (t : Text) (old new : Here) (p : DocumentParts N) → old.text ≡ t → old.rest ≡ t → Ate 0xFEFF false old new → AnswersParts tree new.text new.rest (Ok p) → AnswersDocumentText tree t (Ok p)
plain_read tree t old new p e f a x =
    let u : new.rest ≡ t = ap (λ (h : Here). h.rest) a.1 ∙ f in
    plain_answer tree t p (subst (λ (z : Text). AnswersParts tree t z (Ok p)) u (subst (λ (z : Text). AnswersParts tree z new.rest (Ok p)) (same_text t false old new e a) x))

pub bom_read : {N : Type 0} (tree : N → Node) (t : Text) (old new : Here) (p : DocumentParts N) (w : String Global) → old.text ≡ t → old.rest ≡ t → Ate 0xFEFF true old new → AnswersParts tree new.text new.rest (Ok p) → text_of w ≡ 0xFEFF ∷ text_of p.leading
    → AnswersDocumentText tree t (Ok (record p { leading = w }))
bom_read tree t old new p w e f a x g =
    subst (λ (l : Text). AnswersDocument t (document (Some (record { leading = l; trailing = text_of p.trailing })) p.span (nodes_tree tree p.nodes.items))) (sym g)
    (bom_answer tree t new.rest p (sym f ∙ a.0) (subst (λ (z : Text). AnswersParts tree z new.rest (Ok p)) (same_text t true old new e a) x))

pub whole_failure : {N : Type 0} (tree : N → Node) (t : Text) (has_bom : Bool) (old new : Here) (failure : LexFailure) → old.text ≡ t → old.rest ≡ t → Ate 0xFEFF has_bom old new → AnswersParts tree new.text new.rest (Err failure)
    → AnswersDocumentText tree t (Err failure)
whole_failure tree t true old new failure e f a x =
    bom_failure tree t new.rest failure (sym f ∙ a.0) (subst (λ (z : Text). AnswersParts tree z new.rest (Err failure)) (same_text t true old new e a) x)
whole_failure tree t false old new failure e f a x =
    let u : new.rest ≡ t = ap (λ (h : Here). h.rest) a.1 ∙ f in
    plain_failure tree t failure (ap (begins 0xFEFF) (sym f) ∙ a.0) (subst (λ (z : Text). AnswersParts tree t z (Err failure)) u (subst (λ (z : Text). AnswersParts tree z new.rest (Err failure)) (same_text t false old new e a) x))

-- the failure is passed on
pub passed_failure : {N : Type 0} (tree : N → Node) (t : Text) (has_bom : Bool) (old new : Here) (failure : LexFailure) (r : Result (DocumentParts N) LexFailure) → old.text ≡ t → old.rest ≡ t → Ate 0xFEFF has_bom old new
    → AnswersParts tree new.text new.rest (Err failure) → IsErrAnd r (λ g. g ≡ failure) → AnswersDocumentText tree t r
passed_failure tree t has_bom old new failure (Ok p) e f a x h = absurd h
passed_failure tree t has_bom old new failure (Err g) e f a x h = subst (λ (q : LexFailure). AnswersDocumentText tree t (Err q)) (sym h) (whole_failure tree t has_bom old new failure e f a x)
