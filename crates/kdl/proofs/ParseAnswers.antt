-- What a document, or a node, that was read says of the grammar.
use Rattle.kdl.proofs.Common.{ℕ, false, true, List, Result, Ok, Err, IfOk, IfOk-weaker, chars, node_tree, document_tree, KdlNode, KdlDocument}
use Rattle.kdl_text.specs.declared.error.ParseFailure.{ParseFailure}
use Rattle.kdl_text.specs.declared.error.ParseFailure.TheVariants.{Syntax, Memory}
use Rattle.kdl_grammar.specs.Internal.Machine.{AnswersDocument}
use Rattle.kdl_grammar.specs.Laid.{LaidNodeText}
use Rattle.kdl_grammar.proofs.Moving.FormerIsPresent.{wider, wider_node}
use Rattle.kdl_grammar.proofs.ReadingBack.LaidReads.{laid_reads, laid_node_reads}
use Rattle.kdl_parser.specs.Internal.Steps as steps
use Rattle.kdl_parser.proofs.Answering.Outcomes as outcomes
use Rattle.kdl_parser.proofs.Answering.EditedOutcomes as edited_outcomes
use Rattle.kdl_parser.proofs.Answering.NodeTexts as node_texts
use Rattle.kdl.specs.Parses.{ParsesDocument, ParsesNodeText}
use Rattle.kdl.proofs.LaidFormats.{laid_keeps_none, laid_node_keeps_none}

pub document_parsed : (text : List ℕ) (r : Result KdlDocument ParseFailure) (old new : ℕ) → IfOk r (λ d. AnswersDocument (chars text) (document_tree d)) → steps.Parses text r old new → ParsesDocument text r
document_parsed text r old new a p =
    let t = chars text in
    record {
      found = IfOk-weaker r _ _ (λ d x. outcomes.found t (document_tree d) x) a;
      only = IfOk-weaker r _ _ (λ d x. outcomes.only t (document_tree d) x) a;
      laid = IfOk-weaker r _ _ (λ d x. outcomes.laid t (document_tree d) x) a;
      prints = IfOk-weaker r _ _ (λ d x. outcomes.prints t (document_tree d) x) a;
      keeps_none = IfOk-weaker r _ _ (λ d x. laid_keeps_none true (document_tree d) t (outcomes.laid t (document_tree d) x)) a;
      refused = p.refused;
      told = p.told;
      kept = λ x i s. p.refused s x (wider false i);
      former = λ x i. IfOk-weaker r _ _ (λ d y. outcomes.former t (document_tree d) y x i) a;
      edited = IfOk-weaker r _ _ (λ d y e x. edited_outcomes.edited_found t (document_tree d) e y x) a;
      reads = IfOk-weaker r _ _ (λ d x. laid_reads true t (document_tree d) (outcomes.laid t (document_tree d) x)) a;
    }

-- what is promised of the parts is promised of the document that they make
pub made : {A B : Type 0} (text : List ℕ) (x : A) (y : B) (old new : ℕ) → steps.Parses text (Ok x) old new → steps.Parses text (Ok y) old new
made text x y old new p = record { refused = λ s. absurd s; told = tt; least = p.least; most = p.most; told_most = λ s. absurd s; raised = p.raised }

pub not_made : {A B : Type 0} (text : List ℕ) (f : ParseFailure) (old new : ℕ) → steps.Parses {A = A} text (Err f) old new → steps.Parses {A = B} text (Err f) old new
not_made text (Syntax e) old new p = record { refused = p.refused; told = p.told; least = tt; most = tt; told_most = p.told_most; raised = p.raised }
not_made text Memory old new p = record { refused = λ s. absurd s; told = tt; least = tt; most = tt; told_most = λ s. absurd s; raised = p.raised }

pub node_parsed : (text : List ℕ) (r : Result KdlNode ParseFailure) → IfOk r (λ n. LaidNodeText (chars text) (node_tree n)) → steps.ParsesNode text r → ParsesNodeText text r
node_parsed text r l p =
    let t = chars text in
    record {
      found = IfOk-weaker r _ _ (λ n x. node_texts.found t (node_tree n) x) l;
      only = IfOk-weaker r _ _ (λ n x. node_texts.only t (node_tree n) x) l;
      laid = l;
      prints = IfOk-weaker r _ _ (λ n x. node_texts.prints t (node_tree n) x) l;
      keeps_none = IfOk-weaker r _ _ (λ n x. laid_node_keeps_none true (node_tree n) t x) l;
      refused = p.refused;
      told = p.told;
      kept = λ x i s. p.refused s x (wider_node false i);
      former = λ x i. IfOk-weaker r _ _ (λ n y. node_texts.former t (node_tree n) y x i) l;
      reads = IfOk-weaker r _ _ (λ n x. laid_node_reads true t (node_tree n) x) l;
    }
