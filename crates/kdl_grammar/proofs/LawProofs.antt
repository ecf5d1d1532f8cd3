-- The laws, put together.
use Rattle.std.proofs.Common.{Bool, false, subst}
use Rattle.kdl_text.specs.Chars.{Text}
use Rattle.kdl_grammar.specs.Data as data'
use Rattle.kdl_grammar.specs.Grammar.{last_gap, node_then, IsDocument, IsDocumentIn, IsNodeTextIn, node_text}
use Rattle.kdl_grammar.specs.Internal.MachineLaws.{IsLexed, OneAnswer, AnswersDocuments, AnswersAreLaid}
use Rattle.kdl_grammar.specs.Laws.{OneDocument, OneNode, LaidIsDerived, LaidNodeIsDerived, NodesAreLaid, FormerIsKept}
use Rattle.kdl_grammar.proofs.Reading.Complete.{lines_gap, built_node}
use Rattle.kdl_grammar.proofs.Laying.LaidIsDerived.{document_of, node_text_of}
use Rattle.kdl_grammar.proofs.Reading.Erased as erased
use Rattle.kdl_grammar.proofs.Laying.LaidPrints.{printed, node_text_printed}
use Rattle.kdl_grammar.proofs.Moving.FormerIsPresent.{wider, wider_node}

pub one_document : OneDocument
one_document wide t x y i j = erased.one_document t x y (wider wide i) (wider wide j)

-- a node text is a document with that node
as_document : {wide : Bool} {t : Text} {x : data'.Node} → IsNodeTextIn wide t x → IsDocumentIn wide t (data'.first x data'.none)
as_document (node_text g x e ls) = IsDocumentIn.no_bom (node_then g x e (last_gap (lines_gap ls)))

pub one_node : OneNode
one_node wide t x y i j = let e = one_document wide t (data'.first x data'.none) (data'.first y data'.none) (as_document i) (as_document j) in cc

pub is_lexed : IsLexed
is_lexed wide t x i = erased.lexed t x (wider wide i)

pub one_answer : OneAnswer
one_answer t d e a b = erased.answers_det a b

pub answers_documents : AnswersDocuments
answers_documents t x = (λ i. erased.answered t x i, λ d. subst (λ (z : data'.Nodes). IsDocument t z) d.2 (erased.sound t d.0 d.1).1)

pub answers_are_laid : AnswersAreLaid
answers_are_laid t d a = (erased.sound t d a).0

pub laid_is_derived : LaidIsDerived
laid_is_derived exact t d l = (document_of exact d t l, printed exact d t l)

pub laid_node_is_derived : LaidNodeIsDerived
laid_node_is_derived exact t x l = (node_text_of exact x t l, node_text_printed exact x t l)

pub nodes_are_laid : NodesAreLaid
nodes_are_laid t x i = let b = built_node i in (b.tree, b.laid, b.same)

pub former_is_kept : FormerIsKept
former_is_kept = (λ t x i. wider false i, λ t x i. wider_node false i)
