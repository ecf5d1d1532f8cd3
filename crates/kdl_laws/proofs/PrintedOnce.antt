-- What a document prints is one document at most.
use Rattle.kdl_laws.proofs.Common.{◌≡◌, Global, Ok, String, string_bytes, subst, true, encode_utf8_all, Text, text_of, IsDocument, printed_text, DocumentReadsBack, document_prints, document_says, KdlDocument, document_derived}
use Rattle.kdl_grammar.specs.Data.{Nodes}
use Rattle.kdl_grammar.proofs.LawProofs.{one_document}

pub text_printed : (s : String Global) (t : Text) → string_bytes s ≡ encode_utf8_all t → text_of s ≡ t
text_printed s t h = printed_text {E = Unit {0}} (Ok s) t h

pub printed : (d : KdlDocument) (s : String Global) → string_bytes s ≡ encode_utf8_all (document_prints d) → text_of s ≡ document_prints d
printed d s h = printed_text {E = Unit {0}} (Ok s) (document_prints d) h

pub printed_once : (d : KdlDocument) (s : String Global) (y : Nodes) → string_bytes s ≡ encode_utf8_all (document_prints d) → DocumentReadsBack d → IsDocument (text_of s) y → y ≡ document_says d
printed_once d s y h reads derived = one_document true (document_prints d) y (document_says d) (subst (λ (t : Text). IsDocument t y) (printed d s h) derived) (document_derived d reads)
