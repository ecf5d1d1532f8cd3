use Rattle.kdl_laws.proofs.Common.{Ok, subst, sym, Text, IsDocument, document_prints, document_says, printed_text, document_derived}
use Rattle.kdl_laws.proofs.reading_back.printed_reads_back.Goals as goal

pub returns : goal.returns
returns c = λ d s h x. subst (λ (t : Text). IsDocument t (document_says d)) (sym (printed_text {E = Unit {0}} (Ok s) (document_prints d) h)) (document_derived d x)
