use Rattle.kdl.proofs.Putting.Exact.{leads_exactly}
use Rattle.kdl.proofs.Common.{ap, arith, subst, chars, without_bom, Text, text_of, document_format_tree, GapSays, GapFewest, texts_around}
use Rattle.kdl_parts.specs.Formats.{document_texts}
use Rattle.kdl.proofs.Putting.NodeEnds.{copy_put}
use Rattle.kdl.proofs.document.KdlDocument.ended_leading.Goals as goal

pub returns : goal.returns
returns c =
    leads_exactly (texts_around c.args.self.now) (document_format_tree c.in-Some.format) (text_of c.push_newlines.new.text) c.in_ok-lacks.lacks (ap document_texts c.in-Some.is)
    (omega (arith, c.if-lacks-eq0.false)) c.in_ok-lacks.ensures.few
    (copy_put (text_of c.push_newlines.new.text) c.in_ok-leading.leading c.in-Some.format.leading c.in_ok-lacks.lacks c.in_ok-leading.ensures.cases c.in_ok-push_newlines.ensures)
    (subst (λ (t : Text). GapSays (without_bom t) c.in_ok-lacks.lacks) (ap chars c.deref.ensures) c.in_ok-lacks.ensures.says)
    (subst (λ (t : Text). GapFewest (without_bom t) c.in_ok-lacks.lacks) (ap chars c.deref.ensures) c.in_ok-lacks.ensures.fewest)
