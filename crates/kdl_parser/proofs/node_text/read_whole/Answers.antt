use Rattle.std.proofs.Common.{[], ap, subst, sym, refl, ◌∙◌}
use Rattle.std.specs.Str.{chars}
use Rattle.kdl_text.specs.Internal.Here.{Here}
use Rattle.kdl_parser.specs.Internal.Building.{EndsIn}
use Rattle.kdl_parser.proofs.Answering.NodeTexts.{nothing_read}
use Rattle.kdl_parser.proofs.node_text.read_whole.Goals as goal

pub build-requires-clause-text : goal.build-requires-clause-text
build-requires-clause-text g c = subst (λ (h : Here). EndsIn h.text h.rest) (sym (c.new-2.ensures.cursor ∙ c.new-cursor.ensures)) ([], refl)

pub returns : goal.returns
returns g c =
    let new = c.new-2.ensures.cursor ∙ c.new-cursor.ensures in
    nothing_read g.N.ParsedNode.tree (chars c.args.text.now) c.new-2.result.cursor c.in-Err.failure (ap (λ (h : Here). h.text) new) (ap (λ (h : Here). h.rest) new) c.in-Err.ensures.answers
