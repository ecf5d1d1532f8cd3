use Rattle.std.proofs.Common.{sym, ◌∙◌}
use Rattle.kdl_text.proofs.Numeric.KeywordUnique.{keyword_here, keyword_moves}
use Rattle.kdl_text.proofs.Looking.Parts.{part_same}
use Rattle.kdl_text.proofs.Looking.MostCost.{word_most}
use Rattle.kdl_text.proofs.numbers.read_keyword.Goals as goal

pub returns-clause-reads : goal.returns-clause-reads
returns-clause-reads c =
    keyword_here _ _ _ _ _ _ _ c.if-not-eat.ensures c.skip.ensures.1 (sym c.checkpoint-start.ensures.rest ∙ c.slice-word.ensures.result) c.slice-word.ensures.moved c.keyword_of.ensures

pub returns-clause-moves : goal.returns-clause-moves
returns-clause-moves c = keyword_moves _ _ _ _ _ _ c.if-not-eat.ensures c.skip.ensures.1 c.slice-word.ensures.moved

pub slice-word-requires : goal.slice-word-requires
slice-word-requires c = (c.skip.ensures.0, c.checkpoint-start.ensures.rest ∙ c.skip.ensures.1.text, part_same c.checkpoint-start.ensures.part c.skip.ensures.1.same)

pub returns-clause-most : goal.returns-clause-most
returns-clause-most c = word_most _ _ _ _ _ _ _ _ c.if-not-eat.ensures c.skip.ensures.1 (sym c.checkpoint-start.ensures.rest ∙ c.slice-word.ensures.result) c.slice-word.ensures.moved
