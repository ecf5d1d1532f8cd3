use Rattle.std.proofs.Common.{refl}
use Rattle.kdl_text.specs.declared.numbers.Keyword.TheVariants.{True, False, Null, Infinity, NegativeInfinity, NotANumber}
use Rattle.kdl_text.proofs.Numeric.KeywordUnique.{by_keyword, IsNot, word_of, no_word}
use Rattle.kdl_text.proofs.numbers.keyword_of.Goals as goal

pub returns-then-is : goal.returns-then-is
returns-then-is c = word_of True _ (c.if-is.ensures.0 refl)

pub returns-then-is-2 : goal.returns-then-is-2
returns-then-is-2 c = word_of False _ (c.if-is-2.ensures.0 refl)

pub returns-then-is-3 : goal.returns-then-is-3
returns-then-is-3 c = word_of Null _ (c.if-is-3.ensures.0 refl)

pub returns-then-is-4 : goal.returns-then-is-4
returns-then-is-4 c = word_of Infinity _ (c.if-is-4.ensures.0 refl)

pub returns-then-is-5 : goal.returns-then-is-5
returns-then-is-5 c = word_of NegativeInfinity _ (c.if-is-5.ensures.0 refl)

pub returns-then-is-6 : goal.returns-then-is-6
returns-then-is-6 c = word_of NotANumber _ (c.if-is-6.ensures.0 refl)

pub returns-else-is-6 : goal.returns-else-is-6
returns-else-is-6 c = no_word _ (by_keyword (IsNot c.args.word.now) c.if-is.ensures.1 c.if-is-2.ensures.1 c.if-is-3.ensures.1 c.if-is-4.ensures.1 c.if-is-5.ensures.1 c.if-is-6.ensures.1)
