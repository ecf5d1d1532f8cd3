use Rattle.std.proofs.Common.{codes}
use Rattle.kdl_query.proofs.Reading.{after_still, still_then}
use Rattle.kdl_query.proofs.Testing.{word_accessor, name_word, tag_word, values_word, props_word, key_reads, no_words, still_at}
use Rattle.kdl_query.proofs.parse.tests.read_accessor.Goals as goal

pub returns-then-eat_text : goal.returns-then-eat_text
returns-then-eat_text c = word_accessor (codes "val(") _ _ _ _ _ c.if-eat_text.ensures.ate c.if-eat_text.ensures.moves c.read_argument.ensures

pub returns-then-eat_text-2 : goal.returns-then-eat_text-2
returns-then-eat_text-2 c = after_still _ _ _ _ _ (still_at c.if-eat_text.ensures.ate.1 c.if-eat_text.ensures.moves) (word_accessor (codes "prop(") _ _ _ _ _ c.if-eat_text-2.ensures.ate c.if-eat_text-2.ensures.moves c.read_property.ensures)

pub returns-then-eat_text-3 : goal.returns-then-eat_text-3
returns-then-eat_text-3 c = after_still _ _ _ _ _ (still_then (still_at c.if-eat_text.ensures.ate.1 c.if-eat_text.ensures.moves) (still_at c.if-eat_text-2.ensures.ate.1 c.if-eat_text-2.ensures.moves)) (word_accessor (codes "name(") _ _ _ _ _ c.if-eat_text-3.ensures.ate c.if-eat_text-3.ensures.moves (name_word _ _ _ _ c.read_word.ensures))

pub returns-then-eat_text-4 : goal.returns-then-eat_text-4
returns-then-eat_text-4 c = after_still _ _ _ _ _ (still_then (still_then (still_at c.if-eat_text.ensures.ate.1 c.if-eat_text.ensures.moves) (still_at c.if-eat_text-2.ensures.ate.1 c.if-eat_text-2.ensures.moves)) (still_at c.if-eat_text-3.ensures.ate.1 c.if-eat_text-3.ensures.moves)) (word_accessor (codes "tag(") _ _ _ _ _ c.if-eat_text-4.ensures.ate c.if-eat_text-4.ensures.moves (tag_word _ _ _ _ c.read_word-then-eat_text-4.ensures))

pub returns-then-eat_text-5 : goal.returns-then-eat_text-5
returns-then-eat_text-5 c = after_still _ _ _ _ _ (still_then (still_then (still_then (still_at c.if-eat_text.ensures.ate.1 c.if-eat_text.ensures.moves) (still_at c.if-eat_text-2.ensures.ate.1 c.if-eat_text-2.ensures.moves)) (still_at c.if-eat_text-3.ensures.ate.1 c.if-eat_text-3.ensures.moves)) (still_at c.if-eat_text-4.ensures.ate.1 c.if-eat_text-4.ensures.moves)) (word_accessor (codes "values(") _ _ _ _ _ c.if-eat_text-5.ensures.ate c.if-eat_text-5.ensures.moves (values_word _ _ _ _ c.read_word-then-eat_text-5.ensures))

pub returns-then-eat_text-6 : goal.returns-then-eat_text-6
returns-then-eat_text-6 c = after_still _ _ _ _ _ (still_then (still_then (still_then (still_then (still_at c.if-eat_text.ensures.ate.1 c.if-eat_text.ensures.moves) (still_at c.if-eat_text-2.ensures.ate.1 c.if-eat_text-2.ensures.moves)) (still_at c.if-eat_text-3.ensures.ate.1 c.if-eat_text-3.ensures.moves)) (still_at c.if-eat_text-4.ensures.ate.1 c.if-eat_text-4.ensures.moves)) (still_at c.if-eat_text-5.ensures.ate.1 c.if-eat_text-5.ensures.moves)) (word_accessor (codes "props(") _ _ _ _ _ c.if-eat_text-6.ensures.ate c.if-eat_text-6.ensures.moves (props_word _ _ _ _ c.read_word-then-eat_text-6.ensures))

pub returns-else-eat_text-6 : goal.returns-else-eat_text-6
returns-else-eat_text-6 c = key_reads _ _ _ _ (no_words _ _ _ _ _ _ _ c.if-eat_text.ensures.ate c.if-eat_text-2.ensures.ate c.if-eat_text-3.ensures.ate c.if-eat_text-4.ensures.ate c.if-eat_text-5.ensures.ate c.if-eat_text-6.ensures.ate) (after_still _ _ _ _ _ (still_then (still_then (still_then (still_then (still_then (still_at c.if-eat_text.ensures.ate.1 c.if-eat_text.ensures.moves) (still_at c.if-eat_text-2.ensures.ate.1 c.if-eat_text-2.ensures.moves)) (still_at c.if-eat_text-3.ensures.ate.1 c.if-eat_text-3.ensures.moves)) (still_at c.if-eat_text-4.ensures.ate.1 c.if-eat_text-4.ensures.moves)) (still_at c.if-eat_text-5.ensures.ate.1 c.if-eat_text-5.ensures.moves)) (still_at c.if-eat_text-6.ensures.ate.1 c.if-eat_text-6.ensures.moves)) c.read_key.ensures)
