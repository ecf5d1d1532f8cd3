use Rattle.kdl_text.proofs.Quoted.KeywordBares.{word_test}
use Rattle.kdl_text.proofs.strings.is_word.Goals as goal

pub returns : goal.returns
returns c = word_test _ _ _ c.requires c.is.ensures
